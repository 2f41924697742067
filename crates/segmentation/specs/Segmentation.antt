-- Code block segmentation, clause 5.1.2, first part: the number of code blocks and their sizes, from the number B of bits with the transport check.
-- Assumes nothing.
use Rattle.std.specs.Prelude.{true, false, cond, ℕ, zero, suc, ◌+◌, ◌-◌, ◌*◌, ◌/◌, leb, ltb, eqb}
use Rattle.interleaver.specs.Table.{size_at, row_count}

-- the maximum code block size Z
abbrev pub Z : ℕ
Z = 6144

-- L, the check bits on each code block: 0 where B ≤ Z, else 24
unfoldable pub check_length : ℕ → ℕ
check_length B = cond (leb B Z) 0 24

-- C, the number of code blocks: 1 where B ≤ Z, else the ceiling of B / (Z − L)
unfoldable pub blocks : ℕ → ℕ
blocks B = cond (leb B Z) 1 ((B + 6119) / 6120)

-- B' = B + C·L
unfoldable pub with_checks : ℕ → ℕ
with_checks B = B + blocks B * check_length B

-- the first row from i on, among n, whose K has C·K ≥ need
unfoldable pub first_row : ℕ → ℕ → ℕ → ℕ → ℕ
first_row C need i zero = i
first_row C need i (suc n) = elim (leb need (C * size_at i)) [ true ↦ i | false ↦ first_row C need (suc i) n ]

-- the row of K+
unfoldable pub long_row : ℕ → ℕ
long_row B = first_row (blocks B) (with_checks B) 0 row_count

-- K+, the minimum K in table 5.1.3-3 such that C·K ≥ B'
unfoldable pub long : ℕ → ℕ
long B = size_at (long_row B)

-- K−: 0 where C = 1, else the maximum K in table 5.1.3-3 such that K < K+, which is that of the row before
unfoldable pub short : ℕ → ℕ
short B = cond (eqb (blocks B) 1) 0 (size_at (long_row B - 1))

-- C−: 0 where C = 1, else the floor of (C·K+ − B') / (K+ − K−)
unfoldable pub shorts : ℕ → ℕ
shorts B = cond (eqb (blocks B) 1) 0 ((blocks B * long B - with_checks B) / (long B - short B))

-- C+ = C − C−
unfoldable pub longs : ℕ → ℕ
longs B = blocks B - shorts B

-- F = C+·K+ + C−·K− − B', the number of filler bits
unfoldable pub filler : ℕ → ℕ
filler B = longs B * long B + shorts B * short B - with_checks B

-- K_r, the size of code block r: the short blocks come first
unfoldable pub size_of : ℕ → ℕ → ℕ
size_of B r = cond (ltb r (shorts B)) (short B) (long B)

-- the row of table 5.1.3-3 that has K_r
unfoldable pub row_of : ℕ → ℕ → ℕ
row_of B r = cond (ltb r (shorts B)) (long_row B - 1) (long_row B)

-- the filler bits of code block r: they stand at the front of block 0
unfoldable pub filler_of : ℕ → ℕ → ℕ
filler_of B r = cond (eqb r 0) (filler B) 0
