-- The forms that a message is worked out in: the bits with the six before them in front, three coded bits in a byte, and the bytes in the order of the columns.
-- Assumes nothing.
use Rattle.std.specs.Prelude.{Bool, List, ◌++◌, map, ℕ, ◌+◌, ◌-◌, ◌*◌, ◌/◌, ◌%◌, ◌^◌, ◌≤◌, leb, length, get_or, drop}
use Rattle.std.specs.Int.Bits.{bit_or}
use Rattle.laws.specs.Bits.{◌⊕◌}
use Rattle.laws.specs.Lists.{tab, keep}
use Rattle.rate_matching.specs.SubBlocks.{rows, dummies}
use Rattle.control_messages.specs.RateMatching.{read_control}

-- the last six bits, then all: each bit has the six before it in front of it
unfoldable pub with_lead : List ℕ → List ℕ
with_lead c = drop (length c - 6) c ++ c

-- the three coded bits of the bit that stands at place k + 6
abbrev pub first : List ℕ → ℕ → ℕ
first e k = get_or e (k + 6) 0 ⊕ get_or e (k + 4) 0 ⊕ get_or e (k + 3) 0 ⊕ get_or e (k + 1) 0 ⊕ get_or e k 0

abbrev pub second : List ℕ → ℕ → ℕ
second e k = get_or e (k + 6) 0 ⊕ get_or e (k + 5) 0 ⊕ get_or e (k + 4) 0 ⊕ get_or e (k + 3) 0 ⊕ get_or e k 0

abbrev pub third : List ℕ → ℕ → ℕ
third e k = get_or e (k + 6) 0 ⊕ get_or e (k + 5) 0 ⊕ get_or e (k + 4) 0 ⊕ get_or e (k + 2) 0 ⊕ get_or e k 0

-- all three in a byte
unfoldable pub three : List ℕ → ℕ → ℕ
three e k = bit_or (bit_or (first e k) (second e k * 2 ^ 1 % 2 ^ 8)) (third e k * 2 ^ 2 % 2 ^ 8)

-- a y place past the dummies
unfoldable pub past_dummies : ℕ → ℕ → Bool
past_dummies D y = leb (dummies D) y

-- the entry of a stream that stands at a y place past the dummies
unfoldable pub entry_at : ℕ → List ℕ → ℕ → ℕ
entry_at D x y = get_or x (y - dummies D) 0

-- the first D entries of x in the order of the columns, dummies left out
unfoldable pub in_columns : ℕ → List ℕ → List ℕ
in_columns D x = map (entry_at D x) (keep (past_dummies D) (tab (32 * rows D) (read_control (rows D))))

-- bit s of entry i
unfoldable pub bit_at : List ℕ → ℕ → ℕ → ℕ
bit_at x s i = get_or x i 0 / 2 ^ s % 2

-- one turn of the circle: the first bit of each of D bytes, then the second, then the third
unfoldable pub one_turn : ℕ → List ℕ → List ℕ
one_turn D x = tab D (bit_at x 0) ++ (tab D (bit_at x 1) ++ tab D (bit_at x 2))

-- payload and check of a message: 17 to 80 bits
pub record Sized (D : ℕ) : Type 0 where
  pub least : 17 ≤ D
  pub most : D ≤ 80
