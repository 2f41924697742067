-- What 24 or 48 data bits do to the register in one stride: the tables that are looked up for it, and the words of eight bytes from which the bits are gathered.
-- Assumes nothing.
use Rattle.std.specs.Prelude.{◌≡◌, List, [], ◌∷◌, ℕ, ◌+◌, ◌*◌, ◌/◌, ◌%◌, ◌^◌, ◌<◌, length, get_or, replicate}
use Rattle.std.specs.Int.Bits.{bit_or}
use Rattle.laws.specs.Bits.{◌⊕◌, bits_of}
use Rattle.check_bits.specs.CheckBits.{crc_from}

-- the register s after n zeros
unfoldable pub after : ℕ → ℕ → ℕ → ℕ
after n g s = crc_from 24 g s (replicate n 0)

-- six rows of 16 entries: row r has what becomes, after n zeros, of each four bits that stand 4 r places up in the register
pub record IsTable (n g : ℕ) (t : List ℕ) : Type 0 where
  pub entry : (k : ℕ) → k < 96 → get_or t k 0 ≡ after n g (k % 16 * 2 ^ (k / 16 * 4))

-- the entries for the register's six times four bits, added
abbrev pub entries : List ℕ → ℕ → ℕ
entries t s =
    get_or t (s % 16) 0 ⊕ get_or t (16 + s / 2 ^ 4 % 16) 0 ⊕ get_or t (32 + s / 2 ^ 8 % 16) 0
    ⊕ get_or t (48 + s / 2 ^ 12 % 16) 0 ⊕ get_or t (64 + s / 2 ^ 16 % 16) 0 ⊕ get_or t (80 + s / 2 ^ 20 % 16) 0

-- the bits of a list are those of x, the first highest
pub record FewBits (bits : List ℕ) (x : ℕ) : Type 0 where
  pub small : x < 2 ^ length bits
  pub told : bits ≡ bits_of (length bits) x

-- the bytes of a list as one number, the first lowest
unfoldable pub word_of : List ℕ → ℕ
word_of [] = 0
word_of (b ∷ bs) = word_of bs * 2 ^ 8 + b

-- the lowest bits of a word's eight bytes as one byte, the first byte's highest: first two and two side by side, then four and four, then all
abbrev pub folded : ℕ → ℕ → ℕ
folded k w = bit_or w (w * 2 ^ k % 2 ^ 64)

abbrev pub lowest : ℕ → ℕ
lowest w = folded 36 (folded 18 (folded 9 w)) / 2 ^ 56 % 2 ^ 8
