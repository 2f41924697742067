-- The inter-column permutation pattern of the three sub-block interleavers, clause 5.1.4.1.1, as a rule: a column's number is its five bits read backwards.
-- Assumes nothing.
use Rattle.std.specs.Prelude.{cond, List, [], ◌∷◌, reverse, ℕ, ◌+◌, ◌*◌, ◌^◌, ltb, length}
use Rattle.laws.specs.Lists.{tab}
use Rattle.laws.specs.Bits.{bits_of}

-- the number that bits are, the first of them the highest
unfoldable pub number_of : List ℕ → ℕ
number_of [] = 0
number_of (b ∷ bs) = b * 2 ^ length bs + number_of bs

-- the rule: the five bits of c, read backwards
unfoldable pub turned_round : ℕ → ℕ
turned_round c = number_of (reverse (bits_of 5 c))

-- P(c), the original position of column c; 0 past the 32 columns
unfoldable pub column : ℕ → ℕ
column c = cond (ltb c 32) (turned_round c) 0

-- P(0), .., P(31)
unfoldable pub column_table : List ℕ
column_table = tab 32 column
