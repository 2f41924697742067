-- The place that the second encoder reads, clause 5.1.3.2.3: Π(i) = (f1·i + f2·i²) mod K.
-- Assumes nothing.
use Rattle.std.specs.Prelude.{List, ℕ, ◌+◌, ◌*◌, ◌%◌, get_or}
use Rattle.laws.specs.Lists.{tab}
use Rattle.interleaver.specs.Table.{size_at, f1_at, f2_at}

-- Π(i), for any K, f1 and f2
unfoldable pub quadratic : ℕ → ℕ → ℕ → ℕ → ℕ
quadratic K f1 f2 i = (f1 * i + f2 * (i * i)) % K

-- Π(i), for the K, f1 and f2 of a row of the table
unfoldable pub second_place : ℕ → ℕ → ℕ
second_place row i = quadratic (size_at row) (f1_at row) (f2_at row) i

-- c'_i = c_Π(i)
unfoldable pub second_bit : ℕ → List ℕ → ℕ → ℕ
second_bit row c i = get_or c (second_place row i) 0

-- the bits c' that enter the second encoder
unfoldable pub interleaved : ℕ → List ℕ → List ℕ
interleaved row c = tab (size_at row) (second_bit row c)
