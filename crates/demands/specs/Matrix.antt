-- The sub-block interleaver of d(0) and d(1) in the words of clause 5.1.4.1.1: a matrix written row by row, its columns permuted, read column by column.
-- Assumes nothing.
use Rattle.std.specs.Prelude.{List, [], ◌∷◌, ◌++◌, ℕ, zero, suc, length, get_or, take, drop}
use Rattle.laws.specs.Lists.{tab}
use Rattle.rate_matching.specs.Columns.{column}
use Rattle.rate_matching.specs.SubBlocks.{rows, padded}

-- (3) n rows of 32 entries, written row by row, starting with y_0 in column 0 of row 0
unfoldable pub written_rows : ℕ → List ℕ → List (List ℕ)
written_rows zero y = []
written_rows (suc n) y = take 32 y ∷ written_rows n (drop 32 y)

-- (4) the inter-column permutation: P(j) is the original column position of the j-th permuted column
unfoldable pub permuted_columns : List (List ℕ) → List (List ℕ)
permuted_columns [] = []
permuted_columns (row ∷ m) = tab 32 (λ (j : ℕ). get_or row (column j) 0) ∷ permuted_columns m

-- column j, from row 0 down
unfoldable pub column_of : ℕ → List (List ℕ) → List ℕ
column_of j [] = []
column_of j (row ∷ m) = get_or row j 0 ∷ column_of j m

-- (5) n columns from column j on, read one after the other
unfoldable pub read_out : ℕ → ℕ → List (List ℕ) → List ℕ
read_out j zero m = []
read_out j (suc n) m = column_of j m ++ read_out (suc j) n m

-- v(0) or v(1) of a stream: steps (1) to (5)
unfoldable pub interleaved_by : List ℕ → List ℕ
interleaved_by d = read_out 0 32 (permuted_columns (written_rows (rows (length d)) (padded d)))
