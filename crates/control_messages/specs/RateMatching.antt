-- Rate matching of clause 5.1.4.2: sub-blocks with the columns of table 5.1.4-2, a circle of the three one after another, the walk from its place 0.
-- Rows, dummies and the walk are those of clause 5.1.4.1 (`rate_matching`).
-- Assumes nothing.
use Rattle.std.specs.Prelude.{List, ◌++◌, ℕ, ◌+◌, ◌*◌, ◌/◌, ◌%◌, length}
use Rattle.laws.specs.Lists.{tab}
use Rattle.rate_matching.specs.Columns.{column}
use Rattle.rate_matching.specs.SubBlocks.{rows, dummies, read_columns, y_at}
use Rattle.rate_matching.specs.Walk.{selected}

-- P(j) of table 5.1.4-2: table 5.1.4-1 begun in its middle
unfoldable pub control_column : ℕ → ℕ
control_column j = column ((j + 16) % 32)

-- 5.1.4.2.1 (4), (5): v_k is the y of column P(k / R), row k mod R
unfoldable pub read_control : ℕ → ℕ → ℕ
read_control R k = read_columns control_column R k

-- v of a stream
unfoldable pub interleaved : List ℕ → List ℕ
interleaved d = tab (32 * rows (length d)) (y_at read_control d)

-- 5.1.4.2.2: w, the three one after another
unfoldable pub control_circle : List ℕ → List ℕ → List ℕ → List ℕ
control_circle d0 d1 d2 = interleaved d0 ++ (interleaved d1 ++ interleaved d2)

-- e_0 .. e_(E − 1): round the circle from place 0, dummies skipped
unfoldable pub matched : List ℕ → List ℕ → List ℕ → ℕ → List ℕ
matched d0 d1 d2 E = selected (control_circle d0 d1 d2) 0 E

-- where place i of stream s lies on the circle of streams of D places: the s-th of the three, there column P⁻¹(y mod 32), row y / 32 of y = N_D + i
unfoldable pub lies_at : ℕ → ℕ → ℕ → ℕ
lies_at D s i = s * (32 * rows D) + ((column ((dummies D + i) % 32) + 16) % 32 * rows D + (dummies D + i) / 32)
