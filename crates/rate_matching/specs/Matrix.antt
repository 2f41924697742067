-- The matrix of clause 5.1.4.1.1 as its columns lie on the circle of clause 5.1.4.1.2: where each begins, and the row and the column in which a stream place stands.
-- Assumes nothing.
use Rattle.std.specs.Prelude.{cond, not, ◌&&◌, List, map, ℕ, ◌+◌, ◌-◌, ◌*◌, ◌/◌, ◌%◌, ltb, leb, eqb, Option, Some, None}
use Rattle.laws.specs.Lists.{tab}
use Rattle.rate_matching.specs.declared.StreamPlace.{StreamPlace}
use Rattle.rate_matching.specs.declared.CirclePlace.{CirclePlace}
use Rattle.rate_matching.specs.declared.MatrixPlace.{MatrixPlace}
use Rattle.rate_matching.specs.Columns.{column}
use Rattle.rate_matching.specs.SubBlocks.{rows, dummies}
use Rattle.rate_matching.specs.Circle.{circle_length}
use Rattle.rate_matching.specs.Places.{circle_place, longest}

-- the places of the circle; none where no code block has streams of D places
unfoldable pub length_within : ℕ → Option ℕ
length_within D = cond (leb D longest) (Some (circle_length (rows D))) None

-- stream 0 has the first 32·R places of the circle, streams 1 and 2 the others by turns
unfoldable pub head_begin : ℕ → ℕ → ℕ
head_begin R s = cond (eqb s 0) 0 (32 * R + (s - 1))

-- the places from one column of stream s to the next
unfoldable pub head_width : ℕ → ℕ → ℕ
head_width R s = cond (eqb s 0) R (2 * R)

-- where column c of stream s begins, as it is sent
unfoldable pub column_head : ℕ → ℕ → ℕ → ℕ
column_head R s c = head_begin R s + c * head_width R s

-- where column p of the matrix, as it is written, begins: table 5.1.4-1 says as which column it is sent
unfoldable pub head_by : ℕ → ℕ → ℕ → ℕ
head_by R s p = column_head R s (column p)

-- where the columns of stream s begin
unfoldable pub heads_of : ℕ → ℕ → List CirclePlace
heads_of R s = map circle_place (tab 32 (head_by R s))

-- the same; none where streams of D places have no such stream
unfoldable pub heads_within : ℕ → ℕ → Option (List CirclePlace)
heads_within D s = cond (leb D longest && ltb 0 D && leb s 2) (Some (heads_of (rows D) s)) None

-- a row further is one place further in stream 0, and two where streams 1 and 2 stand by turns
unfoldable pub row_step : ℕ → ℕ
row_step s = cond (eqb s 0) 1 2

-- the y place of a stream place; stream 2 is read one further, so that its place is read where the plain rule reads the y place before it
unfoldable pub written_at : ℕ → StreamPlace → ℕ
written_at D p = dummies D + p.1 - p.0 / 2

-- its row and its column; none where there is no such place, or no dummy before it
unfoldable pub matrix_within : ℕ → StreamPlace → Option MatrixPlace
matrix_within D p =
    cond (leb D longest && not (eqb (D % 32) 0) && leb p.0 2 && ltb p.1 D)
    (Some (record { row = written_at D p / 32; column = written_at D p % 32 }))
    None
