-- A row of numbers put into an output at a place: where there are 21 bytes for each number, else nothing.
-- Assumes nothing.
use Rattle.std.specs.Prelude.{Bool, cond, List, map, ℕ, ◌+◌, ◌*◌, leb, length}
use Rattle.lines.specs.Put.{put_over}
use Rattle.lines.specs.Row.{decimal_of, row_of}

-- the numbers in decimal as a row
abbrev pub numbers_row : List ℕ → List ℕ
numbers_row numbers = row_of (map decimal_of numbers)

-- whether there is room for any numbers of that count: 20 digits at most, each with its tab or newline
unfoldable pub has_room : ℕ → List ℕ → List ℕ → Bool
has_room at numbers out = leb (at + 21 * length numbers) (length out)

-- the output after the put
unfoldable pub put_numbers : ℕ → List ℕ → List ℕ → List ℕ
put_numbers at numbers out = cond (has_room at numbers out) (put_over at (numbers_row numbers) out) out

-- the place after the row, or `at` where there is no such room
unfoldable pub end_numbers : ℕ → List ℕ → List ℕ → ℕ
end_numbers at numbers out = cond (has_room at numbers out) (at + length (numbers_row numbers)) at
