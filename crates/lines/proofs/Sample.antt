-- 01's example of the sizes program, computed: the input 16, 1, 6121, 30577, one a line, and its four rows.
-- Assumes nothing.
use mathlib.Core.Path.{◌≡◌, refl}
use mathlib.Core.List.{List, [], ◌∷◌, ◌++◌}
use Prim.Native.Nat.{ℕ}
use Rattle.interleaver.specs.Table.{size_table, size_at}
use Rattle.segmentation.specs.Segmentation.{blocks, check_length, with_checks, first_row, long_row, long, short, shorts, longs, filler}
use Rattle.segmentation.specs.Sizes.{bad_size, sizes_of, sizes_answer, number_of, values_of}
use Rattle.lines.specs.Line.{is_digit, read_on, too_long, leading_zero, line_of}
use Rattle.lines.specs.Row.{places_in, decimal_of, end_of, row_of, answer_fields, line_fields, sizes_row}
use Rattle.lines.specs.Text.{onto, lines_of, rows_of, header, sizes_output}

unfoldable pub input : List ℕ
input =
    (49 ∷ 54 ∷ 10 ∷ [])
    ++ (49 ∷ 10 ∷ [])
    ++ (54 ∷ 49 ∷ 50 ∷ 49 ∷ 10 ∷ [])
    ++ (51 ∷ 48 ∷ 53 ∷ 55 ∷ 55 ∷ 10 ∷ [])

unfoldable pub rows : List ℕ
rows =
    (49 ∷ 54 ∷ 9 ∷ 49 ∷ 9 ∷ 49 ∷ 9 ∷ 52 ∷ 48 ∷ 9 ∷ 48 ∷ 9 ∷ 48 ∷ 9 ∷ 48 ∷ 10 ∷ [])
    ++ (49 ∷ 9 ∷ 49 ∷ 9 ∷ 49 ∷ 9 ∷ 52 ∷ 48 ∷ 9 ∷ 48 ∷ 9 ∷ 48 ∷ 9 ∷ 49 ∷ 53 ∷ 10 ∷ [])
    ++ (54 ∷ 49 ∷ 50 ∷ 49 ∷ 9 ∷ 50 ∷ 9 ∷ 49 ∷ 9 ∷ 51 ∷ 49 ∷ 51 ∷ 54 ∷ 9 ∷ 49 ∷ 9 ∷ 51 ∷ 48 ∷ 55 ∷ 50 ∷ 9 ∷ 49 ∷ 53 ∷ 10 ∷ [])
    ++ (51 ∷ 48 ∷ 53 ∷ 55 ∷ 55 ∷ 9 ∷ 114 ∷ 101 ∷ 102 ∷ 117 ∷ 115 ∷ 101 ∷ 100 ∷ 9 ∷ 49 ∷ 10 ∷ [])

pub sample : sizes_output input ≡ header ++ rows
unfolding input rows sizes_output rows_of lines_of onto sizes_row line_fields answer_fields row_of end_of decimal_of places_in line_of leading_zero too_long read_on is_digit values_of number_of sizes_answer sizes_of bad_size filler longs shorts short long long_row first_row with_checks check_length blocks size_at size_table
sample = refl
