-- The lines of a text, what the sizes program prints for a text, and what one call of sizes_rows writes of that (01, "The sizes program").
-- Assumes nothing.
use Rattle.std.specs.Prelude.{cond, List, [], ◌∷◌, ◌++◌, ℕ, zero, suc, ◌+◌, ◌-◌, min, eqb, leb, length, take, drop}
use Rattle.octets.specs.Bytes.{index_of}
use Rattle.lines.specs.declared.Progress.{Progress}
use Rattle.lines.specs.Row.{newline, row_of, sizes_row}

-- the lines with the byte b put in front of the first
unfoldable pub onto : ℕ → List (List ℕ) → List (List ℕ)
onto b [] = (b ∷ []) ∷ []
onto b (l ∷ ls) = (b ∷ l) ∷ ls

-- the lines of a text: each newline ends one, and a last line without its newline counts
unfoldable pub lines_of : List ℕ → List (List ℕ)
lines_of [] = []
lines_of (b ∷ t) = cond (eqb b newline) ([] ∷ lines_of t) (onto b (lines_of t))

-- the rows of the lines
unfoldable pub rows_of : List (List ℕ) → List ℕ
rows_of [] = []
rows_of (l ∷ ls) = sizes_row l ++ rows_of ls

-- `size`, `blocks`, `longs`, `long`, `shorts`, `short`, `filler`
unfoldable pub header : List ℕ
header =
    row_of
    ((115 ∷ 105 ∷ 122 ∷ 101 ∷ [])
    ∷ (98 ∷ 108 ∷ 111 ∷ 99 ∷ 107 ∷ 115 ∷ [])
    ∷ (108 ∷ 111 ∷ 110 ∷ 103 ∷ 115 ∷ [])
    ∷ (108 ∷ 111 ∷ 110 ∷ 103 ∷ [])
    ∷ (115 ∷ 104 ∷ 111 ∷ 114 ∷ 116 ∷ 115 ∷ [])
    ∷ (115 ∷ 104 ∷ 111 ∷ 114 ∷ 116 ∷ [])
    ∷ (102 ∷ 105 ∷ 108 ∷ 108 ∷ 101 ∷ 114 ∷ [])
    ∷ [])

-- what the sizes program prints for the text that it reads
unfoldable pub sizes_output : List ℕ → List ℕ
sizes_output text = header ++ rows_of (lines_of text)

-- the place of the next newline from place `from` on, or of the text's end
unfoldable pub line_end : List ℕ → ℕ → ℕ
line_end text from = from + index_of newline (drop from text)

-- the bytes of the line that starts at `from`, without its newline
unfoldable pub line_at : List ℕ → ℕ → List ℕ
line_at text from = take (line_end text from - from) (drop from text)

-- the start of the line after it, or the text's end
unfoldable pub line_next : List ℕ → ℕ → ℕ
line_next text from = min (line_end text from + 1) (length text)

-- the start of the n-th line after the one at `from`
unfoldable pub start_after : List ℕ → ℕ → ℕ → ℕ
start_after text from zero = from
start_after text from (suc n) = start_after text (line_next text from) n

-- the room that a row is sure to fit: 7 fields of 20 digits at most, each with its tab or newline
abbrev pub row_room : ℕ
row_room = 147

-- how many lines are answered in `size` bytes: a line is answered where row_room bytes are left for its row
unfoldable pub answered : ℕ → List (List ℕ) → ℕ
answered size [] = 0
answered size (l ∷ ls) = cond (leb row_room size) (suc (answered (size - length (sizes_row l)) ls)) 0

-- of the text from place `from` on, the lines that a call with an output of `size` bytes answers
unfoldable pub answered_lines : List ℕ → ℕ → ℕ → ℕ
answered_lines text from size = answered size (lines_of (drop from text))

-- what the call writes
unfoldable pub written_rows : List ℕ → ℕ → ℕ → List ℕ
written_rows text from size = rows_of (take (answered_lines text from size) (lines_of (drop from text)))

-- the output afterwards: all other bytes stay
unfoldable pub rows_over : List ℕ → ℕ → List ℕ → List ℕ
rows_over text from out = written_rows text from (length out) ++ drop (length (written_rows text from (length out))) out

-- where the next call goes on, and how many bytes were written
unfoldable pub progress_of : List ℕ → ℕ → ℕ → Progress
progress_of text from size =
    record {
      next = start_after text from (answered_lines text from size);
      written = length (written_rows text from size);
    }

-- what n calls with outputs of `size` bytes write, each going on where the one before it stopped
unfoldable pub calls_from : List ℕ → ℕ → ℕ → ℕ → List ℕ
calls_from text size zero from = []
calls_from text size (suc n) from = written_rows text from size ++ calls_from text size n (progress_of text from size).next
