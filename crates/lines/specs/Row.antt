-- The row that answers a line: tab-parted fields and a newline (01, "The sizes program").
-- Assumes nothing.
use Rattle.std.specs.Prelude.{true, false, Option, None, Some, Result, Ok, Err, List, [], ◌∷◌, ◌++◌, map, ℕ, zero, suc, ◌/◌, ltb}
use Rattle.lines.specs.Digits.{last_digits}
use Rattle.refusals.specs.declared.Refusal.{Refusal}
use Rattle.segmentation.specs.declared.Sizes.{Sizes}
use Rattle.segmentation.specs.Sizes.{sizes_answer, number_of, values_of}
use Rattle.lines.specs.Line.{line_of}

-- how many digits n takes: 1 below 10, else one more than its tenth takes; there are never more turns than n
unfoldable pub places_in : ℕ → ℕ → ℕ
places_in zero n = 1
places_in (suc turns) n = elim (ltb n 10) [ true ↦ 1 | false ↦ suc (places_in turns (n / 10)) ]

-- n in decimal, with the fewest digits
unfoldable pub decimal_of : ℕ → List ℕ
decimal_of n = last_digits 10 (places_in n n) n

abbrev pub tab : ℕ
tab = 9

abbrev pub newline : ℕ
newline = 10

-- what ends a field that these follow: a tab, or behind the last one a newline
unfoldable pub end_of : List (List ℕ) → ℕ
end_of [] = newline
end_of (f ∷ fs) = tab

-- the fields of a row as bytes
unfoldable pub row_of : List (List ℕ) → List ℕ
row_of [] = []
row_of (f ∷ fs) = f ++ (end_of fs ∷ row_of fs)

-- `-`
abbrev pub dash : List ℕ
dash = 45 ∷ []

-- `refused`
abbrev pub refused : List ℕ
refused = 114 ∷ 101 ∷ 102 ∷ 117 ∷ 115 ∷ 101 ∷ 100 ∷ []

-- a refused number prints itself, `refused` and the refusal's number
unfoldable pub answer_fields : ℕ → Result Sizes Refusal → List (List ℕ)
answer_fields A (Ok s) = map decimal_of (A ∷ values_of (Ok s))
answer_fields A (Err refusal) = decimal_of A ∷ refused ∷ decimal_of (number_of (Err refusal)) ∷ []

-- an unreadable line is number 15
unfoldable pub line_fields : Option ℕ → List (List ℕ)
line_fields (Some A) = answer_fields A (sizes_answer A)
line_fields None = dash ∷ refused ∷ decimal_of 15 ∷ []

-- the row of a line of the sizes program, whose numbers have 1 to 5 digits
unfoldable pub sizes_row : List ℕ → List ℕ
sizes_row l = row_of (line_fields (line_of 5 l))
