-- The rows that answer a log's lines: `ok` and what the call gives, or `refused`, 01's number and what comes with it.
-- Assumes nothing.
use Rattle.std.specs.Prelude.{List, [], ◌∷◌, map, ℕ, ◌+◌, ◌%◌}
use Rattle.lines.specs.Row.{decimal_of, row_of, refused}
use Rattle.slots.specs.Outcome.{Answer}
use Rattle.slots.specs.Outcome.{Done, StillLacking, Refused, RefusedWith}
use Rattle.slots.specs.Answers.{number_of, values_of}

-- `ok`
abbrev pub ok : List ℕ
ok = 111 ∷ 107 ∷ []

-- an accepted call with the numbers that it gives
unfoldable pub accepted_row : List ℕ → List ℕ
accepted_row values = row_of (ok ∷ map decimal_of values)

-- a refused call: its number and what comes with it
unfoldable pub refused_row : ℕ → List ℕ → List ℕ
refused_row number values = row_of (refused ∷ map decimal_of (number ∷ values))

unfoldable pub refusal_row : ℕ → List ℕ
refusal_row number = refused_row number []

-- what a call on a slot answers
unfoldable pub answer_row : Answer → List ℕ
answer_row Done = accepted_row (values_of Done)
answer_row (StillLacking n) = accepted_row (values_of (StillLacking n))
answer_row (Refused n) = refused_row (number_of (Refused n)) (values_of (Refused n))
answer_row (RefusedWith n x) = refused_row (number_of (RefusedWith n x)) (values_of (RefusedWith n x))

-- the digit of a bit, or of what Streams gives
unfoldable pub digit_of : ℕ → ℕ
digit_of b = 48 + b % 10

unfoldable pub digits_of : List ℕ → List ℕ
digits_of bits = map digit_of bits

-- an accepted call that gives bits
unfoldable pub run_row : List ℕ → List ℕ
run_row bits = row_of (ok ∷ digits_of bits ∷ [])

-- an accepted Streams
unfoldable pub runs_row : List ℕ → List ℕ → List ℕ → List ℕ
runs_row a b c = row_of (ok ∷ digits_of a ∷ digits_of b ∷ digits_of c ∷ [])
