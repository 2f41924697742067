-- A line that changes the form of every room of the state (02, E7), `pack` and `unpack`: the row that answers it, and the form afterwards.
-- Assumes nothing.
use Rattle.std.specs.Prelude.{Bool, true, false, cond, Option, None, Some, List, ℕ, eqb}
use Rattle.slots.specs.declared.State.{State}
use Rattle.slots.specs.Outcome.{Done}
use Rattle.lines.specs.Put.{end_at}
use Rattle.requests.specs.declared.Verb.{Verb}
use Rattle.requests.specs.declared.Verb.TheVariants.{New, Open, OpenDown, Close, Receive, Read, Streams, Build, BuildDown, Sizes, Worst, Pack, Unpack, Nothing, Unreadable}
use Rattle.answers.specs.Rows.{answer_row, refusal_row}
use Rattle.form_changes.specs.Change.{form_number}
use Rattle.form_changes.specs.declared.FormStep.{FormStep}

-- the form that a line asks for, if it asks for one: `pack` for the packed form, four places a byte, `unpack` for the plain one
unfoldable pub change_of : Verb → Option Bool
change_of New = None
change_of Open = None
change_of OpenDown = None
change_of Close = None
change_of Receive = None
change_of Read = None
change_of Streams = None
change_of Build = None
change_of BuildDown = None
change_of Sizes = None
change_of Worst = None
change_of Pack = Some true
change_of Unpack = Some false
change_of Nothing = None
change_of Unreadable = None

unfoldable pub change_row : State → ℕ → ℕ → List ℕ
change_row state plain packed =
    cond (eqb (form_number state plain packed) 0) (answer_row Done) (refusal_row (form_number state plain packed))

-- the form afterwards, where `to` is asked for
unfoldable pub form_after : State → Bool → Bool → ℕ → ℕ → Bool
form_after state four to plain packed = cond (eqb (form_number state plain packed) 0) to four

-- what such a line gives: the form, and the length of the row where that fits into the output, else 0
unfoldable pub change_made : State → Bool → Bool → ℕ → ℕ → List ℕ → FormStep
change_made state four to plain packed out =
    record { four = form_after state four to plain packed; written = end_at 0 (change_row state plain packed) out }
