-- A line of the yard's log as one call of 01 on a state and the rooms in one of two stores, or as a change of their form (02, E7): the answer's row,
-- and the state, the form and both stores afterwards.
-- Assumes nothing.
use Rattle.std.specs.Prelude.{Bool, false, true, cond, Option, None, Some, List, ℕ, ltb, length}
use Rattle.slots.specs.declared.State.{State}
use Rattle.packing.specs.Store.{places_in}
use Rattle.lines.specs.Put.{put_at, end_at}
use Rattle.requests.specs.declared.Verb.{Verb}
use Rattle.requests.specs.Request.{request_of, bits_from}
use Rattle.call_rows.specs.Rows.{at}
use Rattle.line_calls.specs.Call.{outcome_by, store_by}
use Rattle.line_rows.specs.Row.{row_by}
use Rattle.form_changes.specs.Change.{plain_changed, packed_changed}
use Rattle.form_changes.specs.Line.{change_of, change_row, form_after}
use Rattle.yard.specs.declared.Step.{Step}

-- ---- a call by its verb, numbers n, terminal and bits, on the store that has the rooms, in its form

-- the row that tells it
unfoldable pub row_made : Verb → List ℕ → ℕ → List ℕ → State → Bool → List ℕ → List ℕ
row_made v n terminal bits state four store =
    row_by v n terminal bits (outcome_by v n terminal bits state (places_in four store)) (places_in four (store_by v n terminal bits state four store))

-- the step that it makes: the state afterwards, the form as it was, and the length of the row where that fits into the output, else 0
unfoldable pub step_made : Verb → List ℕ → ℕ → List ℕ → State → Bool → List ℕ → List ℕ → Step
step_made v n terminal bits state four store out =
    record {
      state = (outcome_by v n terminal bits state (places_in four store)).state;
      four = four;
      written = end_at 0 (row_made v n terminal bits state four store) out;
    }

-- a line's BITS
unfoldable pub bits_of : List ℕ → List ℕ
bits_of line = bits_from line (request_of line).bits

-- ---- the call that a line asks for: its terminal is the second number

unfoldable pub call_row : State → Bool → List ℕ → List ℕ → List ℕ
call_row state four store line =
    row_made (request_of line).verb (request_of line).numbers (at (request_of line).numbers 1) (bits_of line) state four store

unfoldable pub call_step : State → Bool → List ℕ → List ℕ → List ℕ → Step
call_step state four store line out =
    step_made (request_of line).verb (request_of line).numbers (at (request_of line).numbers 1) (bits_of line) state four store out

unfoldable pub call_store : State → Bool → List ℕ → List ℕ → List ℕ
call_store state four store line =
    store_by (request_of line).verb (request_of line).numbers (at (request_of line).numbers 1) (bits_of line) state four store

-- ---- a line on both stores: the rooms stand in the plain one, or with four places a byte in the packed one

-- what a change of form gives, where a line asks for one, else what its call gives
abbrev pub by_change : {A : Type 0} → Option Bool → (Bool → A) → A → A
by_change None changed called = called
by_change (Some to) changed called = changed to

-- the row that answers a line
unfoldable pub row_of_line : State → Bool → List ℕ → List ℕ → List ℕ → List ℕ
row_of_line state four plain packed line =
    by_change (change_of (request_of line).verb)
    (λ to. change_row state (length plain) (length packed))
    (call_row state four (cond four packed plain) line)

-- the step that a change of form makes
unfoldable pub change_step : State → Bool → Bool → ℕ → ℕ → List ℕ → Step
change_step state four to plain packed out =
    record {
      state = state;
      four = form_after state four to plain packed;
      written = end_at 0 (change_row state plain packed) out;
    }

-- the step that a line makes
unfoldable pub step_of : State → Bool → List ℕ → List ℕ → List ℕ → List ℕ → Step
step_of state four plain packed line out =
    by_change (change_of (request_of line).verb)
    (λ to. change_step state four to (length plain) (length packed) out)
    (call_step state four (cond four packed plain) line out)

-- the two stores afterwards
unfoldable pub plain_after : State → Bool → List ℕ → List ℕ → List ℕ → List ℕ
plain_after state four plain packed line =
    by_change (change_of (request_of line).verb)
    (λ to. plain_changed state four to plain packed)
    (cond four plain (call_store state false plain line))

unfoldable pub packed_after : State → Bool → List ℕ → List ℕ → List ℕ → List ℕ
packed_after state four plain packed line =
    by_change (change_of (request_of line).verb)
    (λ to. packed_changed state four to plain packed)
    (cond four (call_store state true packed line) packed)

-- the output with the row over its front, where it fits
unfoldable pub out_after : State → Bool → List ℕ → List ℕ → List ℕ → List ℕ → List ℕ
out_after state four plain packed line out = put_at 0 (row_of_line state four plain packed line) out

-- ---- only where the answer is sure to fit

-- no row is longer: `ok`, a tab, a codeword of 172,800 bits and a newline
abbrev pub longest_row : ℕ
longest_row = 172804

-- with a shorter output nothing is done
unfoldable pub step_within : State → Bool → List ℕ → List ℕ → List ℕ → List ℕ → Step
step_within state four plain packed line out =
    cond (ltb (length out) longest_row)
    (record { state = state; four = four; written = 0 })
    (step_of state four plain packed line out)

-- the two stores and the output afterwards, where the output has `size` bytes
unfoldable pub plain_within : State → Bool → List ℕ → List ℕ → List ℕ → ℕ → List ℕ
plain_within state four plain packed line size =
    cond (ltb size longest_row) plain (plain_after state four plain packed line)

unfoldable pub packed_within : State → Bool → List ℕ → List ℕ → List ℕ → ℕ → List ℕ
packed_within state four plain packed line size =
    cond (ltb size longest_row) packed (packed_after state four plain packed line)

unfoldable pub out_within : State → Bool → List ℕ → List ℕ → List ℕ → List ℕ → List ℕ
out_within state four plain packed line out =
    cond (ltb (length out) longest_row) out (out_after state four plain packed line out)
