-- Laws of a line on both stores (`step_of`): a change of form, or a call on the store that has the rooms.
-- Assumes nothing.
use mathlib.Core.Path.{◌≡◌, refl, sym, ap}
use mathlib.Core.Bool.{Bool, true, false, cond}
use mathlib.Core.List.{List}
use Prim.Native.Nat.{ℕ, ◌≤◌, ◌<◌}
use native.Mathlib.Omega.{arith}
use Rattle.std.specs.Prelude.{Option, None, Some}
use lib.Dec.{ltb}
use lib.ListN.{length}
use borrow.Author.Tests.{lt-ltb, le-ltb}
use Rattle.slots.specs.declared.State.{State}
use Rattle.lines.specs.Put.{put_at, end_at}
use Rattle.lines.proofs.Putting.{end_within}
use Rattle.requests.specs.declared.Request.{Request}
use Rattle.requests.specs.Request.{request_of}
use Rattle.yard.specs.declared.Step.{Step}
use Rattle.form_changes.specs.declared.FormStep.{FormStep}
use Rattle.form_changes.specs.Change.{plain_changed, packed_changed}
use Rattle.form_changes.specs.Line.{change_of, change_row, change_made}
use Rattle.yard.specs.Step.{step_made, call_row, call_step, call_store, row_of_line, change_step, step_of, plain_after, packed_after, out_after, longest_row, step_within, plain_within, packed_within, out_within}

module _ (state : State) (four : Bool) (plain packed line out : List ℕ) {request : Request} (read : request ≡ request_of line) {change : Option Bool} (asks : change ≡ change_of request.verb) where
  -- the step, both stores and the output
  abbrev Told : Step → List ℕ → List ℕ → List ℕ → Type 0
  Told step plain' packed' out' =
      (step ≡ step_of state four plain packed line out)
      × ((plain' ≡ plain_after state four plain packed line)
      × ((packed' ≡ packed_after state four plain packed line) × (out' ≡ out_after state four plain packed line out)))

  verb_is : (request_of line).verb ≡ request.verb
  verb_is = ap (λ (r : Request). r.verb) (sym read)

  pub by_change : {to : Bool} → change ≡ Some to → {changed : FormStep} (plain' packed' out' : List ℕ)
      → (changed ≡ change_made state four to (length plain) (length packed) out)
      × ((plain' ≡ plain_changed state four to plain packed)
      × ((packed' ≡ packed_changed state four to plain packed) × (out' ≡ put_at 0 (change_row state (length plain) (length packed)) out)))
      → Told (record { state = state; four = changed.four; written = changed.written }) plain' packed' out'
  unfolding step_of plain_after packed_after out_after row_of_line change_step change_made
  by_change does plain' packed' out' made = rw (verb_is, ← asks, does)
      (ap (λ (x : FormStep). record { state = state; four = x.four; written = x.written }) made.0, made.1)

  pub by_packed_call : change ≡ None → four ≡ true → (step : Step) (packed' out' : List ℕ)
      → (step ≡ call_step state true packed line out) × ((packed' ≡ call_store state true packed line) × (out' ≡ put_at 0 (call_row state true packed line) out))
      → Told step plain packed' out'
  unfolding step_of plain_after packed_after out_after row_of_line
  by_packed_call none f step packed' out' made = rw (verb_is, ← asks, none, f) (made.0, (refl, (made.1.0, made.1.1)))

  pub by_plain_call : change ≡ None → four ≡ false → (step : Step) (plain' out' : List ℕ)
      → (step ≡ call_step state false plain line out) × ((plain' ≡ call_store state false plain line) × (out' ≡ put_at 0 (call_row state false plain line) out))
      → Told step plain' packed out'
  unfolding step_of plain_after packed_after out_after row_of_line
  by_plain_call none f step plain' out' made = rw (verb_is, ← asks, none, f) (made.0, (made.1.0, (refl, made.1.1)))

-- the length that a step tells is that of its row
pub step_row : (state : State) (four : Bool) (plain packed line out : List ℕ)
    → (step_of state four plain packed line out).written ≡ end_at 0 (row_of_line state four plain packed line) out
unfolding step_of row_of_line change_step call_step call_row step_made
step_row state four plain packed line out = go (change_of (request_of line).verb) refl
  where
    go : (asked : Option Bool) → change_of (request_of line).verb ≡ asked → (step_of state four plain packed line out).written ≡ end_at 0 (row_of_line state four plain packed line) out
    go None e = simp e
    go (Some to) e = simp e

-- ---- only where the answer is sure to fit

module _ (state : State) (four : Bool) (plain packed line out : List ℕ) where
  -- the step, both stores and the output
  abbrev Within : Step → List ℕ → List ℕ → List ℕ → Type 0
  Within step plain' packed' out' =
      (step ≡ step_within state four plain packed line out)
      × ((plain' ≡ plain_within state four plain packed line (length out))
      × ((packed' ≡ packed_within state four plain packed line (length out)) × (out' ≡ out_within state four plain packed line out)))

  pub nothing_done : length out < longest_row → Within (record { state = state; four = four; written = 0 }) plain packed out
  unfolding step_within plain_within packed_within out_within
  nothing_done short = rw (lt-ltb (length out) longest_row short) (refl, (refl, (refl, refl)))

  pub line_made : longest_row ≤ length out → (step : Step) (plain' packed' out' : List ℕ)
      → (step ≡ step_of state four plain packed line out)
      × ((plain' ≡ plain_after state four plain packed line)
      × ((packed' ≡ packed_after state four plain packed line) × (out' ≡ out_after state four plain packed line out)))
      → Within step plain' packed' out'
  unfolding step_within plain_within packed_within out_within
  line_made long step plain' packed' out' made = rw (le-ltb (length out) longest_row long) made

  -- what is written stands within the output
  pub written_within : (step_within state four plain packed line out).written ≤ length out
  unfolding step_within
  written_within = go (ltb (length out) longest_row)
    where
      go : (t : Bool) → (cond {A = Step} t (record { state = state; four = four; written = 0 }) (step_of state four plain packed line out)).written ≤ length out
      go true = omega arith
      go false = omega (arith, step_row state four plain packed line out, end_within 0 (row_of_line state four plain packed line) out (omega arith))
