-- Laws of the call that a line asks for (`call_step`): from what the call and its row gave, with the terminal and the bits that were handed over, to
-- what the definitions say of the line.
-- Assumes nothing.
use mathlib.Core.Path.{◌≡◌, refl, sym, ap}
use mathlib.Core.Bool.{Bool, true}
use mathlib.Core.List.{List}
use Prim.Native.Nat.{ℕ, ◌%◌, ◌≤◌}
use native.Mathlib.Omega.{arith}
use lib.ListN.{length}
use Rattle.slots.specs.declared.State.{State}
use Rattle.slots.specs.Outcome.{Outcome}
use Rattle.packing.specs.Store.{places_in}
use Rattle.lines.specs.Put.{put_at, end_at}
use Rattle.requests.specs.declared.Verb.{Verb}
use Rattle.requests.specs.declared.Verb.TheVariants.{New, Open, OpenDown, Close, Receive, Read, Streams, Build, BuildDown, Sizes, Worst, Pack, Unpack, Nothing, Unreadable}
use Rattle.std.specs.Prelude.{Some}
use Rattle.requests.specs.declared.Form.{Form}
use Rattle.requests.specs.declared.Request.{Request}
use Rattle.requests.specs.Verbs.{form_of}
use Rattle.requests.specs.Request.{longest_line, request_of, bits_from}
use Rattle.requests.proofs.Asked.{asked, terminal_fits}
use Rattle.call_rows.specs.Rows.{at}
use Rattle.line_calls.specs.Call.{outcome_by, store_by}
use Rattle.line_rows.specs.Row.{row_by}
use Rattle.yard.specs.declared.Step.{Step}
use Rattle.yard.specs.Step.{row_made, step_made, bits_of, call_row, call_step, call_store}

-- the call was made on the store, and then its row put
pub made : (v : Verb) (n : List ℕ) (terminal : ℕ) (bits : List ℕ) (state : State) (four : Bool) (store out : List ℕ) {o : Outcome} {store' out' : List ℕ} {written : ℕ}
    → o ≡ outcome_by v n terminal bits state (places_in four store) → store' ≡ store_by v n terminal bits state four store
    → (written ≡ end_at 0 (row_by v n terminal bits o (places_in four store')) out) × (out' ≡ put_at 0 (row_by v n terminal bits o (places_in four store')) out)
    → (◌≡◌ {A = Step} (record { state = o.state; four = four; written = written }) (step_made v n terminal bits state four store out))
    × ((store' ≡ store_by v n terminal bits state four store) × (out' ≡ put_at 0 (row_made v n terminal bits state four store) out))
unfolding step_made row_made
made v n terminal bits state four store out e t put = rw (← e, ← t, ← put.0) (refl, (refl, put.1))

-- a terminal and bits make no difference to a verb that has none
by_form : (v : Verb) (n : List ℕ) {t t' : ℕ} {bits bits' : List ℕ} → ((f : Form) → form_of v ≡ Some f → f.terminal ≡ true → t ≡ t') → ((f : Form) → form_of v ≡ Some f → f.bits ≡ true → bits ≡ bits')
    → (state : State) (four : Bool) (store : List ℕ)
    → (outcome_by v n t bits state (places_in four store) ≡ outcome_by v n t' bits' state (places_in four store))
    × (store_by v n t bits state four store ≡ store_by v n t' bits' state four store)
    × ((o : Outcome) (places : List ℕ) → row_by v n t bits o places ≡ row_by v n t' bits' o places)
unfolding form_of outcome_by store_by row_by
by_form New n f g state four store = (refl, refl, λ o places. refl)
by_form Open n f g state four store = rw (f _ refl refl) (refl, refl, λ o places. refl)
by_form OpenDown n f g state four store = rw (f _ refl refl) (refl, refl, λ o places. refl)
by_form Close n f g state four store = rw (f _ refl refl) (refl, refl, λ o places. refl)
by_form Receive n f g state four store = rw (f _ refl refl, g _ refl refl) (refl, refl, λ o places. refl)
by_form Read n f g state four store = rw (f _ refl refl) (refl, refl, λ o places. refl)
by_form Streams n f g state four store = rw (f _ refl refl) (refl, refl, λ o places. refl)
by_form Build n f g state four store = rw (g _ refl refl) (refl, refl, λ o places. refl)
by_form BuildDown n f g state four store = rw (g _ refl refl) (refl, refl, λ o places. refl)
by_form Sizes n f g state four store = (refl, refl, λ o places. refl)
by_form Worst n f g state four store = (refl, refl, λ o places. refl)
by_form Pack n f g state four store = (refl, refl, λ o places. refl)
by_form Unpack n f g state four store = (refl, refl, λ o places. refl)
by_form Nothing n f g state four store = (refl, refl, λ o places. refl)
by_form Unreadable n f g state four store = (refl, refl, λ o places. refl)

-- a line whose BITS were handed over where it is short enough to be read
module _ (line : List ℕ) {request : Request} (read : request ≡ request_of line) {bits : List ℕ} (given : length line ≤ longest_line → bits ≡ bits_from line request.bits)
    (state : State) (four : Bool) (store out : List ℕ) where
  verb_is : (request_of line).verb ≡ request.verb
  verb_is = ap (λ (r : Request). r.verb) (sym read)

  terminal_is : (f : Form) → form_of request.verb ≡ Some f → f.terminal ≡ true → at request.numbers 1 % 65536 ≡ at request.numbers 1
  terminal_is f known has = omega (arith, rw (← read) at (terminal_fits line request.verb f verb_is known has))

  bits_are : (f : Form) → form_of request.verb ≡ Some f → f.bits ≡ true → bits ≡ bits_from line request.bits
  bits_are f known has = given (asked line request.verb f verb_is known).short

  pub line_called : {step : Step} {store' out' : List ℕ}
      → (step ≡ step_made request.verb request.numbers (at request.numbers 1 % 65536) bits state four store out)
      × ((store' ≡ store_by request.verb request.numbers (at request.numbers 1 % 65536) bits state four store)
      × (out' ≡ put_at 0 (row_made request.verb request.numbers (at request.numbers 1 % 65536) bits state four store) out))
      → (step ≡ call_step state four store line out) × ((store' ≡ call_store state four store line) × (out' ≡ put_at 0 (call_row state four store line) out))
  unfolding call_step call_store call_row bits_of step_made row_made
  line_called told =
      let same = by_form request.verb request.numbers terminal_is bits_are state four store in
      rw (← read, ← same.0, ← same.1, ← same.2) told
