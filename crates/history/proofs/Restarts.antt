-- What begins a slot's receptions anew, demand 3 'since that opening': exactly an accepted Open or Close of this slot.
-- Assumes nothing.
use mathlib.Core.Path.{◌≡◌, refl, sym, ◌∙◌, ap}
use mathlib.Core.Logic.{◌↔◌}
use mathlib.Core.Bool.{Bool, true, false, cond, ◌&&◌, and-eq-true_iff, true≢false}
use mathlib.Core.List.{List}
use Prim.Native.Nat.{ℕ}
use lib.Dec.{eqb}
use lib.ListN.{length}
use borrow.Author.Tests.{eq-eqb, eqb-true}
use Rattle.slots.specs.Outcome.{Done, Refused}
use Rattle.slots.specs.declared.State.{State}
use Rattle.slots.specs.Outcome.{Outcome}
use Rattle.slots.specs.State.{closed_head, open_head}
use Rattle.slots.specs.Answers.{number_of, unless_refused}
use Rattle.slots.specs.Calls.{with_head, close_number, close_outcome}
use Rattle.history.specs.Links.{share_in, opening_number}
use Rattle.history.specs.Calls.{Call, opening, receiving, reading, streaming, closing}
use Rattle.history.specs.Run.{outcome_of}
use Rattle.history.specs.Answered.{answer_to, slot_of}
use Rattle.history.specs.Later.{opens_or_closes, restarts}
use Rattle.history.proofs.Links.{opening_outcome_lem}

-- the number of an answer is 0 exactly where no rule applied
zero_exactly : (number : ℕ) (state : State) (accepted : Outcome) → number_of accepted.answer ≡ 0
    → (number_of (unless_refused number state accepted).answer ≡ 0) ↔ (number ≡ 0)
unfolding unless_refused number_of
zero_exactly number state accepted zero = (go (eqb number 0) refl, λ e. rw e zero)
  where
    go : (t : Bool) → eqb number 0 ≡ t → number_of (cond {A = Outcome} t accepted (record { answer = Refused number; state = state })).answer ≡ 0 → number ≡ 0
    go true e h = eqb-true number 0 e
    go false e h = h

done_zero : number_of Done ≡ 0
unfolding number_of
done_zero = refl

-- two tests together
both_exactly : (s slot number : ℕ) → ((eqb s slot && eqb number 0) ≡ true) ↔ ((s ≡ slot) × (number ≡ 0))
both_exactly s slot number = (
  λ e. let both = (and-eq-true_iff (eqb s slot) (eqb number 0)).0 e in (eqb-true s slot both.0, eqb-true number 0 both.1),
  λ e. (and-eq-true_iff (eqb s slot) (eqb number 0)).1 (eq-eqb s slot e.0, eq-eqb number 0 e.1),
)

-- What begins a slot's receptions anew is exactly a call that names this slot, is an Open or a Close, and is accepted.
pub restarts_exactly : (state : State) (store : List ℕ) (slot : ℕ) (call : Call)
    → (restarts state (length store) slot call ≡ true) ↔ ((slot_of call ≡ slot) × (opens_or_closes call ≡ true) × (number_of (answer_to state store call) ≡ 0))
unfolding restarts slot_of opens_or_closes answer_to outcome_of close_outcome
restarts_exactly state store slot (opening link s terminal A) =
    let number : ℕ = opening_number link state (length store) s A in
    let zero = zero_exactly number state (record { answer = Done; state = with_head state s (open_head terminal A (share_in link A)) }) done_zero in
    let is = ap (λ (o : Outcome). number_of o.answer) (opening_outcome_lem link state (length store) s terminal A) in (
      λ e. let k = (both_exactly s slot number).0 e in (k.0, refl, is ∙ zero.1 k.1),
      λ e. (both_exactly s slot number).1 (e.0, zero.0 (sym is ∙ e.2)),
    )
restarts_exactly state store slot (receiving s terminal r) = (λ e. absurd (true≢false (sym e)), λ e. absurd (true≢false (sym e.1)))
restarts_exactly state store slot (reading s terminal size) = (λ e. absurd (true≢false (sym e)), λ e. absurd (true≢false (sym e.1)))
restarts_exactly state store slot (streaming s terminal block size) = (λ e. absurd (true≢false (sym e)), λ e. absurd (true≢false (sym e.1)))
restarts_exactly state store slot (closing s terminal) =
    let number : ℕ = close_number state s terminal in
    let zero = zero_exactly number state (record { answer = Done; state = with_head state s closed_head }) done_zero in (
      λ e. let k = (both_exactly s slot number).0 e in (k.0, refl, zero.1 k.1),
      λ e. (both_exactly s slot number).1 (e.0, zero.0 e.2),
    )
