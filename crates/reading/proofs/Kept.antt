-- A call that keeps the state: its outcome is its answer beside the state as it came.
-- Assumes nothing.
use mathlib.Core.Path.{◌≡◌, refl, ◌∙◌, ap}
use mathlib.Core.Bool.{Bool, true, false, cond}
use mathlib.Core.List.{List}
use Prim.Native.Nat.{ℕ}
use lib.Dec.{eqb}
use Rattle.slots.specs.declared.State.{State}
use Rattle.slots.specs.Outcome.{Answer}
use Rattle.slots.specs.Outcome.{Refused}
use Rattle.slots.specs.Outcome.{Outcome}
use Rattle.slots.specs.Answers.{unless_refused}
use Rattle.slots.specs.Calls.{receive_outcome, read_outcome}

-- an accepted answer or a refusal, with the same state
pub kept : (number : ℕ) (state : State) (answer : Answer) → let o = unless_refused number state (record { answer = answer; state = state }) in
    ◌≡◌ {A = Outcome} (record { answer = o.answer; state = state }) o
unfolding unless_refused
kept number state answer = go (eqb number 0)
  where
    go : (t : Bool) → let o = cond {A = Outcome} t (record { answer = answer; state = state }) (record { answer = Refused number; state = state }) in
        ◌≡◌ {A = Outcome} (record { answer = o.answer; state = state }) o
    go true = refl
    go false = refl

-- beside a state
pub beside : {state : State} {a b : Answer} → a ≡ b → ◌≡◌ {A = Outcome} (record { answer = a; state = state }) (record { answer = b; state = state })
beside {state} e = ap (λ (x : Answer). record { answer = x; state = state }) e

pub receive_kept : (state : State) (slot terminal Q N v : ℕ) (bits places : List ℕ) {answer : Answer} → answer ≡ (receive_outcome state slot terminal Q N v bits places).answer
    → ◌≡◌ {A = Outcome} (record { answer = answer; state = state }) (receive_outcome state slot terminal Q N v bits places)
unfolding receive_outcome
receive_kept state slot terminal Q N v bits places e = beside e ∙ kept _ state _

pub read_kept : (state : State) (places : List ℕ) (slot terminal size : ℕ) {answer : Answer} → answer ≡ (read_outcome state places slot terminal size).answer
    → ◌≡◌ {A = Outcome} (record { answer = answer; state = state }) (read_outcome state places slot terminal size)
unfolding read_outcome
read_kept state places slot terminal size e = beside e ∙ kept _ state _
