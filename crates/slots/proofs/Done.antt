-- Whether an opening was accepted is told by its answer, 01 'Open' and 02 E6: it is done exactly where the number is 0, and the slot's room is then in the store.
-- Assumes nothing.
use mathlib.Core.Path.{◌≡◌, refl, ap}
use mathlib.Core.Bool.{Bool, true, false, cond}
use Prim.Native.Nat.{ℕ, ◌+◌, ◌≤◌, ◌<◌}
use native.Mathlib.Omega.{arith}
use lib.Dec.{eqb}
use borrow.Author.Tests.{eqb-true}
use Rattle.slots.specs.Outcome.{Done, Refused}
use Rattle.slots.specs.Outcome.{Outcome}
use Rattle.slots.specs.declared.State.{State}
use Rattle.slots.specs.State.{room_length, room_start}
use Rattle.slots.specs.Answers.{is_done, unless_refused}
use Rattle.slots.specs.Calls.{opened_for, open_number, open_outcome, open_down_number, open_down_outcome}
use Rattle.slots.proofs.Accepted.{Stored, openable, down_open}

done_told : (n : ℕ) (state : State) (o : Outcome) → o.answer ≡ Done → is_done (unless_refused n state o).answer ≡ eqb n 0
unfolding unless_refused is_done
done_told n state o e = go (eqb n 0)
  where
    go : (b : Bool) → is_done (cond b o (record { answer = Refused n; state = state })).answer ≡ b
    go true = ap is_done e
    go false = refl

module _ (state : State) (room slot terminal A : ℕ) where
  pub open_told : is_done (open_outcome state room slot terminal A).answer ≡ eqb (open_number state room slot A) 0
  unfolding open_outcome
  open_told = done_told _ state _ refl

  pub open_stored : open_number state room slot A ≡ 0 → Stored state room slot
  open_stored z = (openable state room slot A refl z).slot_stored

  module _ (release k_mimo processes Nsoft layers : ℕ) where
    pub down_told : is_done (open_down_outcome state room slot terminal A release k_mimo processes Nsoft layers).answer
        ≡ eqb (open_down_number state room slot A release k_mimo processes Nsoft layers) 0
    unfolding open_down_outcome
    down_told = done_told _ state _ refl

    pub down_stored : open_down_number state room slot A release k_mimo processes Nsoft layers ≡ 0 → Stored state room slot
    down_stored z = open_stored (down_open state room slot A release k_mimo processes Nsoft layers z)

-- there is such a slot
pub eight : {state : State} {room slot : ℕ} → Stored state room slot → slot < 8
eight s = omega (arith, s.present, s.state_good.shape.slots_most)

-- and the store has its room
pub room_there : {state : State} {room slot : ℕ} → Stored state room slot
    → (state.blocks ≤ 5) × (slot ≤ 8) × (room_start state.blocks slot + room_length state.blocks ≤ room)
room_there s = (s.state_good.shape.blocks_most, omega (arith, eight s), s.within)

-- the same number, and where it is 0 the same share
pub same_opened : (n n' : ℕ) (state : State) (slot terminal A soft soft' : ℕ) → n ≡ n' → (n ≡ 0 → soft ≡ soft')
    → unless_refused n state (opened_for state slot terminal A soft) ≡ unless_refused n' state (opened_for state slot terminal A soft')
unfolding unless_refused
same_opened n n' state slot terminal A soft soft' e f = rw (← e) (go (eqb n 0) refl)
  where
    go : (b : Bool) → eqb n 0 ≡ b
        → cond b (opened_for state slot terminal A soft) (record { answer = Refused n; state = state }) ≡ cond b (opened_for state slot terminal A soft') (record { answer = Refused n; state = state })
    go true z = ap (opened_for state slot terminal A) (f (eqb-true n 0 z))
    go false z = refl
