-- What New, Open and Close leave in the state's bytes: the head of an accepted call lies within them, and a new state's heads are all 0.
-- Assumes nothing.
use mathlib.Core.Path.{◌≡◌, refl}
use mathlib.Core.Bool.{Bool, true, false, cond}
use mathlib.Core.List.{List, [], ◌∷◌}
use Prim.Native.Nat.{ℕ, ◌+◌, ◌≤◌, ◌<◌}
use native.Mathlib.Omega.{arith}
use borrow.Author.Tests.{ltb-false}
use lib.Dec.{eqb, ltb}
use lib.ListN.{length, replicate}
use Rattle.refusals.specs.Refusals.{rule, first_of}
use Rattle.slots.specs.declared.State.{State}
use Rattle.slots.specs.Outcome.{Done, Refused}
use Rattle.slots.specs.Outcome.{Outcome}
use Rattle.slots.specs.State.{closed_head, new_state, bad_shape}
use Rattle.slots.specs.Answers.{unless_refused}
use Rattle.slots.specs.Calls.{new_outcome, open_number, open_down_number, close_number}
use Rattle.slots.proofs.Accepted.{openable, down_open, closing}
use Rattle.state_bytes.specs.StateBytes.{state_length, head_numbers, heads_numbers, state_in, head_start}

-- a slot below S, which is at most 8: the bytes are all there
pub record Whole (bytes : List ℕ) (slot : ℕ) : Type 0 where
  pub below : slot < 8
  pub long : state_length ≤ length bytes

pub whole : (bytes : List ℕ) (slot : ℕ) → slot < (state_in bytes).slots → (state_in bytes).slots ≤ 8 → Whole bytes slot
unfolding state_in new_state
whole bytes slot = go (ltb (length bytes) state_length) _ refl
  where
    go : (b : Bool) (s : State) → ltb (length bytes) state_length ≡ b → slot < (cond b (new_state 0 0) s).slots → (cond b (new_state 0 0) s).slots ≤ 8
        → Whole bytes slot
    go true s e below most = absurd (omega arith)
    go false s e below most = record { below = omega arith; long = ltb-false (length bytes) state_length e }

-- its head lies within them
pub head_room : {bytes : List ℕ} {slot : ℕ} → Whole bytes slot → head_start slot + 32 ≤ length bytes
unfolding head_start
head_room w = omega (arith, w.below, w.long)

module _ (bytes : List ℕ) where
  -- number 0 of Open, of Open for a downlink and of Close
  pub open_whole : (room slot A : ℕ) → open_number (state_in bytes) room slot A ≡ 0 → Whole bytes slot
  open_whole room slot A z =
      let there = (openable (state_in bytes) room slot A refl z).slot_stored in
      whole bytes slot there.present there.state_good.shape.slots_most

  pub down_whole : (room slot A release k_mimo processes Nsoft layers : ℕ) → open_down_number (state_in bytes) room slot A release k_mimo processes Nsoft layers ≡ 0 → Whole bytes slot
  down_whole room slot A release k_mimo processes Nsoft layers z =
      open_whole room slot A (down_open (state_in bytes) room slot A release k_mimo processes Nsoft layers z)

  pub close_whole : (slot terminal : ℕ) → close_number (state_in bytes) slot terminal ≡ 0 → Whole bytes slot
  close_whole slot terminal z =
      let mine = closing (state_in bytes) slot terminal refl z in
      whole bytes slot mine.present mine.state_good.shape.slots_most

-- the numbers of a state that New returns: S, M and none that is not 0
pub closed_numbers : (o : Outcome) (S M : ℕ) → o ≡ new_outcome S M
    → o.state.slots ∷ o.state.blocks ∷ replicate {A = ℕ} 32 0 ≡ o.state.slots ∷ o.state.blocks ∷ heads_numbers o.state.heads
unfolding new_outcome unless_refused new_state closed_head head_numbers heads_numbers
closed_numbers o S M e = rw e (go (eqb (first_of (rule (bad_shape S M) 13 ∷ [])) 0) _)
  where
    go : (b : Bool) (n : ℕ) → let made = (cond {A = Outcome} b (record { answer = Done; state = new_state S M }) (record { answer = Refused n; state = new_state 0 0 })).state in
        made.slots ∷ made.blocks ∷ replicate {A = ℕ} 32 0 ≡ made.slots ∷ made.blocks ∷ heads_numbers made.heads
    go true n = refl
    go false n = refl
