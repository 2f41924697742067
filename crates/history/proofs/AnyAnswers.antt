-- What Read and Receive answer over a room in which any receptions have met, 02 E2: how many data places are undecided, and where none is what the checks say.
-- Assumes nothing.
use mathlib.Core.Path.{◌≡◌, ◌∙◌, ap}
use mathlib.Core.Bool.{Bool, false, cond}
use mathlib.Core.List.{List, ◌∷◌}
use Prim.Native.Nat.{ℕ}
use lib.Dec.{eqb}
use lib.ListN.{length}
use borrow.Author.Tests.{eq-eqb}
use Rattle.segmentation.specs.Sizes.{bad_size}
use Rattle.codeword.proofs.Accepted.{given_bits}
use Rattle.slots.specs.Outcome.{StillLacking, Refused}
use Rattle.slots.specs.Outcome.{Outcome}
use Rattle.slots.specs.declared.State.{State}
use Rattle.slots.specs.Room.{room_at}
use Rattle.slots.specs.Reading.{checked_answer, heard_answer}
use Rattle.slots.specs.Answers.{Lacking, unless_refused}
use Rattle.slots.specs.Calls.{size_at_head, share_at_head, receive_number, receive_store, receive_outcome, read_number, read_outcome}
use Rattle.slots.proofs.HeadLaws.{open_size}
use Rattle.slots.proofs.Acceptance.{receives, reads}
use Rattle.history.specs.Calls.{Reception}
use Rattle.history.specs.Sent.{undecided}
use Rattle.history.proofs.Arrived.{AllBits}
use Rattle.history.proofs.Follows.{Met}
use Rattle.history.proofs.Holds.{reception_met}
use Rattle.history.proofs.ReleaseCount.{count_any}

-- an accepted call's outcome
pub accepted_is : (number : ℕ) (state : State) (o : Outcome) → number ≡ 0 → unless_refused number state o ≡ o
unfolding unless_refused
accepted_is number state o e = ap (λ (b : Bool). cond b o (record { answer = Refused number; state = state })) (eq-eqb number 0 e)

-- the receptions have met in the room of a slot
module _ (state : State) (store : List ℕ) (slot terminal : ℕ) (xs : List Reception) (given : AllBits xs)
    (kept : Met (share_at_head state slot) (size_at_head state slot) state.blocks xs (room_at state.blocks slot store)) where
  abbrev A : ℕ
  A = size_at_head state slot

  abbrev soft : ℕ
  soft = share_at_head state slot

  abbrev room : List ℕ
  room = room_at state.blocks slot store

  -- Read answers how many data places are undecided, and where none is what the checks say
  pub read_any : (size : ℕ) → read_number state (length store) slot terminal size ≡ 0
      → read_outcome state store slot terminal size
      ≡ record { answer = cond (eqb (undecided soft A xs) 0) (checked_answer A room) (Lacking (undecided soft A xs)); state = state }
  unfolding read_outcome heard_answer
  read_any size came =
      let w = reads state (length store) slot terminal size came in
      let admitted : bad_size A ≡ false = (open_size state w.sound slot w.below w.opened).0 in
      accepted_is (read_number state (length store) slot terminal size) state _ came
      ∙ ap (λ (n : ℕ). record { answer = cond (eqb n 0) (checked_answer A room) (Lacking n); state = state })
      (count_any soft A admitted xs given room kept)

  module _ (x : Reception) (came : receive_number state (length store) slot terminal x.Q x.N x.version x.bits ≡ 0) where
    -- one more has met with them
    received_met : Met soft A state.blocks (x ∷ xs) (room_at state.blocks slot (receive_store state slot terminal x.Q x.N x.version x.bits store))
    unfolding receive_store
    received_met =
        rw (eq-eqb (receive_number state (length store) slot terminal x.Q x.N x.version x.bits) 0 came)
        (reception_met state store slot terminal x came kept)

    -- Receive answers how many data places are then undecided
    pub receive_any : receive_outcome state slot terminal x.Q x.N x.version x.bits store ≡ record { answer = StillLacking (undecided soft A (x ∷ xs)); state = state }
    unfolding receive_outcome
    receive_any =
        let w = receives state (length store) slot terminal x.Q x.N x.version x.bits came in
        let admitted : bad_size A ≡ false = (open_size state w.sound slot w.below w.opened).0 in
        accepted_is (receive_number state (length store) slot terminal x.Q x.N x.version x.bits) state _ came
        ∙ ap (λ (n : ℕ). record { answer = StillLacking n; state = state })
        (count_any soft A admitted (x ∷ xs) (given_bits x.bits w.given, given) _ received_met)
