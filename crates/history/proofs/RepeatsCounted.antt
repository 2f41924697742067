-- A reception that was answered with a count is one of those accepted since the opening, wherever the call stands among the later ones, as long as none of them opens or closes the slot anew.
-- Assumes nothing.
use mathlib.Core.Path.{◌≡◌, refl, ◌∙◌, ap}
use mathlib.Core.Logic.{inl, inr}
use mathlib.Core.Bool.{Bool, true, false, cond, ◌&&◌}
use mathlib.Core.List.{List, [], ◌∷◌, ◌++◌}
use Prim.Native.Nat.{ℕ}
use native.Mathlib.Omega.{arith}
use lib.Dec.{eqb}
use lib.ListN.{length}
use borrow.Author.Tests.{eq-eqb, eqb-true}
use Rattle.slots.specs.Outcome.{StillLacking, Refused}
use Rattle.slots.specs.Outcome.{Outcome}
use Rattle.slots.specs.declared.State.{State}
use Rattle.slots.specs.Answers.{unless_refused}
use Rattle.slots.specs.Room.{room_at}
use Rattle.slots.specs.Reading.{lacking}
use Rattle.slots.specs.Calls.{size_at_head, receive_number, receive_store, receive_outcome}
use Rattle.history.specs.Calls.{Reception, Call, opening, receiving, reading, streaming, closing, History}
use Rattle.history.specs.Run.{lent, outcome_of, run}
use Rattle.history.specs.Accepted.{lent_length, heads_after, since_call}
use Rattle.history.specs.Answered.{answer_to}
use Rattle.history.specs.After.{made, state_after, store_after, rooms_long}
use Rattle.history.specs.Later.{restarts, Undisturbed, accepted_in}
use Rattle.history.specs.Repeats.{Some}
use Rattle.history.proofs.State.{length_lent, rooms_long_lem, heads}

-- a reception that is answered with a count was accepted
received_number : (state : State) (store : List ℕ) (slot terminal : ℕ) (x : Reception) (n : ℕ) → answer_to state store (receiving slot terminal x) ≡ StillLacking n
    → receive_number state (length store) slot terminal x.Q x.N x.version x.bits ≡ 0
unfolding answer_to outcome_of receive_outcome unless_refused
received_number state store slot terminal x n e = go (eqb number 0) refl e
  where
    number : ℕ
    number = receive_number state (length store) slot terminal x.Q x.N x.version x.bits

    go : (b : Bool) → eqb number 0 ≡ b
        → (cond {A = Outcome} b
        (record { answer = StillLacking (lacking (size_at_head state slot) (room_at state.blocks slot (receive_store state slot terminal x.Q x.N x.version x.bits store))); state = state })
        (record { answer = Refused number; state = state })).answer
        ≡ StillLacking n → number ≡ 0
    go true t d = eqb-true number 0 t
    go false t d = let z : ◌≡◌ {A = ℕ} 0 1 = cc in absurd (omega arith)

module _ (such : Reception → Type 0) where
  -- a call that does not restart the slot leaves what was accepted
  still_some : (state : State) (room slot : ℕ) (call : Call) (xs : List Reception) → restarts state room slot call ≡ false → Some such xs
      → Some such (since_call state room slot call xs)
  unfolding since_call restarts
  still_some state room slot (opening link s terminal A) xs r w = rw r w
  still_some state room slot (receiving s terminal x) xs r w = go (eqb s slot && eqb (receive_number state room s terminal x.Q x.N x.version x.bits) 0)
    where
      go : (b : Bool) → Some such (cond b (x ∷ xs) xs)
      go true = inr w
      go false = w
  still_some state room slot (reading s terminal size) xs r w = w
  still_some state room slot (streaming s terminal block size) xs r w = w
  still_some state room slot (closing s terminal) xs r w = rw r w

  module _ (S M n slot : ℕ) (h : History) where
    stays : (after later : History) → Undisturbed S M n slot (after ++ later) h → Some such (accepted_in S M n slot later h) → Some such (accepted_in S M n slot (after ++ later) h)
    unfolding accepted_in
    stays [] later u w = w
    stays (m ∷ after) later u w = still_some _ _ slot m.call (accepted_in S M n slot (after ++ later) h) u.0 (stays after later u.1 w)

  pub counts : (S M : ℕ) (store₀ : List ℕ) (h before : History) (past : List ℕ) (slot terminal : ℕ) (x : Reception) (n : ℕ)
      → answer_to (state_after S M store₀ (before ++ h)) (store_after S M store₀ (before ++ h) past) (receiving slot terminal x) ≡ StillLacking n
      → such x
      → (after : History) → Undisturbed S M (rooms_long S M store₀) slot (after ++ made (receiving slot terminal x) past before) h
      → Some such (accepted_in S M (rooms_long S M store₀) slot (after ++ made (receiving slot terminal x) past before) h)
  unfolding accepted_in since_call
  counts S M store₀ h before past slot terminal x n answered it after u =
      stays S M (rooms_long S M store₀) slot h after (made (receiving slot terminal x) past before) u
      (rw (eq-eqb slot slot refl, eq-eqb _ 0 taken) (inl it))
    where
      rooms : ℕ
      rooms = rooms_long S M store₀

      taken : receive_number (heads_after S M rooms (before ++ h)) (lent_length (heads_after S M rooms (before ++ h)) rooms past) slot terminal x.Q x.N x.version x.bits ≡ 0
      taken =
          let long : length (lent (run S M store₀ (before ++ h)) past) ≡ lent_length (run S M store₀ (before ++ h)).state rooms past =
          length_lent (run S M store₀ (before ++ h)) past ∙ ap (λ (k : ℕ). lent_length (run S M store₀ (before ++ h)).state k past) (rooms_long_lem S M store₀ (before ++ h)) in
          rw (long, heads S M store₀ (before ++ h)) at (received_number _ _ slot terminal x n answered)
