-- Demand 3, the release: after any history in which all that was accepted for an open slot since its opening are true transmissions of one block,
-- Read gives that block exactly when every data place was sent, and else the count of those that were not; Receive answers that count.
-- Assumes nothing.
use mathlib.Core.Path.{◌≡◌, refl, sym, ◌∙◌, ap, subst₂}
use mathlib.Core.Bool.{Bool, true, false, cond}
use mathlib.Core.List.{List, ◌∷◌, ◌++◌}
use Prim.Native.Nat.{ℕ, ◌≤◌, ◌<◌}
use native.Mathlib.Omega.{arith}
use lib.Dec.{eqb}
use lib.ListN.{length, drop}
use Rattle.laws.specs.Bits.{AreBits}
use Rattle.segmentation.proofs.Segmentation.{in_range}
use Rattle.slots.specs.Outcome.{Done, StillLacking}
use Rattle.slots.specs.declared.State.{State}
use Rattle.slots.specs.Answers.{Lacking}
use Rattle.slots.specs.State.{store_length, new_state, head_at, bad_shape, bad_state}
use Rattle.slots.specs.Room.{unheard, agreeing, room_at}
use Rattle.slots.specs.Calls.{size_at_head, share_at_head, receive_number, receive_outcome, read_number, read_outcome, read_output}
use Rattle.slots.proofs.HeadLaws.{open_size}
use Rattle.slots.proofs.Acceptance.{receives, reads}
use Rattle.history.specs.Calls.{Reception, reading, History}
use Rattle.history.specs.Run.{World, lent, begin, run}
use Rattle.history.specs.Accepted.{since}
use Rattle.history.specs.Sent.{True, AllTrue, unsent, undecided}
use Rattle.history.proofs.State.{heads}
use Rattle.history.proofs.Heads.{run_good, refused_state}
use Rattle.history.proofs.Others.{room_before}
use Rattle.history.proofs.Arrived.{AllBits, since_bits}
use Rattle.history.proofs.Holds.{keeps}
use Rattle.history.proofs.Follows.{Met, follows_same}
use Rattle.history.proofs.ReleaseCount.{true_undecided}
use Rattle.history.proofs.AnyAnswers.{receive_any}
use Rattle.history.proofs.ReleaseAnswers.{read_answer, read_output_lem}

module _ (S M : ℕ) (store₀ : List ℕ) (h : History) (past : List ℕ) (slot terminal : ℕ) where
  -- the state after the history, the slot's share of the soft buffer, the store that the next call is lent, and what was accepted for the slot since its opening
  abbrev pub state : State
  state = (run S M store₀ h).state

  abbrev pub soft : ℕ
  soft = share_at_head state slot

  abbrev pub store : List ℕ
  store = lent (run S M store₀ h) past

  abbrev pub accepted : List Reception
  accepted = since S M (length (begin S M store₀).rooms) slot h

  -- they brought bits
  pub given : AllBits accepted
  given = since_bits S M (length (begin S M store₀).rooms) slot h

  -- in the slot's room in the lent store they have met
  pub kept : bad_state state ≡ false → store_length state ≤ length store → slot < state.slots → (head_at state slot).opened ≡ true
      → Met soft (size_at_head state slot) state.blocks accepted (room_at state.blocks slot store)
  unfolding new_state size_at_head share_at_head agreeing
  kept sound long below opened = go (bad_shape S M) refl
    where
      w : World
      w = run S M store₀ h

      go : (b : Bool) → bad_shape S M ≡ b → Met soft (size_at_head state slot) state.blocks accepted (room_at state.blocks slot store)
      go true e =
          let none : state.slots ≡ 0 = ap (λ (t : State). t.slots) (heads S M store₀ h ∙ refused_state S M e (length (begin S M store₀).rooms) h) in
          absurd (omega arith)
      go false e =
          follows_same agreeing unheard _ state.blocks (room_at state.blocks slot w.rooms) _ (open_size state sound slot below opened).1
          (room_before w (record { call = reading slot terminal 0; past = past }) slot below long)
          room
        where
          room : Met soft (size_at_head state slot) state.blocks accepted (room_at state.blocks slot w.rooms)
          room =
              let good = run_good S M e store₀ h in
              subst₂ (λ (n : ℕ) (t : State). Met (head_at t slot).share (head_at t slot).size n accepted (room_at n slot w.rooms)) (sym good.blocks) (sym (heads S M store₀ h))
              (keeps S M store₀ slot (omega (arith, good.slots)) h (rw (heads S M store₀ h) at opened))

  -- a has as many bits as the slot is open for, and all that was accepted since the opening are true transmissions of it
  module _ (a : List ℕ) (bits : AreBits a) (size_is : size_at_head state slot ≡ length a) (true_all : AllTrue soft a accepted) where
    -- a read that is not refused before the room is looked at
    pub released_iff : (out : List ℕ) → read_number state (length store) slot terminal (length out) ≡ 0
        → (read_outcome state store slot terminal (length out)
        ≡ record { answer = cond (eqb (unsent soft (length a) accepted) 0) Done (Lacking (unsent soft (length a) accepted)); state = state })
        × (read_output state store slot terminal out ≡ cond (eqb (unsent soft (length a) accepted) 0) (a ++ drop (length a) out) out)
    released_iff out came =
        let w = reads state (length store) slot terminal (length out) came in
        let held = rw size_is at (kept w.sound w.long w.below w.opened) in (
          read_answer state store slot terminal a bits size_is accepted given true_all held (length out) came,
          read_output_lem state store slot terminal a bits size_is accepted given true_all held out came,
        )

    -- one more true transmission, accepted
    pub received_count : (x : Reception) → True soft a x → receive_number state (length store) slot terminal x.Q x.N x.version x.bits ≡ 0
        → receive_outcome state slot terminal x.Q x.N x.version x.bits store
        ≡ record { answer = StillLacking (unsent soft (length a) (x ∷ accepted)); state = state }
    received_count x true-one came =
        let w = receives state (length store) slot terminal x.Q x.N x.version x.bits came in
        let small = (in_range (length a) (rw size_is at (open_size state w.sound slot w.below w.opened).0)).1 in
        receive_any state store slot terminal accepted given (kept w.sound w.long w.below w.opened) x came
        ∙ ap (λ (n : ℕ). record { answer = StillLacking n; state = state })
        (ap (λ (A : ℕ). undecided soft A (x ∷ accepted)) size_is ∙ true_undecided soft a small bits (x ∷ accepted) (true-one, true_all))
