-- What Read answers over a room in which true transmissions have met, demand 3: the block exactly when nothing is unsent, else how many data places are.
-- Assumes nothing.
use mathlib.Core.Path.{◌≡◌, refl, ◌∙◌, ap, ap₂}
use mathlib.Core.Bool.{Bool, true, false, cond}
use mathlib.Core.List.{List, ◌++◌}
use Prim.Native.Nat.{ℕ, ◌+◌}
use lib.Dec.{eqb}
use lib.ListN.{length, drop}
use borrow.Author.Tests.{eqb-true}
use Rattle.segmentation.specs.Sizes.{bad_size}
use Rattle.laws.specs.Bits.{AreBits}
use Rattle.slots.specs.Outcome.{Answer}
use Rattle.slots.specs.Outcome.{Done, Refused}
use Rattle.slots.specs.Outcome.{Outcome}
use Rattle.slots.specs.declared.State.{State}
use Rattle.slots.specs.Room.{room_at}
use Rattle.slots.specs.Reading.{first_wrong, some_wrong, wrong_check, heard_answer, heard_block}
use Rattle.slots.specs.Answers.{Lacking, WrongBlock, is_done}
use Rattle.slots.specs.Calls.{size_at_head, share_at_head, read_number, read_outcome, released, read_output}
use Rattle.slots.proofs.Buffers.{Wide}
use Rattle.slots.proofs.Accepted.{good}
use Rattle.slots.proofs.HeadLaws.{open_size}
use Rattle.slots.proofs.Acceptance.{reads}
use Rattle.history.specs.Calls.{Reception}
use Rattle.history.specs.Sent.{AllTrue, unsent}
use Rattle.history.proofs.Arrived.{AllBits}
use Rattle.history.proofs.Follows.{Met}
use Rattle.history.proofs.ReleaseCount.{count}
use Rattle.history.proofs.AnyAnswers.{accepted_is}
use Rattle.history.proofs.ReleaseSequence.{right_blocks, right_check, true_block}

-- a slot that is open for a block of as many bits as a has, and in its room true transmissions of a have met
module _ (state : State) (store : List ℕ) (slot terminal : ℕ) (a : List ℕ) (bits : AreBits a) (size_is : size_at_head state slot ≡ length a)
    (xs : List Reception) (given : AllBits xs) (true_all : AllTrue (share_at_head state slot) a xs) {M : ℕ} (kept : Met (share_at_head state slot) (length a) M xs (room_at state.blocks slot store)) where
  abbrev soft : ℕ
  soft = share_at_head state slot

  abbrev room : List ℕ
  room = room_at state.blocks slot store

  module _ (size : ℕ) (came : read_number state (length store) slot terminal size ≡ 0) where
    admitted : bad_size (length a) ≡ false
    admitted =
        let w = reads state (length store) slot terminal size came in
        rw size_is at (open_size state w.sound slot w.below w.opened).0

    wide : Wide soft (length a + 24)
    wide =
        let w = reads state (length store) slot terminal size came in
        rw size_is at ((good state w.sound).wide slot w.below w.opened)

    -- what the room tells: the count of what is unsent, and where nothing is all checks are right
    room_answer : heard_answer (length a) room ≡ cond (eqb (unsent soft (length a) xs) 0) Done (Lacking (unsent soft (length a) xs))
    unfolding heard_answer
    room_answer =
        ap (λ (n : ℕ). cond (eqb n 0) heard (Lacking n)) (count soft a admitted bits xs true_all wide room kept given)
        ∙ go (eqb (unsent soft (length a) xs) 0) refl
      where
        heard : Answer
        heard =
            cond (some_wrong (length a) room) (WrongBlock (first_wrong (length a) room))
            (cond (wrong_check (length a) room) (Refused 12) Done)

        go : (t : Bool) → eqb (unsent soft (length a) xs) 0 ≡ t → cond t heard (Lacking (unsent soft (length a) xs)) ≡ cond t Done (Lacking (unsent soft (length a) xs))
        go true e =
            let none : unsent soft (length a) xs ≡ 0 = eqb-true (unsent soft (length a) xs) 0 e in
            ap₂ (λ (b w : Bool). cond b (WrongBlock (first_wrong (length a) room)) (cond w (Refused 12) Done))
            (right_blocks soft a admitted bits xs true_all wide room kept none)
            (right_check soft a admitted bits xs true_all wide room kept none)
        go false e = refl

    -- Read answers Done exactly when nothing is unsent, and else the count
    pub read_answer : read_outcome state store slot terminal size
        ≡ record { answer = cond (eqb (unsent soft (length a) xs) 0) Done (Lacking (unsent soft (length a) xs)); state = state }
    unfolding read_outcome
    read_answer =
        accepted_is (read_number state (length store) slot terminal size) state _ came
        ∙ ap (λ (x : Answer). record { answer = x; state = state }) (ap (λ (A : ℕ). heard_answer A room) size_is ∙ room_answer)

  -- the output has the block in front exactly when nothing is unsent, and else is as it was
  pub read_output_lem : (out : List ℕ) → read_number state (length store) slot terminal (length out) ≡ 0
      → read_output state store slot terminal out ≡ cond (eqb (unsent soft (length a) xs) 0) (a ++ drop (length a) out) out
  unfolding read_output released is_done
  read_output_lem out came =
      ap (λ (o : Outcome). cond (is_done o.answer) (heard_block (size_at_head state slot) room ++ drop (size_at_head state slot) out) out)
      (read_answer (length out) came)
      ∙ output (eqb (unsent soft (length a) xs) 0) refl
    where
      block : unsent soft (length a) xs ≡ 0 → heard_block (size_at_head state slot) room ≡ a
      block e = rw size_is (true_block soft a (admitted (length out) came) bits xs true_all (wide (length out) came) room kept e)

      output : (t : Bool) → eqb (unsent soft (length a) xs) 0 ≡ t
          → cond (is_done (cond t Done (Lacking (unsent soft (length a) xs)))) (heard_block (size_at_head state slot) room ++ drop (size_at_head state slot) out) out
          ≡ cond t (a ++ drop (length a) out) out
      output true e = ap₂ (λ (l : List ℕ) (n : ℕ). l ++ drop n out) (block (eqb-true (unsent soft (length a) xs) 0 e)) size_is
      output false e = refl
