-- What Read answers for a room and leaves in the output, 01 'Read' and 02, E1, case by case: places lacking or a code block wrong, the transport check wrong, all right.
-- Assumes nothing.
use mathlib.Core.Path.{◌≡◌, refl, sym, ◌∙◌, ap}
use mathlib.Core.Bool.{Bool, true, false, cond, not}
use mathlib.Core.List.{List, ◌++◌}
use Prim.Native.Nat.{ℕ, ◌+◌, ◌≤◌, ◌<◌}
use native.Mathlib.Omega.{arith}
use lib.Dec.{eqb}
use lib.ListN.{length, take, drop}
use lib.Seq.{take-take}
use borrow.Author.Tests.{eq-eqb, ne_eqb, lt-ltb, le-ltb}
use Rattle.std.specs.Prelude.{⊤}
use Rattle.std.specs.declared.result.Result.{Result}
use Rattle.std.specs.declared.result.Result.TheVariants.{Ok, Err}
use Rattle.check_bits.specs.CheckBits.{crc, crc_from, g_crc24a}
use Rattle.check_bits.proofs.Register.{from_zero}
use Rattle.segmentation.specs.Segmentation.{blocks}
use Rattle.slots.specs.declared.Reason.{Reason}
use Rattle.slots.specs.declared.Reason.TheVariants as kinds
use Rattle.refusals.specs.declared.Refusal.{Refusal}
use Rattle.refusals.specs.Refusals.{number_of}
use Rattle.refusals.proofs.Numbers.{refusal_ne0}
use Rattle.slots.specs.Outcome.{Answer, Done, Refused, answer_of}
use Rattle.slots.specs.Answers.{Lacking, WrongBlock, is_done}
use Rattle.slots.specs.Reading.{lacking, first_wrong, some_wrong, heard_sequence, wrong_check, heard_answer, heard_block}
use Rattle.reading.specs.inner.Room.{blocks_heard, room_output}

-- what a refusal of the code blocks tells
abbrev tells : Result ⊤ Reason → Answer
tells (Ok done) = Done
tells (Err reason) = answer_of (Err reason)

-- what is told of the code blocks where none lacks a bit and none is wrong, or not
abbrev heard_by : Bool → Bool → ℕ → ℕ → Result ⊤ Reason
heard_by whole wrong first places = cond whole (cond wrong (Err (kinds.WrongCodeBlock first)) (Ok tt)) (Err (kinds.Lacking places))

not_done : (reason : Reason) → is_done (answer_of (Err reason)) ≡ false
unfolding is_done
not_done (kinds.Rule refusal) = refl
not_done (kinds.Lacking places) = refl
not_done (kinds.WrongCodeBlock block) = refl

module _ (A : ℕ) (room : List ℕ) where
  -- what `collect` tells of the code blocks, from what it counted
  module _ {n : ℕ} (found : n ≡ lacking A room) where
    pub some_lacking : (n ≡ 0 → ⊥) → Err (kinds.Lacking n) ≡ blocks_heard A room
    unfolding blocks_heard
    some_lacking h = rw (← found, ne_eqb n 0 h)

    module _ {right C : ℕ} (none : n ≡ 0) (first : n ≡ 0 → right ≡ first_wrong A room) (all : C ≡ blocks (A + 24)) where
      pub one_wrong : right < C → Err (kinds.WrongCodeBlock right) ≡ blocks_heard A room
      unfolding blocks_heard some_wrong
      one_wrong h = rw (← found, eq-eqb n 0 none, ← (first none), ← all, lt-ltb right C h)

      pub none_wrong : C ≤ right → Ok tt ≡ blocks_heard A room
      unfolding blocks_heard some_wrong
      none_wrong h = rw (← found, eq-eqb n 0 none, ← (first none), ← all, le-ltb right C h)

  module _ (out : List ℕ) where
    -- an answer, and the output as it leaves it
    refused : (x : Answer) → is_done x ≡ false → x ≡ heard_answer A room → (x ≡ heard_answer A room) × (out ≡ room_output A room out)
    unfolding room_output
    refused x d e = (e, sym (ap (λ (b : Bool). cond b (heard_block A room ++ drop A out) out) (ap is_done (sym e) ∙ d)))

    -- places lack, or a code block is wrong
    pub blocks_refused : {reason : Reason} → Err reason ≡ blocks_heard A room → (answer_of (Err reason) ≡ heard_answer A room) × (out ≡ room_output A room out)
    unfolding blocks_heard heard_answer
    blocks_refused {reason} e = refused (answer_of (Err reason)) (not_done reason) (go (eqb (lacking A room) 0) (some_wrong A room) e)
      where
        go : (some wrong : Bool) → Err reason ≡ heard_by some wrong (first_wrong A room) (lacking A room)
            → answer_of (Err reason)
            ≡ cond some (cond wrong (WrongBlock (first_wrong A room)) (cond (wrong_check A room) (Refused 12) Done)) (Lacking (lacking A room))
        go true true e = ap tells e
        go true false e = absurd (cc)
        go false wrong e = ap tells e

    -- every code block is right, and the sequence stands at the front of b
    module _ (right : Ok tt ≡ blocks_heard A room) (b : List ℕ) {check : ℕ} (told : take (A + 24) b ≡ heard_sequence A room) (checked : check ≡ crc_from 24 g_crc24a 0 (take (A + 24) b)) where
      checked_left : heard_answer A room ≡ cond (wrong_check A room) (Refused 12) Done
      unfolding blocks_heard heard_answer
      checked_left = go (eqb (lacking A room) 0) (some_wrong A room) right
        where
          go : (some wrong : Bool) → Ok tt ≡ heard_by some wrong (first_wrong A room) (lacking A room)
              → cond some (cond wrong (WrongBlock (first_wrong A room)) (cond (wrong_check A room) (Refused 12) Done)) (Lacking (lacking A room))
              ≡ cond (wrong_check A room) (Refused 12) Done
          go true true e = absurd (cc)
          go true false e = refl
          go false wrong e = absurd (cc)

      wrong_is : wrong_check A room ≡ not (eqb check 0)
      unfolding wrong_check
      wrong_is = ap (λ (x : ℕ). not (eqb x 0)) (sym (checked ∙ from_zero 24 g_crc24a (take (A + 24) b) ∙ ap (crc 24 g_crc24a) told))

      pub wrong : (refusal : Refusal) → number_of refusal ≡ cond (not (eqb check 0)) 12 0
          → (Refused (number_of refusal) ≡ heard_answer A room) × (out ≡ room_output A room out)
      unfolding is_done
      wrong refusal e = refused (Refused (number_of refusal)) refl (go (not (eqb check 0)) wrong_is e ∙ sym checked_left)
        where
          go : (w : Bool) → wrong_check A room ≡ w → number_of refusal ≡ cond w 12 0 → Refused (number_of refusal) ≡ cond (wrong_check A room) (Refused 12) Done
          go true e n = rw e (ap Refused n)
          go false e n = absurd (let f = ap (λ (n : ℕ). eqb n 0) n in let g = refusal_ne0 refusal in cc)

      pub right_all : ◌≡◌ {A = ℕ} 0 (cond (not (eqb check 0)) 12 0) → A ≤ length b → {out' : List ℕ} → out' ≡ take A b ++ drop A out
          → (Done ≡ heard_answer A room) × (out' ≡ room_output A room out)
      unfolding is_done room_output heard_block
      right_all e l {out'} t = (done, t ∙ ap (λ (x : List ℕ). x ++ drop A out) block ∙ ap (λ (d : Bool). cond d (take A (heard_sequence A room) ++ drop A out) out) (ap is_done done))
        where
          go : (w : Bool) → wrong_check A room ≡ w → ◌≡◌ {A = ℕ} 0 (cond w 12 0) → Done ≡ cond (wrong_check A room) (Refused 12) Done
          go true e n = absurd (omega arith)
          go false e n = rw e refl

          done : Done ≡ heard_answer A room
          done = go (not (eqb check 0)) wrong_is e ∙ sym checked_left

          block : take A b ≡ take A (heard_sequence A room)
          block = sym (take-take A (A + 24) b (omega arith)) ∙ ap (take A) told
