-- The row of what a call on a slot answers has at most 50 bytes: its number, and the count or the code block that comes with it, are small.
-- Assumes nothing.
use mathlib.Core.Path.{◌≡◌, refl}
use mathlib.Core.Bool.{Bool, true, false, cond}
use mathlib.Core.List.{List, [], ◌∷◌}
use Prim.Native.Nat.{ℕ, zero, suc, ◌+◌, ◌*◌, ◌^◌, ◌≤◌, ◌<◌}
use native.Mathlib.Omega.{arith}
use lib.Dec.{eqb}
use lib.ListN.{length}
use borrow.Author.Tests.{eqb-true}
use Rattle.segmentation.specs.Segmentation.{blocks}
use Rattle.segmentation.specs.Sizes.{bad_size}
use Rattle.slots.specs.Outcome.{Done, StillLacking, Refused, RefusedWith}
use Rattle.slots.specs.Outcome.{Outcome}
use Rattle.slots.specs.declared.State.{State}
use Rattle.slots.specs.Answers.{number_of, values_of, Lacking, WrongBlock, unless_refused}
use Rattle.slots.specs.Circle.{sum_from}
use Rattle.slots.specs.Reading.{lacking_in, lacking, wrong_block, first_wrong, some_wrong, wrong_check, heard_answer}
use Rattle.slots.proofs.First.{first_from_most}
use Rattle.reading.proofs.Blocks.{few, block_few}
use Rattle.answers.specs.Rows.{answer_row}
use Rattle.row_lengths.proofs.Numbers.{accepted_length, refused_length}

-- ---- an answer

pub done_length : length (answer_row Done) ≤ 50
unfolding answer_row values_of
done_length = omega (arith, accepted_length [] tt)

pub lacking_length : (n : ℕ) → n < 2 ^ 64 → length (answer_row (StillLacking n)) ≤ 50
unfolding answer_row values_of
lacking_length n small = omega (arith, accepted_length (n ∷ []) (small, tt))

pub refused_answer : (number : ℕ) → number ≤ 21 → length (answer_row (Refused number)) ≤ 50
unfolding answer_row number_of values_of
refused_answer number most = omega (arith, refused_length number [] (omega arith) tt)

refused_with : (number x : ℕ) → number ≤ 21 → x < 2 ^ 64 → length (answer_row (RefusedWith number x)) ≤ 50
unfolding answer_row number_of values_of
refused_with number x most small = omega (arith, refused_length number (x ∷ []) (omega arith) (small, tt))

-- a refusal's, or that of the outcome where there is none
pub outcome_length : (number : ℕ) (state : State) (accepted : Outcome) → number ≤ 21 → (number ≡ 0 → length (answer_row accepted.answer) ≤ 50)
    → length (answer_row (unless_refused number state accepted).answer) ≤ 50
unfolding unless_refused
outcome_length number state accepted most told = go (eqb number 0) refl
  where
    go : (t : Bool) → eqb number 0 ≡ t → length (answer_row (cond {A = Outcome} t accepted (record { answer = Refused number; state = state })).answer) ≤ 50
    go true e = told (eqb-true number 0 e)
    go false e = refused_answer number most

-- ---- what is read from a room, of a block of A bits

sum_most : (f : ℕ → ℕ) (i n : ℕ) → ((k : ℕ) → f k ≤ 6144) → sum_from f i n ≤ n * 6144
unfolding sum_from
sum_most f i zero h = omega arith
sum_most f i (suc n) h = omega (arith, h i, sum_most f (suc i) n h)

module _ (A : ℕ) (admitted : bad_size A ≡ false) (room : List ℕ) where
  -- five code blocks of 6,144 bits at most
  pub lacking_most : lacking A room ≤ 30720
  unfolding lacking
  lacking_most = omega (arith, sum_most (lacking_in (A + 24) room) 0 (blocks (A + 24)) (λ r. block_few A admitted r room), few A admitted)

  wrong_most : first_wrong A room ≤ 5
  unfolding first_wrong
  wrong_most = omega (arith, first_from_most (wrong_block (A + 24) room) 0 (blocks (A + 24)), few A admitted)

  pub heard_length : length (answer_row (heard_answer A room)) ≤ 50
  unfolding heard_answer
  heard_length = go (eqb (lacking A room) 0) (some_wrong A room) (wrong_check A room)
    where
      go : (all wrong check : Bool)
          → length (answer_row (cond all (cond wrong (WrongBlock (first_wrong A room)) (cond check (Refused 12) Done)) (Lacking (lacking A room)))) ≤ 50
      go true true check = refused_with 16 (first_wrong A room) (omega arith) (omega (arith, wrong_most))
      go true false true = refused_answer 12 (omega arith)
      go true false false = done_length
      go false wrong check = refused_with 11 (lacking A room) (omega arith) (omega (arith, lacking_most))
