-- What was heard where no data place lacks a bit, 01 'Read': bits, as many as the code blocks and the sequence have.
-- Assumes nothing.
use mathlib.Core.Path.{◌≡◌, refl, ap}
use mathlib.Core.Bool.{Bool, true, false, cond}
use mathlib.Core.List.{List}
use Prim.Native.Nat.{ℕ, zero, suc, ◌+◌, ◌-◌, ◌≤◌, ◌<◌}
use native.Mathlib.Decide.{dec_le}
use native.Mathlib.Omega.{arith}
use lib.Dec.{eqb-suc-zero}
use lib.ListN.{length, replicate, length-append, length-replicate}
use borrow.Author.Tests.{ltb-true}
use Rattle.laws.specs.Bits.{AreBits}
use Rattle.laws.specs.Lists.{tab_from}
use Rattle.laws.proofs.AreBits.{no_bits, with_bit, append_bits, zero_bits}
use Rattle.laws.proofs.Tab.{length_tab_from}
use Rattle.segmentation.specs.Segmentation.{check_length, blocks, filler, size_of, filler_of}
use Rattle.segmentation.specs.CodeBlocks.{taken_before}
use Rattle.segmentation.specs.Sizes.{bad_size}
use Rattle.segmentation.proofs.Segmentation.{in_range, single, several}
use Rattle.segmentation.proofs.CodeBlocks.{taken_all, filler_within}
use Rattle.slots.specs.Room.{is_decided, circle_at}
use Rattle.slots.specs.Circle.{kept_on, missing, missing_on, lacking_on, heard_on, code_block_on}
use Rattle.slots.specs.Reading.{lacking_in, lacking, heard_code_block, heard_in, heard_from, heard_sequence}
use Rattle.slots.proofs.Sums.{sum_from_none}

-- a list by a rule that gives bits
tab_from_bits : (i n : ℕ) (f : ℕ → ℕ) → ((k : ℕ) → i ≤ k → k < i + n → f k < 2) → AreBits (tab_from i n f)
unfolding tab_from
tab_from_bits i zero f h = no_bits
tab_from_bits i (suc n) f h = with_bit (f i) (tab_from (suc i) n f) (h i (omega arith) (omega arith)) (tab_from_bits (suc i) n f (λ k a b. h k (omega arith) (omega arith)))

-- there is a code block
pub some_block : (B : ℕ) → 0 < blocks B
some_block B = elim (dec_le B 6144) [
  | yes h ↦ omega (arith, (single B h).0)
  | no h ↦ let large : 6144 < B = omega arith in omega (arith, (several B large).0)
]

no_filler : (B r : ℕ) → filler_of B (suc r) ≡ 0
unfolding filler_of
no_filler B r = rw (eqb-suc-zero r)

-- a block of A bits, A in range
module _ (A : ℕ) (room : List ℕ) (good : bad_size A ≡ false) where
  high : A + 24 ≤ 30600
  high = omega (arith, in_range A good)

  pub fits : (r : ℕ) → filler_of (A + 24) r + 24 ≤ size_of (A + 24) r - check_length (A + 24)
  fits r = filler_within (A + 24) high (omega arith) r

  pub length_heard_code_block : (r : ℕ) → length (heard_code_block (A + 24) room r) ≡ size_of (A + 24) r
  unfolding heard_code_block code_block_on heard_on
  length_heard_code_block r = rw (length-append, length-replicate, length_tab_from) (omega (arith, fits r))

  length_heard_from : (r n : ℕ) → r + n ≡ blocks (A + 24)
      → length (heard_from (A + 24) room r n) + (taken_before (A + 24) r + filler_of (A + 24) r) ≡ A + 24 + filler (A + 24)
  unfolding heard_from heard_in heard_on taken_before
  length_heard_from zero zero e = absurd (omega (arith, some_block (A + 24)))
  length_heard_from (suc r) zero e =
      let last : suc r ≡ blocks (A + 24) = omega arith in
      omega (arith, no_filler (A + 24) r, ap (taken_before (A + 24)) last, taken_all (A + 24) high)
  length_heard_from r (suc n) e =
      rw (length-append, length_tab_from) (omega (arith, fits r, no_filler (A + 24) r, length_heard_from (suc r) n (omega arith)))

  pub length_heard_sequence : length (heard_sequence A room) ≡ A + 24
  unfolding heard_sequence taken_before filler_of
  length_heard_sequence = omega (arith, length_heard_from 0 (blocks (A + 24)) (omega arith))

  -- no data place lacks a bit
  module _ (none : lacking A room ≡ 0) where
    kept_bit : (r i : ℕ) → r < blocks (A + 24) → filler_of (A + 24) r ≤ i → i < size_of (A + 24) r → kept_on (circle_at r room) (size_of (A + 24) r + 4) 0 i < 2
    unfolding lacking lacking_in lacking_on missing_on missing is_decided
    kept_bit r i h l m = ltb-true (kept_on (circle_at r room) (size_of (A + 24) r + 4) 0 i) 2 (heard_is _ place)
      where
        block : lacking_in (A + 24) room r ≡ 0
        block = sum_from_none _ 0 (blocks (A + 24)) none r (omega arith) (omega arith)

        place : missing_on (circle_at r room) (size_of (A + 24) r + 4) i ≡ 0
        place = sum_from_none _ (filler_of (A + 24) r) (size_of (A + 24) r - filler_of (A + 24) r) block i l (omega arith)

        heard_is : (t : Bool) → cond {A = ℕ} t 0 1 ≡ 0 → t ≡ true
        heard_is true e = refl
        heard_is false e = absurd (omega arith)

    pub code_block_bits : (r : ℕ) → r < blocks (A + 24) → AreBits (heard_code_block (A + 24) room r)
    unfolding heard_code_block code_block_on heard_on
    code_block_bits r h =
        let F : ℕ = filler_of (A + 24) r in
        let n : ℕ = size_of (A + 24) r - F in
        let f : ℕ → ℕ = kept_on (circle_at r room) (size_of (A + 24) r + 4) 0 in
        append_bits (replicate {A = ℕ} F 0) (tab_from F n f) (zero_bits F) (tab_from_bits F n f (λ i l m. kept_bit r i h l (omega arith)))

    heard_from_bits : (r n : ℕ) → r + n ≤ blocks (A + 24) → AreBits (heard_from (A + 24) room r n)
    unfolding heard_from heard_in heard_on
    heard_from_bits r zero h = no_bits
    heard_from_bits r (suc n) h =
        let F : ℕ = filler_of (A + 24) r in
        let k : ℕ = size_of (A + 24) r - check_length (A + 24) - F in
        let f : ℕ → ℕ = kept_on (circle_at r room) (size_of (A + 24) r + 4) 0 in
        append_bits (tab_from F k f) (heard_from (A + 24) room (suc r) n)
        (tab_from_bits F k f (λ i l m. kept_bit r i (omega arith) l (omega arith)))
        (heard_from_bits (suc r) n (omega arith))

    pub sequence_bits : AreBits (heard_sequence A room)
    unfolding heard_sequence
    sequence_bits = heard_from_bits 0 (blocks (A + 24)) (omega arith)
