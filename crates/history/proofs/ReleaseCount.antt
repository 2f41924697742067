-- The count that Receive and Read answer, demand 3 and 02 E2: as many data places lack a bit as are undecided by the receptions; of true transmissions, as they have not sent.
-- Assumes nothing.
use mathlib.Core.Path.{◌≡◌, ◌∙◌, ap}
use mathlib.Core.Bool.{false, cond}
use mathlib.Core.List.{List}
use Prim.Native.Nat.{ℕ, ◌+◌, ◌-◌, ◌*◌, ◌≤◌, ◌<◌}
use native.Mathlib.Omega.{arith}
use lib.Dec.{lit<}
use lib.ListN.{length, get_or}
use lib.Seq.{get_or-take}
use Rattle.segmentation.specs.Segmentation.{blocks, size_of, filler_of}
use Rattle.segmentation.specs.Sizes.{bad_size}
use Rattle.segmentation.specs.CodeBlocks.{with_check, code_block}
use Rattle.segmentation.proofs.Segmentation.{in_range}
use Rattle.laws.specs.Bits.{AreBits}
use Rattle.rate_matching.specs.SubBlocks.{rows}
use Rattle.rate_matching.specs.Places.{place_number}
use Rattle.rate_matching.specs.Walk.{on_circle}
use Rattle.rate_matching.proofs.ShapeCount.{data_lt}
use Rattle.codeword.specs.Codeword.{block_circle, block_cut}
use Rattle.codeword.proofs.Data.{with_check_bits, data_place}
use Rattle.codeword.proofs.Taken.{length_with_check}
use Rattle.slots.specs.Room.{unheard, is_decided, agreeing, circle_at}
use Rattle.slots.specs.Circle.{kept_on, missing as lacks, missing_on, lacking_on}
use Rattle.slots.specs.Reading.{lacking_in, lacking}
use Rattle.slots.proofs.Buffers.{Wide}
use Rattle.slots.proofs.PlaceBounds.{filler_fewer, block_cut_lem, place_below}
use Rattle.slots.proofs.Sums.{sum_from_ext}
use Rattle.history.specs.Calls.{Reception}
use Rattle.history.specs.Accepted.{arrivals}
use Rattle.history.specs.Agreed.{holding}
use Rattle.history.specs.Sent.{AllTrue, sent, arrivals_at, missing, data_without_in, data_without, unsent, undecided}
use Rattle.history.proofs.Arrived.{met_is, holding_decided, AllBits, arrived_bits}
use Rattle.history.proofs.Follows.{Met}
use Rattle.history.proofs.ReleaseTrue.{cut_circle, true_bit, true_decided}

-- ---- any receptions

module _ (soft A : ℕ) (admitted : bad_size A ≡ false) (xs : List Reception) (given : AllBits xs) {M : ℕ} (room : List ℕ) (kept : Met soft A M xs room) where
  -- a data place keeps what its bits say together
  pub kept_holding : (r i : ℕ) → r < blocks (A + 24) → i < size_of (A + 24) r
      → kept_on (circle_at r room) (size_of (A + 24) r + 4) 0 i ≡ holding (arrivals_at soft A xs r i)
  unfolding kept_on agreeing
  kept_holding r i h m =
      let j : ℕ = place_number (size_of (A + 24) r + 4) 0 i in
      kept.place r j h (place_below A admitted r 0 i (lit< tt) (omega arith)) ∙ met_is (arrivals soft A xs r j) (arrived_bits soft A xs r j given)

  -- the count of data places that lack a bit is that of data places undecided
  pub count_any : lacking A room ≡ undecided soft A xs
  unfolding lacking lacking_in lacking_on missing_on lacks undecided data_without data_without_in
  count_any =
      sum_from_ext _ _ 0 (blocks (A + 24))
      (λ r g h. sum_from_ext _ _ (filler_of (A + 24) r) (size_of (A + 24) r - filler_of (A + 24) r)
      (λ i l m. ap missing
      (ap is_decided (kept_holding r i (omega arith) (omega arith))
      ∙ holding_decided (arrivals_at soft A xs r i) (arrived_bits soft A xs r (place_number (size_of (A + 24) r + 4) 0 i) given))))

-- ---- true transmissions

-- undecided are those not sent
pub true_undecided : (soft : ℕ) (a : List ℕ) → length a ≤ 30576 → AreBits a → (xs : List Reception) → AllTrue soft a xs → undecided soft (length a) xs ≡ unsent soft (length a) xs
unfolding undecided unsent data_without data_without_in
true_undecided soft a small bits xs true_all =
    sum_from_ext _ _ 0 (blocks (length a + 24))
    (λ r g h. sum_from_ext _ _ (filler_of (length a + 24) r) (size_of (length a + 24) r - filler_of (length a + 24) r)
    (λ i l m. ap missing (true_decided soft a small bits xs true_all r (place_number (size_of (length a + 24) r + 4) 0 i) (omega arith))))

module _ (soft : ℕ) (a : List ℕ) (admitted : bad_size (length a) ≡ false) (bits : AreBits a) (xs : List Reception) (true_all : AllTrue soft a xs) (wide : Wide soft (length a + 24))
    {M : ℕ} (room : List ℕ) (kept : Met soft (length a) M xs room) where
  -- a data place lies before the cut
  before_cut : (r i : ℕ) → r < blocks (length a + 24) → filler_of (length a + 24) r ≤ i → i < size_of (length a + 24) r
      → on_circle (cut_circle soft (with_check a) r) (place_number (size_of (length a + 24) r + 4) 0 i) ≡ on_circle (block_circle (with_check a) r) (place_number (size_of (length a + 24) r + 4) 0 i)
  unfolding on_circle
  before_cut r i h l m =
      let third : place_number (size_of (length a + 24) r + 4) 0 i < 32 * rows (size_of (length a + 24) r + 4) =
      data_lt (size_of (length a + 24) r + 4) (filler_of (length a + 24) r) (omega (arith, filler_fewer (length a) admitted r)) i l (omega arith) in
      get_or-take (block_cut soft (length (with_check a)) r) (block_circle (with_check a) r) _ 0 (rw (length_with_check a) (omega (arith, third, (block_cut_lem (length a) admitted wide r).least)))

  -- a data place keeps the code block's own bit where it was sent
  pub kept_data : (r i : ℕ) → r < blocks (length a + 24) → filler_of (length a + 24) r ≤ i → i < size_of (length a + 24) r
      → kept_on (circle_at r room) (size_of (length a + 24) r + 4) 0 i
      ≡ cond (sent soft (length a) xs r (place_number (size_of (length a + 24) r + 4) 0 i)) (get_or (code_block (with_check a) r) i 0) unheard
  unfolding kept_on agreeing
  kept_data r i h l m =
      let range = in_range (length a) admitted in
      let j : ℕ = place_number (size_of (length a + 24) r + 4) 0 i in
      kept.place r j h (place_below (length a) admitted r 0 i (lit< tt) (omega arith))
      ∙ true_bit soft a range.1 bits xs true_all r j h
      ∙ ap (λ (x : ℕ). cond (sent soft (length a) xs r j) x unheard)
      (before_cut r i h l m
      ∙ data_place (length a + 24) (omega arith) (omega arith) (with_check a) (length_with_check a) r h (with_check_bits a bits) i l m)

  -- the count of data places that lack a bit is that of data places not sent
  pub count : AllBits xs → lacking (length a) room ≡ unsent soft (length a) xs
  count given = count_any soft (length a) admitted xs given room kept ∙ true_undecided soft a (in_range (length a) admitted).1 bits xs true_all
