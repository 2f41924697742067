-- `states::too_short` meets its contract: a share of 32·193 is always long enough, else the longest code block decides.
-- Assumes nothing.
use mathlib.Core.Path.{sym, ◌∙◌, ap}
use Prim.Native.Nat.{ℕ, ◌+◌, ◌*◌, ◌≤◌}
use native.Mathlib.Omega.{arith}
use lib.Dec.{ltb}
use Rattle.segmentation.proofs.Segmentation.{in_range}
use Rattle.codeword.proofs.Segmented.{Sized, sized_in, long_told}
use Rattle.codeword.proofs.SoftShares.{rows_told, short_told}
use Rattle.slots.proofs.Buffers.{long_share}
use Rattle.slot_calls.proofs.states.too_short.Goals.{After-struct_known-1}
use Rattle.slot_calls.proofs.states.too_short.Goals as goal

-- the segmentation that was found
found : (c : After-struct_known-1) → Sized c.args.a c.segments_for-s.result
found c = sized_in _ _ c.requires c.segments_for-s.ensures

long_few : (c : After-struct_known-1) → c.segments_for-s.result.long ≤ 6144
long_few c = long_told _ c.requires (found c).told

pub returns-then-share-ge-MOST_NEEDED : goal.returns-then-share-ge-MOST_NEEDED
returns-then-share-ge-MOST_NEEDED c = sym (long_share _ c.requires _ c.if-share-ge-MOST_NEEDED.true)

pub overflow_add-result : goal.overflow_add-result
overflow_add-result c = omega (arith, long_few (goal.at.overflow_add-result c).After-struct_known-1)

pub overflow_mul-result : goal.overflow_mul-result
overflow_mul-result c = omega (arith, long_few (goal.at.overflow_mul-result c).After-struct_known-1)

pub returns : goal.returns
returns c =
    let high : c.args.a + 24 ≤ 30600 = omega (arith, (in_range _ c.requires).1) in
    ap (λ (R : ℕ). ltb c.args.share (32 * R)) (rows_told _ (found (goal.at.returns c).After-struct_known-1).told) ∙ sym (short_told _ high _)
