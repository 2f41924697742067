use mathlib.Core.Path.{◌≡◌, ◌∙◌}
use Prim.Native.Nat.{◌+◌, ◌-◌, ◌*◌, ◌/◌, ◌≤◌}
use native.Mathlib.Omega.{arith}
use lib.Dec.{lit<}
use lib.ListN.{length, drop}
use Rattle.laws.proofs.AreBits.{take_below, drop_below}
use Rattle.segmentation.specs.Segmentation.{blocks, size_of, filler_of}
use Rattle.rate_matching.specs.SubBlocks.{rows}
use Rattle.codeword.specs.Build.{share_of}
use Rattle.reading.proofs.Blocks.{Block, block_of, blocks_few}
use Rattle.reception.proofs.Blocks.{count_is}
use Rattle.reception.proofs.Filling.{filling_start, filling_finish, stretch_within, next_small, size_few, bytes_within, bytes_send, sum_small, filling_next}
use Rattle.reception.proofs.code_blocks.put_blocks.Goals.{After-filler_of-filler, After-share_of, After-size_of-k, In-loop-r}
use Rattle.reception.proofs.code_blocks.put_blocks.Goals as goal

-- in the loop: the numbers of code block r
block : (c : In-loop-r) → Block c.args.a c.segments_for-s.result c.loop-r.r
block c = block_of _ c.segments_for-s.ensures c.loop-r-test.true

size : (c : After-size_of-k) → c.size_of-k.result ≡ size_of (c.args.a + 24) c.loop-r.r
size c = c.size_of-k.ensures ∙ (block_of _ c.segments_for-s.ensures c.loop-r-test.true).size

filled : (c : After-filler_of-filler) → c.filler_of-filler.result ≡ filler_of (c.args.a + 24) c.loop-r.r
filled c = c.filler_of-filler.ensures ∙ (block_of _ c.segments_for-s.ensures c.loop-r-test.true).filled

share_of_lem : (c : After-share_of) → let e = c.args in
    c.share_of.result ≡ share_of (blocks (e.a + 24)) e.grant.modulation e.grant.layers e.grant.bits c.loop-r.r
share_of_lem c = rw (count_is _ c.requires.size c.segments_for-s.ensures) at c.share_of.ensures

-- its stretch of the bits and its bytes of the room
bits_fit : (c : After-share_of) → c.loop-r.at + c.share_of.result ≤ length c.args.bits.now
bits_fit c = stretch_within _ _ c.requires (block_of _ c.segments_for-s.ensures c.loop-r-test.true).below c.loop-r.invariant (share_of_lem c)

bytes_fit : (c : After-share_of) → c.loop-r.from + c.bytes_a_row-row.result * ((c.size_of-k.result + 4 + 31) / 32) ≤ length c.loop-r.room
unfolding rows
bytes_fit c =
    let b = block_of _ c.segments_for-s.ensures c.loop-r-test.true in
    bytes_within _ _ c.requires b.below c.loop-r.invariant (c.size_of-k.ensures ∙ b.size) (c.filler_of-filler.ensures ∙ b.filled) c.bytes_a_row-row.ensures

small : (c : After-share_of) → c.size_of-k.result ≤ 6144
small c =
    let b = block_of _ c.segments_for-s.ensures c.loop-r-test.true in
    size_few _ _ c.requires b.below c.loop-r.invariant (c.size_of-k.ensures ∙ b.size) (c.filler_of-filler.ensures ∙ b.filled) c.bytes_a_row-row.ensures

pub loop-r-init : goal.loop-r-init
loop-r-init c = filling_start

pub overflow_add-end : goal.overflow_add-end
overflow_add-end c = omega (arith, bits_fit (goal.at.overflow_add-end c).After-share_of)

pub overflow_add-d : goal.overflow_add-d
overflow_add-d c = omega (arith, small (goal.at.overflow_add-d c).After-share_of)

pub overflow_add-to : goal.overflow_add-to
overflow_add-to c = omega (arith, small (goal.at.overflow_add-to c).After-share_of)

pub overflow_mul-to : goal.overflow_mul-to
overflow_mul-to c = omega (arith, bytes_fit (goal.at.overflow_mul-to c).After-share_of)

pub overflow_add-to-in-loop-r : goal.overflow_add-to-in-loop-r
overflow_add-to-in-loop-r c = omega (arith, bytes_fit (goal.at.overflow_add-to-in-loop-r c).After-share_of)

pub slice_bounds-put_part-end : goal.slice_bounds-put_part-end
slice_bounds-put_part-end c = bits_fit (goal.at.slice_bounds-put_part-end c).After-share_of

pub slice_bounds-put_part-end-in-loop-r : goal.slice_bounds-put_part-end-in-loop-r
slice_bounds-put_part-end-in-loop-r c = bytes_fit (goal.at.slice_bounds-put_part-end-in-loop-r c).After-share_of

pub put_part-lacking-requires : goal.put_part-lacking-requires
unfolding rows
put_part-lacking-requires c =
    let at = c.loop-r.at in
    let given = c.args.bits.now in
    let w = bytes_send _ _ c.requires (block (goal.at.put_part-lacking-requires c).In-loop-r).below c.loop-r.invariant (size (goal.at.put_part-lacking-requires c).After-size_of-k) (filled (goal.at.put_part-lacking-requires c).After-filler_of-filler) c.bytes_a_row-row.ensures in
    (record { fits = w.2 }, w.3, take_below 2 (lit< tt) (at + c.share_of.result - at) (drop at given) (drop_below 2 at given c.requires.given))

pub overflow_add-lacking : goal.overflow_add-lacking
unfolding rows
overflow_add-lacking c =
    let sum =
    sum_small _ _ c.requires (block (goal.at.overflow_add-lacking c).In-loop-r).below c.loop-r.invariant (size (goal.at.overflow_add-lacking c).After-size_of-k) (filled (goal.at.overflow_add-lacking c).After-filler_of-filler) c.bytes_a_row-row.ensures _ (share_of_lem (goal.at.overflow_add-lacking c).After-share_of)
    c.bytes_a_block-long.ensures c.put_part-lacking.auto.part c.put_part-lacking.ensures.stored c.put_part-lacking.ensures.count in
    omega (arith, sum, c.loop-r-test.true, blocks_few _ c.segments_for-s.ensures)

pub overflow_add-from : goal.overflow_add-from
overflow_add-from c =
    omega (arith, next_small _ _ c.requires (block (goal.at.overflow_add-from c).In-loop-r).below c.loop-r.invariant c.bytes_a_block-long.ensures)

pub invariant_of-sent : goal.invariant_of-sent
unfolding rows
invariant_of-sent c =
    let w = bytes_send _ _ c.requires (block (goal.at.invariant_of-sent c).In-loop-r).below c.loop-r.invariant (size (goal.at.invariant_of-sent c).After-size_of-k) (filled (goal.at.invariant_of-sent c).After-filler_of-filler) c.bytes_a_row-row.ensures in
    record { sends = w.0; holds = w.1 }

pub loop-r-preserved : goal.loop-r-preserved
unfolding rows
loop-r-preserved c =
    filling_next _ _ c.requires (block (goal.at.loop-r-preserved c).In-loop-r).below c.loop-r.invariant (size (goal.at.loop-r-preserved c).After-size_of-k) (filled (goal.at.loop-r-preserved c).After-filler_of-filler) c.bytes_a_row-row.ensures _ (share_of_lem (goal.at.loop-r-preserved c).After-share_of)
    c.bytes_a_block-long.ensures c.put_part-lacking.auto.part c.put_part-lacking.ensures.stored c.put_part-lacking.ensures.count

pub returns : goal.returns
returns c =
    let all = count_is _ c.requires.size c.segments_for-s.ensures in
    let told = filling_finish (omega arith) c.loop-r.invariant in
    record { stored = told.0; count = told.1 }
