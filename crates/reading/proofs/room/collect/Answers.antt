use native.Mathlib.Omega.{arith}
use Rattle.packing.specs.Store.{places_in}
use Rattle.reading.proofs.Blocks.{blocks_few}
use Rattle.reading.proofs.Sequence.{fit, hearing_start, Turn, turn, part_back, sum_fits, hearing_next, hearing_blocks, hearing_finish}
use Rattle.reading.proofs.Release.{some_lacking, one_wrong, none_wrong}
use Rattle.reading.proofs.room.collect.Goals.{After-filler_of-f}
use Rattle.reading.proofs.room.collect.Goals as goal

-- what the turn needs
parts : (c : After-filler_of-f) → Turn (places_in c.args.four c.args.room.now) c.loop-r.b c.loop-r.r c.loop-r.at c.size_of-k.result
    c.check_length-check.result c.filler_of-f.result
parts c =
    turn c.segments_for-s.ensures c.check_length-check.ensures c.loop-r-test.true c.size_of-k.ensures
    c.filler_of-f.ensures c.loop-r.invariant

pub loop-r-init : goal.loop-r-init
loop-r-init c = hearing_start _ _ _ (fit _ _ c.requires.0) c.requires.1

pub overflow_sub-end : goal.overflow_sub-end
overflow_sub-end c = (parts (goal.at.overflow_sub-end c).After-filler_of-f).filled

pub overflow_add-end : goal.overflow_add-end
overflow_add-end c = omega (arith, (parts (goal.at.overflow_add-end c).After-filler_of-f).ends)

pub slice_bounds-read_data-end : goal.slice_bounds-read_data-end
slice_bounds-read_data-end c = (parts (goal.at.slice_bounds-read_data-end c).After-filler_of-f).ends

pub read_data-requires : goal.read_data-requires
read_data-requires c = (record { enough = (parts (goal.at.read_data-requires c).After-filler_of-f).circle }, (parts (goal.at.read_data-requires c).After-filler_of-f).stretch)

pub slice_bounds-count_missing-end : goal.slice_bounds-count_missing-end
slice_bounds-count_missing-end c =
    part_back (parts (goal.at.slice_bounds-count_missing-end c).After-filler_of-f) c.read_data.new.out c.read_data.auto.out

pub overflow_add-lacking : goal.overflow_add-lacking
overflow_add-lacking c =
    record {
      fits =
          sum_fits c.segments_for-s.ensures c.check_length-check.ensures c.loop-r-test.true c.size_of-k.ensures
          c.filler_of-f.ensures c.loop-r.invariant c.read_data.ensures c.count_missing-lacking.ensures;
    }

pub slice_bounds-right_after-end : goal.slice_bounds-right_after-end
slice_bounds-right_after-end c =
    part_back (parts (goal.at.slice_bounds-right_after-end c).After-filler_of-f) c.read_data.new.out c.read_data.auto.out

pub right_after-right-requires : goal.right_after-right-requires
right_after-right-requires c =
    omega (arith, c.loop-r-test.true, blocks_few _ c.segments_for-s.ensures)

pub overflow_sub-at : goal.overflow_sub-at
overflow_sub-at c = (parts (goal.at.overflow_sub-at c).After-filler_of-f).checked

pub loop-r-preserved : goal.loop-r-preserved
loop-r-preserved c =
    hearing_next c.segments_for-s.ensures c.check_length-check.ensures c.loop-r-test.true c.size_of-k.ensures
    c.filler_of-f.ensures c.loop-r.invariant c.read_data.ensures c.count_missing-lacking.ensures
    c.right_after-right.ensures

pub returns-then-lacking-ne0 : goal.returns-then-lacking-ne0
returns-then-lacking-ne0 c =
    let all = hearing_finish c.segments_for-s.ensures c.loop-r-test.false c.loop-r.invariant in
    record { heard = some_lacking _ _ all.0 c.if-lacking-ne0.true; sequence = all.2 }

pub returns-then-right-s : goal.returns-then-right-s
returns-then-right-s c =
    let all = hearing_finish c.segments_for-s.ensures c.loop-r-test.false c.loop-r.invariant in
    record { heard = one_wrong _ _ all.0 c.if-lacking-ne0.false all.1 (hearing_blocks c.segments_for-s.ensures c.loop-r.invariant) c.if-right-s.true; sequence = all.2 }

pub returns : goal.returns
returns c =
    let all = hearing_finish c.segments_for-s.ensures c.loop-r-test.false c.loop-r.invariant in
    record { heard = none_wrong _ _ all.0 c.if-lacking-ne0.false all.1 (hearing_blocks c.segments_for-s.ensures c.loop-r.invariant) c.if-right-s.false; sequence = all.2 }
