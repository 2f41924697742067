use mathlib.Core.Path.{◌∙◌}
use Rattle.report_code.proofs.Folding.{few_counts, left_start, turn_ready, left_next, left_finish}
use Rattle.report_code.proofs.counts.counted.Goals as goal

pub loop-turn-init : goal.loop-turn-init
loop-turn-init c =
    let e = c.into_iter-turn-iterator.ensures.into_iter_gives in
    let turns = c.chunks_exact-turns.ensures in
    (rw e turns.size, rw e (left_start turns.rest))

pub count_turn-requires : goal.count_turn-requires
count_turn-requires c =
    let step = c.in-Some.ensures.steps.1 in
    let left = c.loop-turn.invariant.1 in
    let w = left.folding in
    let given = c.requires in record {
      turn_len_bound = turn_ready left given.1 _ _ step.0 (step.1 ∙ c.loop-turn.invariant.0);
      each_below = (few_counts c.loop-turn.ones given.0 w.within w.ones_few, few_counts c.loop-turn.zeros given.0 w.within w.zeros_few);
      ones_len = (w.ones_long, w.zeros_long);
    }

pub loop-turn-preserved : goal.loop-turn-preserved
loop-turn-preserved c =
    let step = c.in-Some.ensures.steps.1 in
    (c.in-Some.ensures.steps.0 ∙ c.loop-turn.invariant.0, left_next c.loop-turn.invariant.1 c.requires.1 _ _ step.0 (step.1 ∙ c.loop-turn.invariant.0) c.count_turn.ensures.ones_after c.count_turn.ensures.zeros_after)

pub returns : goal.returns
returns c =
    let few = rw c.loop-turn.invariant.0 at c.in-None.ensures.steps.1.0 in
    left_finish c.loop-turn.invariant.1 c.requires.1 few _ (c.remainder-last.ensures ∙ c.chunks_exact-turns.ensures.remainder) c.count_turn-2.ensures.ones_after c.count_turn-2.ensures.zeros_after
