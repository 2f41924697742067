use mathlib.Core.Path.{◌∙◌}
use Rattle.reception.proofs.Left.{left_start, left_finish, turn_ready, left_next}
use Rattle.reception.proofs.turns.meet_turns.Goals as goal

pub loop-turn-init : goal.loop-turn-init
loop-turn-init c =
    let e = c.into_iter-turn-iterator.ensures.into_iter_gives in
    let turns = c.chunks-turn-items.ensures in
    (rw e turns.size, rw e (left_start _ _ c.requires.1 c.requires.2 c.copy_from_slice.ensures.after turns.rest))

pub agree_run-requires : goal.agree_run-requires
agree_run-requires c =
    let step = c.in-Some.ensures.steps.1 in
    turn_ready _ _ c.requires.1 c.requires.2 c.requires.0 c.loop-turn.invariant.1 _ _ step.0 (rw c.loop-turn.invariant.0 at step.1) step.2

pub loop-turn-preserved : goal.loop-turn-preserved
loop-turn-preserved c =
    let step = c.in-Some.ensures.steps.1 in
    (c.in-Some.ensures.steps.0 ∙ c.loop-turn.invariant.0, left_next _ _ c.requires.1 c.requires.2 c.requires.0 c.loop-turn.invariant.1 _ _ step.0 (rw c.loop-turn.invariant.0 at step.1) step.2 c.agree_run.ensures)

pub returns : goal.returns
returns c = left_finish _ _ c.requires.1 c.requires.2 c.requires.0 c.loop-turn.invariant.1 c.in-None.ensures.steps.1.0
