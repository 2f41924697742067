-- `states::look` meets its contract: the shape, then the heads below S.
-- Assumes nothing.
use mathlib.Core.Path.{sym, ◌∙◌}
use Rattle.slots.specs.State.{closed_head, bad_state}
use Rattle.slots.proofs.Accepted.{good_shape}
use Rattle.slots.proofs.Heads as heads
use Rattle.slot_calls.proofs.states.look.Goals as goal

pub returns-then-bad_shape-clause-number : goal.returns-then-bad_shape-clause-number
unfolding bad_state
returns-then-bad_shape-clause-number c = rw (← c.bad_shape.ensures, c.if-bad_shape.true)

pub loop-i-init : goal.loop-i-init
loop-i-init c = ((good_shape (sym c.bad_shape.ensures ∙ c.if-bad_shape.false)).slots_most, heads.start)

pub returns-then-bad_head-clause-number : goal.returns-then-bad_head-clause-number
unfolding bad_state closed_head
returns-then-bad_head-clause-number c =
    rw (← c.bad_shape.ensures, c.if-bad_shape.false, heads.found c.loop-i-test.true (sym c.bad_head.ensures ∙ c.if-bad_head.true) c.loop-i.invariant.1)

pub loop-i-preserved : goal.loop-i-preserved
unfolding closed_head
loop-i-preserved c =
    (c.loop-i.invariant.0, heads.next c.loop-i-test.true (sym c.bad_head.ensures ∙ c.if-bad_head.false) c.loop-i.invariant.1)

pub returns-clause-number : goal.returns-clause-number
unfolding bad_state
returns-clause-number c = rw (← c.bad_shape.ensures, c.if-bad_shape.false, heads.finish c.loop-i-test.false c.loop-i.invariant.1)
