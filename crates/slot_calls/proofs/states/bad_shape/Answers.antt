-- `states::bad_shape` meets its contract: S is looked at, then M.
-- Assumes nothing.
use mathlib.Core.Bool.{◌||◌}
use lib.Dec.{eqb, ltb}
use Rattle.slots.specs.State.{bad_shape}
use Rattle.slots.proofs.Tests.{or_first, or_second}
use Rattle.slot_calls.proofs.states.bad_shape.Goals as goal

pub returns-then-outside : goal.returns-then-outside
unfolding bad_shape
returns-then-outside c = let m = c.args.m in or_first (eqb m 0 || ltb 5 m) c.outside.ensures c.if-outside.true

pub returns-else-outside : goal.returns-else-outside
unfolding bad_shape
returns-else-outside c = or_second c.outside.ensures c.if-outside.false c.outside-else-outside.ensures
