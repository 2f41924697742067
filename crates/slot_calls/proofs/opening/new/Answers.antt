-- `opening::new` meets its contract: the shape decides.
-- Assumes nothing.
use Rattle.refusals.specs.Refusals.{first_of}
use Rattle.slots.specs.Answers.{unless_refused}
use Rattle.slots.specs.Calls.{new_outcome}
use Rattle.slot_calls.proofs.opening.new.Goals as goal

pub returns-then-bad_shape : goal.returns-then-bad_shape
unfolding new_outcome unless_refused first_of
returns-then-bad_shape c = rw (c.all_closed.ensures, ← c.bad_shape.ensures, c.if-bad_shape.true, c.into.ensures)

pub returns : goal.returns
unfolding new_outcome unless_refused first_of
returns c = rw (c.all_closed-2.ensures, ← c.bad_shape.ensures, c.if-bad_shape.false)
