-- `state_in` meets its contract: too few bytes are the state of a refused New.
-- Assumes nothing.
use mathlib.Core.Path.{ap}
use borrow.Author.Tests.{lt-ltb}
use Rattle.refusals.specs.Refusals.{first_of}
use Rattle.slots.specs.Outcome.{Outcome}
use Rattle.slots.specs.State.{bad_shape}
use Rattle.slots.specs.Answers.{unless_refused}
use Rattle.slots.specs.Calls.{new_outcome}
use Rattle.state_bytes.specs.StateBytes.{state_in}
use Rattle.state_bytes.proofs.state_in.Goals as goal

pub returns-then-bytes-lt-STATE_LEN : goal.returns-then-bytes-lt-STATE_LEN
unfolding state_in new_outcome unless_refused first_of bad_shape
returns-then-bytes-lt-STATE_LEN c = rw (lt-ltb _ _ c.if-bytes-lt-STATE_LEN.true) (ap (λ (o : Outcome). o.state) c.new-refused.ensures)
