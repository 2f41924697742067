-- `finish` meets its contract: a refusal leaves the bytes, an accepted call the head of its state.
-- Assumes nothing.
use borrow.Author.Tests.{ne_eqb}
use Rattle.state_bytes.specs.StateBytes.{bytes_after}
use Rattle.state_bytes.proofs.finish.Goals as goal

pub returns-then-found-ne0-clause-bytes_after : goal.returns-then-found-ne0-clause-bytes_after
unfolding bytes_after
returns-then-found-ne0-clause-bytes_after c = rw (← c.number-found.ensures, ne_eqb _ 0 c.if-found-ne0.true)

pub returns-clause-bytes_after : goal.returns-clause-bytes_after
unfolding bytes_after
returns-clause-bytes_after c = rw (← c.number-found.ensures, c.if-found-ne0.false) (rw c.head_at.ensures at c.put_head.ensures)
