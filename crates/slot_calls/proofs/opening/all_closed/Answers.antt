-- `opening::all_closed` meets its contract: eight times the closed head.
-- Assumes nothing.
use Rattle.slots.specs.State.{new_state}
use Rattle.slot_calls.proofs.Closed.{closed}
use Rattle.slot_calls.proofs.opening.all_closed.Goals as goal

pub returns : goal.returns
unfolding new_state
returns c = rw (closed c.default.ensures)
