-- `states::too_many` meets its contract: the definition's comparison.
-- Assumes nothing.
use Rattle.slots.specs.State.{too_many}
use Rattle.slot_calls.proofs.states.too_many.Goals as goal

pub returns : goal.returns
unfolding too_many
returns c = rw c.block_count.ensures
