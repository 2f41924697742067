-- `states::bad_size` meets its contract by the definition.
-- Assumes nothing.
use Rattle.segmentation.specs.Sizes.{bad_size}
use Rattle.slot_calls.proofs.states.bad_size.Goals as goal

pub returns : goal.returns
unfolding bad_size
returns c = c.outside.ensures
