-- `head_from` meets its contract: four numbers, one after another.
-- Assumes nothing.
use Rattle.state_bytes.specs.StateBytes.{head_from}
use Rattle.state_bytes.proofs.head_from.Goals as goal

pub returns : goal.returns
unfolding head_from
returns c = cc
