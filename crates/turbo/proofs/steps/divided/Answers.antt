-- `turbo::steps::divided` meets its contract.
-- Assumes nothing.
use Rattle.turbo.specs.inner.Eight.{shl, times}
use Rattle.turbo.proofs.Division.{divided}
use Rattle.turbo.proofs.steps.divided.Goals as goal

pub returns : goal.returns
unfolding times shl
returns c = divided c.args.x
