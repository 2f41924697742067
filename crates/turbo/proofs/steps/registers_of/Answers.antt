-- The three lowest bytes.
use Rattle.turbo.specs.inner.Eight.{registers_of}
use Rattle.turbo.proofs.steps.registers_of.Goals as goal

pub returns : goal.returns
unfolding registers_of
returns c = rw c.to_le_bytes.ensures
