-- The tail's closed form.
use Rattle.turbo.specs.Encode.{tail_of}
use Rattle.turbo.proofs.Encoder.{tails}
use Rattle.turbo.proofs.Registers.tail.Goals as goal

pub returns : goal.returns
unfolding tail_of
returns c = simp tails
