-- `room::read_room` meets its contract: the sequence of the longest block fits the longest array.
-- Assumes nothing.
use native.Mathlib.Omega.{arith}
use Rattle.reading.proofs.Blocks.{high}
use Rattle.reading.proofs.Sequence.{fit}
use Rattle.reading.proofs.room.read_room.Goals as goal

pub read_with-requires-else-a-le6120 : goal.read_with-requires-else-a-le6120
read_with-requires-else-a-le6120 c = (c.requires.0, omega (arith, high c.args.a (fit c.args.a _ c.requires.0).admitted), omega arith, c.requires.1)
