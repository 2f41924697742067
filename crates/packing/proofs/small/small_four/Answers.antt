-- `small::small_four` meets its contract: the product is the byte (`SmallPlaces`).
-- Assumes nothing.
use Rattle.packing.proofs.SmallPlaces.{small_is}
use Rattle.packing.proofs.small.small_four.Goals as goal

pub returns : goal.returns
returns c = small_is c.args.a c.args.b c.args.c c.args.d c.requires.0 c.requires.1 c.requires.2 c.requires.3
