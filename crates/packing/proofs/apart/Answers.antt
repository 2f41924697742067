-- `apart` meets its contract: the product and the mask leave the four places, tested for each byte (`Places`).
-- Assumes nothing.
use native.Mathlib.Omega.{arith}
use Rattle.packing.proofs.Places.{apart_is}
use Rattle.packing.proofs.apart.Goals as goal

pub returns : goal.returns
returns c = apart_is c.args.b (omega arith)
