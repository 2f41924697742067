use native.Mathlib.Omega.{arith}
use borrow.Author.Tests.{leb-true}
use Rattle.packing.proofs.SmallPlaces.{above_next, above_none}
use Rattle.packing.proofs.small.all_small.Goals as goal

pub loop-place-init : goal.loop-place-init
loop-place-init c k h = absurd (omega arith)

pub loop-place-preserved : goal.loop-place-preserved
loop-place-preserved c = above_next c.args.places.now c.loop-place.invariant (omega (arith, c.max-most.ensures)) (omega (arith, c.max-most.ensures))

pub returns : goal.returns
returns c e = above_none c.args.places.now c.loop-place.invariant (omega arith) (leb-true _ 3 e)
