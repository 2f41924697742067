-- `code_blocks::put_part` meets its contract: each form and each length of a packed circle by the tests on the way.
-- Assumes nothing.
use mathlib.Core.Path.{◌≡◌}
use mathlib.Core.Bool.{true}
use Prim.Native.Nat.{◌*◌}
use native.Mathlib.Omega.{arith}
use lib.ListN.{length}
use Rattle.packing.specs.Store.{places_in}
use Rattle.reception.proofs.Circles.{four_long, plain_long}
use Rattle.reception.proofs.code_blocks.put_part.Goals.{Else-not-four}
use Rattle.reception.proofs.code_blocks.put_part.Goals as goal

-- the form of the other arms, and a packed circle's places
packed : (c : Else-not-four) → c.args.four ≡ true
packed c = c.if-not-four.false

places : (c : Else-not-four) → let a = c.args in length (places_in a.four a.part.now) ≡ 4 * length a.part.now
places c = four_long c.args.part.now (packed c)

pub put_circle-requires : goal.put_circle-requires
put_circle-requires c = (record { fits = omega (arith, c.requires.0.fits, plain_long c.args.part.now c.if-not-four.true) }, c.requires.2)

pub returns-then-not-four : goal.returns-then-not-four
unfolding places_in
returns-then-not-four c = rw c.if-not-four.true c.put_circle.ensures

pub overflow_mul-part : goal.overflow_mul-part
overflow_mul-part c = omega (arith, places (goal.at.overflow_mul-part c).Else-not-four, c.requires.1)

pub put_with-requires-else-part-le-SHORT_CIRCLE : goal.put_with-requires-else-part-le-SHORT_CIRCLE
put_with-requires-else-part-le-SHORT_CIRCLE c =
    (rw (packed (goal.at.put_with-requires-else-part-le-SHORT_CIRCLE c).Else-not-four) at c.requires.0, omega (arith, places (goal.at.put_with-requires-else-part-le-SHORT_CIRCLE c).Else-not-four, c.requires.1), omega arith, c.requires.2)
