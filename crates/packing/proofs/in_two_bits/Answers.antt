-- `in_two_bits` meets its contract: each return by the test on the way.
-- Assumes nothing.
use borrow.Author.Tests.{lt-ltb, le-ltb}
use Rattle.packing.specs.Packing.{in_two_bits}
use Rattle.packing.proofs.in_two_bits.Goals as goal

pub returns-then-x-gt3 : goal.returns-then-x-gt3
unfolding in_two_bits
returns-then-x-gt3 c = simp (lt-ltb _ _ c.if-x-gt3.true)

pub returns-else-x-gt3 : goal.returns-else-x-gt3
unfolding in_two_bits
returns-else-x-gt3 c = simp (le-ltb _ _ c.if-x-gt3.false)
