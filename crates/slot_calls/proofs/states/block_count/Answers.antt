-- `states::block_count` meets its contract: two code blocks taken out of the quotient.
-- Assumes nothing.
use Prim.Native.Nat.{◌+◌}
use native.Mathlib.Omega.{arith}
use borrow.Author.Tests.{le-leb, lt-leb}
use Rattle.segmentation.specs.Segmentation.{blocks}
use Rattle.slot_calls.proofs.states.block_count.Goals as goal

pub returns-then-a-le6120 : goal.returns-then-a-le6120
unfolding blocks
returns-then-a-le6120 c = rw (le-leb (c.args.a + 24) 6144 (omega arith))

pub returns-else-a-le6120 : goal.returns-else-a-le6120
unfolding blocks
returns-else-a-le6120 c = rw (lt-leb (c.args.a + 24) 6144 (omega arith)) (omega arith)
