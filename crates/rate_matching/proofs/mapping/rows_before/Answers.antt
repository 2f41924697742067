-- `mapping::rows_before` meets its contract: the quotient, rounded up.
-- Assumes nothing.
use native.Mathlib.Omega.{arith}
use Rattle.rate_matching.specs.SubBlocks.{rows_before}
use Rattle.rate_matching.proofs.mapping.rows_before.Goals as goal

pub returns-then-i-p : goal.returns-then-i-p
unfolding rows_before
returns-then-i-p c = omega arith

pub returns-else-i-p : goal.returns-else-i-p
unfolding rows_before
returns-else-i-p c = omega arith
