-- `mapping::rows_of` meets its contract: whole rows, and one more where places are left.
-- Assumes nothing.
use native.Mathlib.Omega.{arith}
use Rattle.rate_matching.specs.SubBlocks.{rows}
use Rattle.rate_matching.proofs.mapping.rows_of.Goals as goal

pub returns : goal.returns
unfolding rows
returns c = omega arith
