-- `shortened::cut_at` meets its contract: the smaller of the share and 96·R.
-- Assumes nothing.
use native.Mathlib.Omega.{arith}
use Rattle.rate_matching.specs.SubBlocks.{rows}
use Rattle.rate_matching.specs.Circle.{circle_length, cut_at}
use Rattle.rate_matching.proofs.shortened.cut_at.Goals as goal

pub returns : goal.returns
unfolding cut_at circle_length rows
returns c = omega arith
