-- `circle::count_before` meets its contract: the rows passed are counted, and the columns of the last (`Lacking`).
-- Assumes nothing.
use Rattle.rate_matching.specs.SubBlocks.{rows}
use Rattle.rate_matching.specs.Matrix.{heads_of}
use Rattle.kept_bits.proofs.Lacking.{Before}
use Rattle.kept_bits.proofs.circle.count_before.Given as goal

abbrev pub invariant-loop-above : goal.invariant-loop-above
invariant-loop-above l = Before l.circle (heads_of (rows l.d) 0) l.n l.above
