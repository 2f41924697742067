-- `circle::count_row` meets its contract: the columns passed are counted (`Lacking`).
-- Assumes nothing.
use Rattle.rate_matching.specs.SubBlocks.{rows}
use Rattle.rate_matching.specs.Matrix.{heads_of}
use Rattle.kept_bits.proofs.Lacking.{InRow}
use Rattle.kept_bits.proofs.circle.count_row.Given as goal

abbrev pub invariant-loop-p : goal.invariant-loop-p
invariant-loop-p l = InRow l.circle (heads_of (rows l.d) 0) l.row l.from l.to l.n l.p
