-- `mapping::heads_of` meets its contract: one column a turn (`Matrix`).
-- Assumes nothing.
use Rattle.rate_matching.specs.SubBlocks.{rows}
use Rattle.rate_matching.proofs.Matrix.{Finding}
use Rattle.rate_matching.proofs.mapping.heads_of.Given as goal

abbrev pub invariant-loop-p : goal.invariant-loop-p
invariant-loop-p l = Finding (rows l.d) l.stream l.initial.heads l.heads l.p
