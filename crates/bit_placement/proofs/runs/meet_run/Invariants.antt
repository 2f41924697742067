-- `runs::meet_run` meets its contract: after i turns the first i bits have met the run (`Along`).
-- Assumes nothing.
use Rattle.bit_placement.proofs.Along.{Meeting}
use Rattle.bit_placement.proofs.runs.meet_run.Given as goal

abbrev pub invariant-loop-i : goal.invariant-loop-i
invariant-loop-i l = Meeting l.bits l.initial.run l.run l.i
