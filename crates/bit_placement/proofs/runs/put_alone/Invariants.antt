-- `runs::put_alone` meets its contract: one place a turn (`Walking`).
-- Assumes nothing.
use Rattle.bit_placement.proofs.Walking.{Alone}
use Rattle.bit_placement.proofs.runs.put_alone.Given as goal

abbrev pub invariant-loop-k : goal.invariant-loop-k
invariant-loop-k l = Alone l.from.0 l.bits l.initial.part l.part l.n l.k
