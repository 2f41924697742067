-- `least_symbols` meets its contract: the code blocks passed are looked at (`Looking`).
-- Assumes nothing.
use Rattle.planning.proofs.Looking.{Looking}
use Rattle.planning.proofs.least_symbols.Given as goal

abbrev pub invariant-loop-r : goal.invariant-loop-r
invariant-loop-r l = Looking l.a l.step l.alone l.s l.least l.r
