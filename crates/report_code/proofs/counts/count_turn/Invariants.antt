-- `counts::count_turn` meets its contract: the turn's bits are added place by place.
-- Assumes nothing.
use Rattle.report_code.proofs.Folding.{Counting}
use Rattle.report_code.proofs.counts.count_turn.Given as goal

abbrev pub invariant-loop-i : goal.invariant-loop-i
invariant-loop-i l = Counting l.turn l.initial.ones l.initial.zeros l.ones l.zeros l.i
