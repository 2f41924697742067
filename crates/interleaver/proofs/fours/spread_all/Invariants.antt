-- `fours::spread_all` meets its contract: the loop keeps `Spreading`.
-- Assumes nothing.
use Rattle.interleaver.proofs.Spreading.{Spreading}
use Rattle.interleaver.proofs.fours.spread_all.Given as goal

abbrev pub invariant-loop-quarter : goal.invariant-loop-quarter
invariant-loop-quarter l = Spreading l.f1 l.y l.initial.out l.out l.shift l.quarter
