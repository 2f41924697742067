-- `fours::spread` meets its contract: the loop fills its part by the rule `digit`.
-- Assumes nothing.
use lib.ListN.{length}
use Rattle.interleaver.specs.inner.Quarters.{digit}
use Rattle.interleaver.proofs.Filling.{Filling}
use Rattle.interleaver.proofs.fours.spread.Given as goal

abbrev pub invariant-loop-i : goal.invariant-loop-i
invariant-loop-i l = Filling (length l.y) (digit l.y l.shift) l.initial.part l.part l.i
