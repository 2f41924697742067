-- `fours::join` meets its contract: the loop fills its part by the rule `joined`, and four bits make a number below 16.
-- Assumes nothing.
use lib.ListN.{length}
use Rattle.interleaver.specs.inner.Quarters.{joined}
use Rattle.interleaver.proofs.Filling.{Filling}
use Rattle.interleaver.proofs.fours.join.Given as goal

abbrev pub invariant-loop-i : goal.invariant-loop-i
invariant-loop-i l = Filling (length l.initial.part) (joined l.c l.a l.b l.d l.e) l.initial.part l.part l.i
