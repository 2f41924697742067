-- `fours::find` meets its contract: the loop keeps `Finding`, and every bound follows from it.
-- Assumes nothing.
use Prim.Native.Nat.{◌*◌}
use lib.ListN.{length}
use Rattle.interleaver.proofs.Finding.{Finding}
use Rattle.interleaver.proofs.fours.find.Given as goal

abbrev pub invariant-loop-turn : goal.invariant-loop-turn
invariant-loop-turn l = Finding (length l.w) l.f1 l.f2 l.w l.initial.y l.step l.y l.zeroth l.first l.second l.third (4 * l.turn)
