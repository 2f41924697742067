-- `fours::join_all` meets its contract: the loop keeps `Joining`.
-- Assumes nothing.
use Prim.Native.Nat.{◌/◌}
use Prim.Native.Nat.{◌*◌, ◌/◌}
use lib.ListN.{length}
use Rattle.interleaver.proofs.Joining.{Joining}
use Rattle.interleaver.proofs.fours.join_all.Given as goal

abbrev pub invariant-loop-quarter : goal.invariant-loop-quarter
invariant-loop-quarter l = Joining l.c l.initial.out l.out l.b l.d l.e (l.quarter * (length l.c / 4))
