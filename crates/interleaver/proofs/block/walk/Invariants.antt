-- `block::walk` meets its contract: the loop keeps `Walking`, and every bound follows from it and from `Walkable`.
-- Assumes nothing.
use Rattle.interleaver.proofs.Walk.{Walking}
use Rattle.interleaver.proofs.block.walk.Given as goal

abbrev pub invariant-loop-bit : goal.invariant-loop-bit
invariant-loop-bit l = Walking l.k l.f1 l.f2 l.c l.initial.out l.step l.out l.g l.p l.bit-index
