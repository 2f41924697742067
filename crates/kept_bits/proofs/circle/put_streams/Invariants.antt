-- `circle::put_streams` meets its contract: one run a turn, each in its own part of the output (`Runs`).
-- Assumes nothing.
use Rattle.kept_bits.proofs.Runs.{Running}
use Rattle.kept_bits.proofs.circle.put_streams.Given as goal

abbrev pub invariant-loop-s : goal.invariant-loop-s
invariant-loop-s l = Running l.circle l.d l.f l.initial.out l.out l.s
