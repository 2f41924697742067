-- `circle::show` meets its contract: the bytes passed are shown, the others as they came (`Runs`).
-- Assumes nothing.
use Rattle.kept_bits.proofs.Runs.{Showing}
use Rattle.kept_bits.proofs.circle.show.Given as goal

abbrev pub invariant-loop-byte : goal.invariant-loop-byte
invariant-loop-byte l = Showing l.initial.run l.run l.byte-index
