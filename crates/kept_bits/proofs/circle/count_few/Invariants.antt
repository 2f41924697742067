-- `circle::count_few` meets its contract: the bytes passed are added up (`Sums`).
-- Assumes nothing.
use lib.ListN.{length}
use Rattle.kept_bits.specs.Circle.{missing_at}
use Rattle.kept_bits.proofs.Sums.{Summing}
use Rattle.kept_bits.proofs.circle.count_few.Given as goal

abbrev pub invariant-loop-byte : goal.invariant-loop-byte
invariant-loop-byte l = Summing (missing_at l.bytes) (length l.bytes) 1 l.byte-index l.n
