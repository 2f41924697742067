-- `requests::read_bits` meets its contract: a loop that writes the bits, with the laws of `WrittenBits`.
-- Assumes nothing.
use Rattle.requests.proofs.WrittenBits.{Written}
use Rattle.requests.proofs.read_bits.Given as goal

abbrev pub invariant-loop-i : goal.invariant-loop-i
invariant-loop-i l = Written l.digits l.initial.out l.out l.i
