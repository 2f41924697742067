-- `bad_bits` meets its contract: what is seen so far and what is still to come say what the whole list says.
-- Assumes nothing.
use Rattle.codeword.proofs.Seen.{Seen}
use Rattle.codeword.proofs.allocation.bad_bits.Given as goal

abbrev pub invariant-loop-bit : goal.invariant-loop-bit
invariant-loop-bit l = Seen l.bits l.bit-index l.seen
