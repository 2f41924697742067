-- `lines::read_digits` meets its contract: a loop over the bytes, with the laws of `Reading`.
-- Assumes nothing.
use Rattle.lines.proofs.Reading.{Reading}
use Rattle.lines.proofs.read_digits.Given as goal

abbrev pub invariant-loop-byte : goal.invariant-loop-byte
invariant-loop-byte l = Reading l.line l.n l.byte-index
