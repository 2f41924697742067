-- `numbers::put_numbers` meets its contract: the loop's invariant is `Putting`, the bytes of the numbers so far stand before the place.
-- Assumes nothing.
use Rattle.state_bytes.proofs.Bytes.{Putting}
use Rattle.state_bytes.proofs.numbers.put_numbers.Given as goal

abbrev pub invariant-loop-number : goal.invariant-loop-number
invariant-loop-number l = Putting l.numbers l.width l.initial.out l.out l.number-index l.at
