-- `numbers::put_number` meets its contract: the loop's invariant is `Lowering`, what is left of the number stands for the bytes to come.
-- Assumes nothing.
use Rattle.state_bytes.proofs.Bytes.{Lowering}
use Rattle.state_bytes.proofs.numbers.put_number.Given as goal

abbrev pub invariant-loop-i : goal.invariant-loop-i
invariant-loop-i l = Lowering l.number l.initial.out l.out l.rest l.i
