-- `lines::put_numbers` meets its contract: a loop over the numbers, with the laws of `Numbers`.
-- Assumes nothing.
use Rattle.lines.proofs.Numbers.{Numbers}
use Rattle.lines.proofs.put_numbers.Given as goal

abbrev pub invariant-loop-i : goal.invariant-loop-i
invariant-loop-i l = Numbers l.numbers l.at l.initial.out l.out l.end l.i
