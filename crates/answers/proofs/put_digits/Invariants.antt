-- `answers::put_digits` meets its contract: a loop over the bits, with the laws of `Digits`.
-- Assumes nothing.
use Rattle.answers.proofs.Digits.{Spelt}
use Rattle.answers.proofs.put_digits.Given as goal

abbrev pub invariant-loop-i : goal.invariant-loop-i
invariant-loop-i l = Spelt l.bits l.at l.initial.out l.out l.i
