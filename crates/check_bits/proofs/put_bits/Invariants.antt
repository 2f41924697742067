-- The bits of the powers below `length - place` are still to come.
use Rattle.check_bits.proofs.Putting.{Putting}
use Rattle.check_bits.proofs.put_bits.Given as goal

abbrev pub invariant-loop-place : goal.invariant-loop-place
invariant-loop-place l = Putting l.length l.remainder l.initial.out l.out l.place
