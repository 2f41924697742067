-- The place takes the next bit.
use Rattle.check_bits.proofs.Putting.{next}
use Rattle.check_bits.proofs.put_bits.Goals as goal

pub loop-place-preserved : goal.loop-place-preserved
loop-place-preserved c = next c.loop-place-test.true c.loop-place.invariant
