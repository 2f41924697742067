use native.Mathlib.Omega.{arith}
use Rattle.state_bytes.proofs.Bytes.{low_next, low_finish}
use Rattle.state_bytes.proofs.numbers.put_number.Goals as goal

pub loop-i-preserved : goal.loop-i-preserved
loop-i-preserved c = low_next c.loop-i.invariant (omega (arith, c.loop-i.invariant.written.long))

pub returns : goal.returns
returns c = low_finish c.loop-i.invariant (omega (arith, c.loop-i.invariant.written.long))
