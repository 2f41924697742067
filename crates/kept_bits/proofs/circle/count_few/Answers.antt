use native.Mathlib.Omega.{arith}
use lib.ListN.{get_or}
use Rattle.kept_bits.specs.Circle.{missing_at}
use Rattle.kept_bits.proofs.Sums.{next, finish}
use Rattle.kept_bits.proofs.Bytes.{missing_le}
use Rattle.kept_bits.proofs.circle.count_few.Goals as goal

pub overflow_add-n : goal.overflow_add-n
overflow_add-n c = omega (arith, c.missing-n.ensures, missing_le (get_or c.args.bytes.now c.loop-byte.byte-index 0))

pub loop-byte-preserved : goal.loop-byte-preserved
unfolding missing_at
loop-byte-preserved c = next (omega arith) c.missing-n.ensures (rw c.missing-n.ensures (missing_le _)) c.loop-byte.invariant

pub returns : goal.returns
returns c = finish (omega arith) c.loop-byte.invariant
