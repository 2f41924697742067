use native.Mathlib.Omega.{arith}
use Rattle.kept_bits.proofs.Runs.{showing_start, showing_next, showing_finish}
use Rattle.kept_bits.proofs.circle.show.Goals as goal

pub loop-byte-init : goal.loop-byte-init
loop-byte-init c = showing_start _

pub loop-byte-preserved : goal.loop-byte-preserved
loop-byte-preserved c = showing_next c.loop-byte.invariant (omega arith) c.shown.ensures

pub returns : goal.returns
returns c = showing_finish c.loop-byte.invariant (omega arith)
