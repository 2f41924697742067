use native.Mathlib.Omega.{arith}
use Rattle.bit_placement.proofs.Along.{meeting_start, meeting_next, meeting_finish}
use Rattle.bit_placement.proofs.runs.meet_run.Goals as goal

pub loop-i-init : goal.loop-i-init
loop-i-init c = meeting_start

pub loop-i-preserved : goal.loop-i-preserved
loop-i-preserved c = rw c.met.ensures (meeting_next (omega arith) c.loop-i.invariant)

pub returns : goal.returns
returns c = meeting_finish (omega arith) c.loop-i.invariant
