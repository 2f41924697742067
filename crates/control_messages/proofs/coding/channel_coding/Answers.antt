use native.Mathlib.Omega.{arith}
use Rattle.control_messages.proofs.Tabbing.{start, next, finish}
use Rattle.control_messages.proofs.coding.channel_coding.Goals as goal

pub loop-k-init : goal.loop-k-init
loop-k-init c = start (omega arith)

pub loop-k-preserved : goal.loop-k-preserved
loop-k-preserved c = next c.three.ensures (omega arith) c.loop-k.invariant

pub returns : goal.returns
returns c = finish (omega arith) c.loop-k.invariant
