use native.Mathlib.Omega.{arith}
use lib.Bits.{and_mask}
use Rattle.control_messages.specs.Working.{bit_at}
use Rattle.control_messages.proofs.Tabbing.{start, next, finish}
use Rattle.control_messages.proofs.matching.put_stream.Goals as goal

pub loop-i-init : goal.loop-i-init
loop-i-init c = start (omega arith)

pub loop-i-preserved : goal.loop-i-preserved
unfolding bit_at
loop-i-preserved c = next (and_mask _ 1) (omega arith) c.loop-i.invariant

pub returns : goal.returns
returns c = finish (omega arith) c.loop-i.invariant
