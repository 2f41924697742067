use native.Mathlib.Omega.{arith}
use Rattle.interleaver.proofs.Walk as walk
use Rattle.interleaver.proofs.block.walk.Goals as goal

pub loop-bit-init : goal.loop-bit-init
loop-bit-init c = walk.start (omega arith) c.reduced-step.ensures c.reduced-g.ensures

pub loop-bit-preserved : goal.loop-bit-preserved
loop-bit-preserved c = walk.next c.requires.room (omega arith) c.reduced-p.ensures c.reduced-g-in-loop-bit.ensures c.loop-bit.invariant

pub returns : goal.returns
returns c = walk.finish c.requires.room (omega arith) c.loop-bit.invariant
