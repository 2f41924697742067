use native.Mathlib.Omega.{arith}
use Rattle.packing.proofs.Changing.{packing_start, packing_next, packing_finish}
use Rattle.packing.proofs.pack_by.Goals as goal

pub loop-i-init : goal.loop-i-init
loop-i-init g c = packing_start _ _ _ c.requires.counts.0 c.requires.counts.1

pub loop-i-preserved : goal.loop-i-preserved
loop-i-preserved g c = packing_next c.loop-i.invariant c.loop-i-test.true (c.requires.gives _ _ c.loop-i-test.true c.byte.type_inv c.byte.ensures)

pub returns : goal.returns
returns g c = packing_finish c.loop-i.invariant c.loop-i-test.false
