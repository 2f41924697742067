use mathlib.Core.Path.{sym, ◌∙◌}
use native.Mathlib.Omega.{arith}
use Rattle.bit_placement.proofs.Along.{meeting_start, meeting_next, meeting_finish}
use Rattle.reception.proofs.Ring.{known_put, meet_known_is}
use Rattle.reception.proofs.turns.agree_run.Goals as goal

pub loop-i-init : goal.loop-i-init
loop-i-init c = (meeting_start, c.requires.2)

pub loop-i-preserved : goal.loop-i-preserved
loop-i-preserved c =
    let told = c.agreed.ensures ∙ sym (meet_known_is _ _ (c.loop-i.invariant.1 c.loop-i.i)) in
    (rw told (meeting_next (omega arith) c.loop-i.invariant.0), rw told (known_put c.loop-i.run c.loop-i.i _ c.loop-i.invariant.1 (c.requires.1 c.loop-i.i)))

pub returns : goal.returns
returns c = meeting_finish (omega arith) c.loop-i.invariant.0
