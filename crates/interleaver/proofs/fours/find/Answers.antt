use Prim.Native.Nat.{◌+◌, ◌*◌}
use mathlib.Core.Path.{◌≡◌}
use native.Mathlib.Omega.{arith}
use Rattle.interleaver.proofs.Finding as finding
use Rattle.interleaver.proofs.fours.find.Goals as goal

pub loop-turn-init : goal.loop-turn-init
loop-turn-init c = finding.start (omega arith) c.first_four-start.ensures

pub loop-turn-preserved : goal.loop-turn-preserved
loop-turn-preserved c =
    let on : 4 * c.loop-turn.turn + 4 ≡ 4 * (c.loop-turn.turn + 1) = omega arith in
    rw on at (
    finding.next (omega arith)
    c.on-zeroth.ensures c.on-first.ensures c.on-second.ensures c.on-third.ensures
    c.loop-turn.invariant)

pub returns : goal.returns
returns c = finding.finish (omega (arith, c.requires.1)) c.loop-turn.invariant
