use mathlib.Core.Path.{◌∙◌}
use Prim.Native.Nat.{◌+◌, ◌*◌, ◌≤◌}
use native.Mathlib.Omega.{arith}
use lib.ListN.{length}
use Rattle.laws.proofs.Parts.{length_mid}
use Rattle.interleaver.proofs.Spreading as spreading
use Rattle.interleaver.proofs.fours.spread_all.Goals as goal

pub loop-quarter-init : goal.loop-quarter-init
loop-quarter-init c = spreading.start c.requires.2

pub loop-quarter-preserved : goal.loop-quarter-preserved
loop-quarter-preserved c =
    let n = length c.args.y.now in
    let u = c.loop-quarter.quarter in
    let left : u * n + n ≤ length c.loop-quarter.out = omega (arith, spreading.room n u c.loop-quarter-test.true, c.requires.2) in
    spreading.next c.loop-quarter.invariant c.loop-quarter-test.true (c.spread.auto.part ∙ length_mid _ _ _ left) c.spread.ensures

pub returns : goal.returns
returns c = spreading.finish (omega arith) c.loop-quarter.invariant
