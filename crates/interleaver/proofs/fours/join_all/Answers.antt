use mathlib.Core.Path.{◌≡◌, ◌∙◌}
use Prim.Native.Nat.{◌+◌, ◌*◌, ◌/◌, ◌≤◌}
use native.Mathlib.Omega.{arith}
use lib.ListN.{length}
use Rattle.laws.proofs.Parts.{length_mid}
use Rattle.interleaver.proofs.Joining as joining
use Rattle.interleaver.proofs.fours.join_all.Goals as goal

pub loop-quarter-init : goal.loop-quarter-init
loop-quarter-init c = joining.start c.requires

pub loop-quarter-preserved : goal.loop-quarter-preserved
loop-quarter-preserved c =
    let q = length c.args.c.now / 4 in
    let u = c.loop-quarter.quarter in
    let turn = joining.in_turn c.requires u c.loop-quarter-test.true in
    let left : u * q + q ≤ length c.loop-quarter.out = omega (arith, c.loop-quarter.invariant.here turn, c.requires.room) in
    let count = length_mid (u * q) (u * q + q) c.loop-quarter.out left in
    let on : u * q + q ≡ (u + 1) * q = omega arith in
    joining.moved c.requires on (joining.next c.requires c.loop-quarter.invariant turn count (c.join.auto.part ∙ count) c.join.ensures)

pub returns : goal.returns
returns c =
    let q = length c.args.c.now / 4 in
    let all : c.loop-quarter.quarter ≡ 4 = omega arith in
    let ends : length c.args.c.now ≤ c.loop-quarter.quarter * q = rw all (omega (arith, c.requires.eights)) in
    joining.finish c.requires ends c.loop-quarter.invariant
