use mathlib.Core.Path.{◌≡◌, sym, ◌∙◌}
use Prim.Native.Nat.{◌+◌, ◌<◌}
use native.Mathlib.Omega.{arith}
use lib.ListN.{length}
use Rattle.rate_matching.specs.SubBlocks.{rows}
use Rattle.rate_matching.specs.Circle.{circle_length}
use Rattle.rate_matching.specs.Shape.{shape, bit_places}
use Rattle.rate_matching.specs.Units.{unit_at, unit_start}
use Rattle.rate_matching.proofs.Units.{starts_rise, unit_last}
use Rattle.rate_matching.proofs.UnitPlaces.{unit_high, unit_lies}
use Rattle.rate_matching.proofs.TurnLength.{before_end, bits_few, one_unit, stream_0}
use Rattle.rate_matching.proofs.shortened.bits_to.Goals.{After-bits_before-n, After-pair_unit-unit}
use Rattle.rate_matching.proofs.shortened.bits_to.Goals as goal

-- which unit it is
is : (c : After-pair_unit-unit) → let e = c.args in c.pair_unit-unit.result ≡ unit_at e.d e.filler c.loop-u.u
is c = c.pair_unit-unit.ensures ∙ sym (unit_high _ _ c.loop-u.invariant.0)

-- the count with its bits
next : (c : After-bits_before-n) → let e = c.args in
    c.loop-u.n + c.bits_before-n.result ≡ length (bit_places (shape e.d e.filler) 0 (unit_start (rows e.d) (c.loop-u.u + 1)))
next c =
    let ok = c.requires in
    let f = ok.0 in
    let below : c.loop-u.u < 64 = omega (arith, c.loop-u-test.true, ok.2) in
    let is = c.pair_unit-unit.ensures ∙ sym (unit_high _ _ c.loop-u.invariant.0) in
    let all = c.bits_before-n.ensures ∙ before_end (unit_lies _ f.most f.filler is below) in
    omega (arith, c.loop-u.invariant.2, all, one_unit f.most f.filler f.some c.loop-u.u is below)

pub loop-u-init : goal.loop-u-init
loop-u-init c = let f = c.requires.0 in (omega arith, c.requires.1, sym (stream_0 f.most f.filler f.some))

pub bits_before-n-requires : goal.bits_before-n-requires
bits_before-n-requires c = let f = c.requires.0 in unit_lies _ f.most f.filler (is (goal.at.bits_before-n-requires c).After-pair_unit-unit) (omega (arith, c.loop-u-test.true, c.requires.2))

pub overflow_add-n : goal.overflow_add-n
unfolding circle_length rows
overflow_add-n c =
    let f = c.requires.0 in
    let R = rows c.args.d in
    let u = c.loop-u.u in
    omega (arith, next (goal.at.overflow_add-n c).After-bits_before-n, bits_few f.most f.filler f.some (unit_start R (u + 1)), starts_rise R (u + 1) 64 (omega (arith, c.loop-u-test.true, c.requires.2)), unit_last R, f.most)

pub loop-u-preserved : goal.loop-u-preserved
loop-u-preserved c = (omega arith, omega arith, next (goal.at.loop-u-preserved c).After-bits_before-n)
