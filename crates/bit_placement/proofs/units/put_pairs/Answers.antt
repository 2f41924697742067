use mathlib.Core.Path.{◌≡◌, refl, ◌∙◌}
use Prim.Native.Nat.{◌≤◌, ◌<◌}
use native.Mathlib.Omega.{arith}
use Rattle.rate_matching.specs.Units.{unit_at}
use Rattle.rate_matching.proofs.UnitPlaces.{pair_there, pair_found}
use Rattle.bit_placement.proofs.Along.{put_long}
use Rattle.bit_placement.proofs.Walking.{walked_still, walked_of, units_start, unit_within_lem, units_next}
use Rattle.bit_placement.proofs.units.put_pairs.Goals.{After-unwrap-unit, In-loop-u}
use Rattle.bit_placement.proofs.units.put_pairs.Goals as goal

high : (c : In-loop-u) → (32 ≤ c.loop-u.u) × (c.loop-u.u < 64)
high c = (omega (arith, c.requires.1, c.loop-u.invariant.passed.0), omega (arith, c.loop-u-test.true, c.requires.3))

found : (c : After-unwrap-unit) → c.unwrap-unit.result ≡ unit_at c.args.of.d c.args.of.filler c.loop-u.u
found c = pair_found _ _ c.pair_unit_at.ensures c.unwrap-unit.ensures (omega (arith, c.requires.1, c.loop-u.invariant.passed.0))

pub loop-u-init : goal.loop-u-init
loop-u-init c = units_start (walked_of c.args.of.sized c.requires.0) c.requires.2 c.requires.3

pub unwrap-unit-requires : goal.unwrap-unit-requires
unwrap-unit-requires c =
    let w = c.args.of.sized in
    rw (c.pair_unit_at.ensures ∙ pair_there w.most w.filler (omega (arith, high (goal.at.unwrap-unit-requires c).In-loop-u))) refl

pub put_unit-n-requires : goal.put_unit-n-requires
put_unit-n-requires c =
    let at = goal.at.put_unit-n-requires c in
    let w = walked_still (walked_of c.args.of.sized c.requires.0) (put_long c.loop-u.invariant.put) in
    unit_within_lem w _ (high at.In-loop-u).1 (found at.After-unwrap-unit)

pub loop-u-preserved : goal.loop-u-preserved
loop-u-preserved c =
    let at = goal.at.loop-u-preserved c in
    units_next (walked_of c.args.of.sized c.requires.0) c.requires.2 c.requires.3 c.loop-u-test.true c.loop-u.invariant (found at.After-unwrap-unit) c.put_unit-n.ensures
