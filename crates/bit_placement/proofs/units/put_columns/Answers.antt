use mathlib.Core.Path.{◌≡◌, refl, ◌∙◌}
use Prim.Native.Nat.{◌<◌}
use native.Mathlib.Omega.{arith}
use Rattle.rate_matching.specs.Units.{unit_at}
use Rattle.rate_matching.proofs.UnitPlaces.{column_there, column_found}
use Rattle.bit_placement.proofs.Along.{put_long}
use Rattle.bit_placement.proofs.Walking.{walked_still, walked_of, units_start, unit_within_lem, units_next, column_put}
use Rattle.bit_placement.proofs.units.put_columns.Goals.{After-unwrap-unit, In-loop-u}
use Rattle.bit_placement.proofs.units.put_columns.Goals as goal

low : (c : In-loop-u) → c.loop-u.u < 32
low c = omega (arith, c.loop-u-test.true, c.requires.2)

found : (c : After-unwrap-unit) → c.unwrap-unit.result ≡ unit_at c.args.of.d c.args.of.filler c.loop-u.u
found c = column_found _ _ c.column_unit_at.ensures c.unwrap-unit.ensures (omega (arith, c.loop-u-test.true, c.requires.2))

pub loop-u-init : goal.loop-u-init
loop-u-init c = units_start (walked_of c.args.of.sized c.requires.0) c.requires.1 (omega (arith, c.requires.2))

pub unwrap-unit-requires : goal.unwrap-unit-requires
unwrap-unit-requires c =
    let w = c.args.of.sized in
    rw (c.column_unit_at.ensures ∙ column_there w.most w.filler (low (goal.at.unwrap-unit-requires c).In-loop-u)) refl

pub put_places-n-requires : goal.put_places-n-requires
put_places-n-requires c =
    let at = goal.at.put_places-n-requires c in
    let w = walked_still (walked_of c.args.of.sized c.requires.0) (put_long c.loop-u.invariant.put) in
    let u = unit_within_lem w _ (omega (arith, low at.In-loop-u)) (found at.After-unwrap-unit) in
    (u.0.both, u.1)

pub loop-u-preserved : goal.loop-u-preserved
loop-u-preserved c =
    let at = goal.at.loop-u-preserved c in
    let is = found at.After-unwrap-unit in
    units_next (walked_of c.args.of.sized c.requires.0) c.requires.1 (omega (arith, c.requires.2)) c.loop-u-test.true c.loop-u.invariant is
    (column_put _ _ _ (low at.In-loop-u) is c.put_places-n.ensures)
