use mathlib.Core.Path.{◌≡◌, refl, sym, ◌∙◌}
use Prim.Native.Nat.{◌+◌, ◌-◌, ◌≤◌, ◌<◌}
use native.Mathlib.Omega.{arith}
use lib.ListN.{length}
use Rattle.rate_matching.specs.SubBlocks.{rows}
use Rattle.rate_matching.specs.Units.{unit_at, unit_start}
use Rattle.rate_matching.proofs.UnitPlaces.{pair_there, pair_found}
use Rattle.bit_selection.proofs.UnitBits.{pair_stream, unit_reads, unit_few}
use Rattle.bit_selection.proofs.Ring.{unit_long, pair_unit_put, filling_room, filling_next, filling_all, filling_enough}
use Rattle.bit_selection.proofs.matcher.put_pairs.Goals.{After-unwrap-unit, Else-most-end}
use Rattle.bit_selection.proofs.matcher.put_pairs.Goals as goal

high : (c : Else-most-end) → (32 ≤ c.loop-u.u) × (c.loop-u.u < 64)
high c = (omega (arith, c.requires.0, c.loop-u.invariant.passed.0), omega (arith, c.loop-u-test.true, c.requires.2))

-- there is room for the unit
room : (c : Else-most-end) → let R = rows (length c.args.of.d0.now) in
    c.loop-u.end + (unit_start R (c.loop-u.u + 1) - unit_start R c.loop-u.u) ≤ length c.loop-u.ring
room c = filling_room c.loop-u.invariant c.loop-u-test.true c.if-most-end.false c.requires.4

-- it is the pair's
found : (c : After-unwrap-unit) → let of = c.args.of in c.unwrap-unit.result ≡ unit_at (length of.d0.now) of.filler c.loop-u.u
found c = pair_found _ _ c.pair_unit_at.ensures c.unwrap-unit.ensures (omega (arith, c.requires.0, c.loop-u.invariant.passed.0))

pub returns-then-most-end : goal.returns-then-most-end
returns-then-most-end c = filling_enough c.loop-u.invariant _ c.if-most-end.true

pub unwrap-unit-requires : goal.unwrap-unit-requires
unwrap-unit-requires c =
    let f = c.args.of.fits in
    rw (c.pair_unit_at.ensures ∙ pair_there f.most f.filler (omega (arith, high (goal.at.unwrap-unit-requires c).Else-most-end))) refl

pub put_pair-end-requires : goal.put_pair-end-requires
put_pair-end-requires c =
    let f = c.args.of.fits in
    let at = (goal.at.put_pair-end-requires c).Else-most-end in
    let is = found (goal.at.put_pair-end-requires c).After-unwrap-unit in (
      f.second ∙ sym f.first,
      rw f.first (unit_reads _ f.most f.filler is (high at).1),
      pair_stream _ f.most f.filler is (high at).0,
      omega (arith, unit_few _ f.most f.filler is (high at).1, room at),
    )

pub loop-u-preserved : goal.loop-u-preserved
loop-u-preserved c =
    let f = c.args.of.fits in
    let at = (goal.at.loop-u-preserved c).Else-most-end in
    let is = found (goal.at.loop-u-preserved c).After-unwrap-unit in
    filling_next c.loop-u.invariant c.loop-u-test.true (unit_long _ _ _ _ f.most f.filler (high at).1) (room at)
    c.put_pair-end.auto.ring (pair_unit_put _ _ _ _ _ _ is (pair_stream _ f.most f.filler is (high at).0) c.put_pair-end.ensures)

pub returns : goal.returns
returns c = filling_all c.loop-u.invariant _ (omega arith)
