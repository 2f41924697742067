use mathlib.Core.Path.{◌≡◌, refl, ◌∙◌}
use Prim.Native.Nat.{◌+◌, ◌-◌, ◌≤◌, ◌<◌}
use native.Mathlib.Omega.{arith}
use lib.ListN.{length}
use Rattle.rate_matching.specs.SubBlocks.{rows}
use Rattle.rate_matching.specs.Units.{unit_at, unit_start}
use Rattle.rate_matching.proofs.UnitPlaces.{column_there, column_found}
use Rattle.bit_selection.proofs.UnitBits.{column_stream, unit_reads, unit_few}
use Rattle.bit_selection.proofs.Ring.{unit_long, column_unit_put, filling_room, filling_next, filling_all, filling_enough}
use Rattle.bit_selection.proofs.matcher.put_columns.Goals.{After-unwrap-unit, Else-most-end}
use Rattle.bit_selection.proofs.matcher.put_columns.Goals as goal

low : (c : Else-most-end) → c.loop-u.u < 32
low c = omega (arith, c.loop-u-test.true, c.requires.1)

-- there is room for the unit
room : (c : Else-most-end) → let R = rows (length c.args.of.d0.now) in
    c.loop-u.end + (unit_start R (c.loop-u.u + 1) - unit_start R c.loop-u.u) ≤ length c.loop-u.ring
room c = filling_room c.loop-u.invariant c.loop-u-test.true c.if-most-end.false c.requires.3

-- it is the column's
found : (c : After-unwrap-unit) → let of = c.args.of in c.unwrap-unit.result ≡ unit_at (length of.d0.now) of.filler c.loop-u.u
found c = column_found _ _ c.column_unit_at.ensures c.unwrap-unit.ensures (omega (arith, c.loop-u-test.true, c.requires.1))

pub returns-then-most-end : goal.returns-then-most-end
returns-then-most-end c = filling_enough c.loop-u.invariant _ c.if-most-end.true

pub unwrap-unit-requires : goal.unwrap-unit-requires
unwrap-unit-requires c =
    let f = c.args.of.fits in
    rw (c.column_unit_at.ensures ∙ column_there f.most f.filler (low (goal.at.unwrap-unit-requires c).Else-most-end)) refl

pub put_column-end-requires : goal.put_column-end-requires
put_column-end-requires c =
    let f = c.args.of.fits in
    let at = (goal.at.put_column-end-requires c).Else-most-end in
    let is = found (goal.at.put_column-end-requires c).After-unwrap-unit in
    let below : c.loop-u.u < 64 = omega (arith, low at) in
    (unit_reads _ f.most f.filler is below, column_stream _ f.most f.filler is (low at), omega (arith, unit_few _ f.most f.filler is below, room at))

pub loop-u-preserved : goal.loop-u-preserved
loop-u-preserved c =
    let f = c.args.of.fits in
    let at = (goal.at.loop-u-preserved c).Else-most-end in
    let is = found (goal.at.loop-u-preserved c).After-unwrap-unit in
    filling_next c.loop-u.invariant c.loop-u-test.true (unit_long _ _ _ _ f.most f.filler (omega (arith, low at))) (room at)
    c.put_column-end.auto.ring (column_unit_put _ _ _ _ _ _ is (column_stream _ f.most f.filler is (low at)) c.put_column-end.ensures)

pub returns : goal.returns
returns c = filling_all c.loop-u.invariant _ (omega arith)
