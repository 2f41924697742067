-- `shortened::turn_in` meets its contract: the numbers are the definition's, and where the circle is not cut they are known (`Turns`).
-- Assumes nothing.
use mathlib.Core.Path.{sym, ◌∙◌, ap}
use Prim.Native.Nat.{ℕ, ◌-◌, ◌*◌, ◌≤◌, ◌<◌}
use native.Mathlib.Omega.{arith}
use Rattle.rate_matching.specs.declared.Turn.{Turn}
use Rattle.rate_matching.specs.SubBlocks.{rows}
use Rattle.rate_matching.specs.Circle.{circle_length}
use Rattle.rate_matching.specs.Units.{whole_units}
use Rattle.rate_matching.specs.Turns.{units_of}
use Rattle.rate_matching.proofs.Cut.{whole_least, whole_left}
use Rattle.rate_matching.proofs.UnitPlaces.{unit_high, pair_lies}
use Rattle.rate_matching.proofs.MatchableBlocks.{Matchable, matchable_told, rows_few}
use Rattle.rate_matching.proofs.Turns.{units_uncut}
use Rattle.rate_matching.proofs.shortened.turn_in.Goals.{After-rows_of-rows, Else-ncb-rows, Start}
use Rattle.rate_matching.proofs.shortened.turn_in.Goals as goal

-- a turn round all 64 units
abbrev whole_from : ℕ → Turn
whole_from s = record { start = s; whole = 64; rest = 0 }

-- what the caller's test tells, of the rows too
told : (c : Start) → let e = c.args in Matchable e.d e.d e.d e.filler e.ncb e.version
told c = matchable_told c.requires

few : (c : After-rows_of-rows) → c.rows_of-rows.result ≤ 193
few c = rw c.rows_of-rows.ensures (rows_few ((matchable_told c.requires)))

least : (c : After-rows_of-rows) → (1 ≤ c.rows_of-rows.result) × (32 * c.rows_of-rows.result ≤ c.args.ncb)
least c = let m = (matchable_told c.requires) in (omega (arith, c.rows_of-rows.ensures, m.cut.some), omega (arith, c.rows_of-rows.ensures, m.cut.least))

pub overflow_mul-rows : goal.overflow_mul-rows
overflow_mul-rows c = omega (arith, few (goal.at.overflow_mul-rows c).After-rows_of-rows)

pub overflow_mul-version : goal.overflow_mul-version
overflow_mul-version c = omega (arith, (told (goal.at.overflow_mul-version c).Start).version)

pub unit_of-requires : goal.unit_of-requires
unit_of-requires c = omega (arith, (told (goal.at.unit_of-requires c).Start).version)

pub returns-then-ncb-rows : goal.returns-then-ncb-rows
unfolding circle_length
returns-then-ncb-rows c =
    let m = told (goal.at.returns-then-ncb-rows c).Start in
    ap whole_from c.unit_of.ensures
    ∙ sym (units_uncut _ _ c.args.version m.fits.some m.fits.filler m.fits.most m.cut (c.if-ncb-rows.true ∙ ap circle_length c.rows_of-rows.ensures))

pub start_unit-start-requires : goal.start_unit-start-requires
start_unit-start-requires c = let m = told (goal.at.start_unit-start-requires c).Start in rw c.rows_of-rows.ensures (m.cut, rows_few m, m.version)

pub overflow_mul-whole : goal.overflow_mul-whole
overflow_mul-whole c = omega (arith, few (goal.at.overflow_mul-whole c).After-rows_of-rows)

pub overflow_sub-whole : goal.overflow_sub-whole
overflow_sub-whole c = omega (arith, least (goal.at.overflow_sub-whole c).After-rows_of-rows)

pub overflow_mul-whole-2 : goal.overflow_mul-whole-2
overflow_mul-whole-2 c = omega (arith, few (goal.at.overflow_mul-whole-2 c).After-rows_of-rows)

pub nonzero_div-whole : goal.nonzero_div-whole
nonzero_div-whole c = omega (arith, least (goal.at.nonzero_div-whole c).After-rows_of-rows, few (goal.at.nonzero_div-whole c).After-rows_of-rows)

-- the unit that is cut is one of the last 32
cut_low : (c : Else-ncb-rows) → whole_units c.args.ncb (rows c.args.d) - 32 < 32
unfolding circle_length
cut_low c =
    let m = matchable_told c.requires in
    omega (arith, whole_left m.cut (λ e. c.if-ncb-rows.false (rw c.rows_of-rows.ensures e)), whole_least m.cut)

pub pair_unit-requires : goal.pair_unit-requires
unfolding whole_units
pair_unit-requires c =
    let m = told (goal.at.pair_unit-requires c).Start in
    (m.fits.most, m.fits.filler, rw c.rows_of-rows.ensures (cut_low (goal.at.pair_unit-requires c).Else-ncb-rows))

pub bits_before-rest-requires : goal.bits_before-rest-requires
unfolding whole_units
bits_before-rest-requires c =
    let m = told (goal.at.bits_before-rest-requires c).Start in
    rw (c.pair_unit.ensures, c.rows_of-rows.ensures) (pair_lies m.fits.most m.fits.filler (cut_low (goal.at.bits_before-rest-requires c).Else-ncb-rows))

pub returns : goal.returns
unfolding units_of whole_units
returns c =
    let m = told (goal.at.returns c).Start in
    simp (unit_high c.args.d c.args.filler (whole_least m.cut), c.bits_before-rest.ensures, c.pair_unit.ensures, c.start_unit-start.ensures, c.rows_of-rows.ensures)
