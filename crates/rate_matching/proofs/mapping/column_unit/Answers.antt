-- `mapping::column_unit` meets its contract: the rows found are those of the definition (`UnitPlaces`).
-- Assumes nothing.
use mathlib.Core.Path.{refl}
use Prim.Native.Nat.{◌+◌, ◌-◌, ◌*◌, ◌≤◌, ◌<◌}
use native.Mathlib.Nat.{mul-le-mul_right}
use native.Mathlib.Omega.{arith}
use Rattle.rate_matching.specs.SubBlocks.{rows, dummies, rows_before}
use Rattle.rate_matching.specs.Units.{column_unit}
use Rattle.rate_matching.proofs.Columns.{column_rule}
use Rattle.rate_matching.proofs.Matrix.{first_head}
use Rattle.rate_matching.proofs.UnitPlaces.{Rowed, rowed}
use Rattle.rate_matching.proofs.mapping.column_unit.Goals.{After-rows_before-row}
use Rattle.rate_matching.proofs.mapping.column_unit.Goals as goal

found : (c : After-rows_before-row) → let e = c.args in
    let R = c.rows_of-rows.result in
    let p = c.column_at-p.result in
    Rowed e.d e.filler p R (32 * R - e.d) (rows_before (32 * R - e.d) (p + 1)) c.rows_before-row.result
found c =
    let low : c.column_at-p.result < 32 = rw c.column_at-p.ensures (column_rule c.args.c c.requires.2).0 in
    rowed c.requires.0 c.requires.1 low c.rows_of-rows.ensures refl refl c.rows_before-row.ensures

-- the column begins on the circle
begun : (c : After-rows_before-row) → c.args.c * c.rows_of-rows.result ≤ 6176
begun c = let R = c.rows_of-rows.result in omega (arith, (found c).few, mul-le-mul_right R c.requires.2)

pub overflow_mul-dummies : goal.overflow_mul-dummies
unfolding rows
overflow_mul-dummies c = omega arith

pub overflow_sub-dummies : goal.overflow_sub-dummies
unfolding rows
overflow_sub-dummies c = omega arith

pub overflow_add-dummies : goal.overflow_add-dummies
unfolding rows
overflow_add-dummies c = omega arith

pub overflow_mul-begin : goal.overflow_mul-begin
overflow_mul-begin c = omega (arith, begun (goal.at.overflow_mul-begin c).After-rows_before-row)

pub overflow_add-both : goal.overflow_add-both
overflow_add-both c = omega (arith, (found (goal.at.overflow_add-both c).After-rows_before-row).few, (found (goal.at.overflow_add-both c).After-rows_before-row).high, begun (goal.at.overflow_add-both c).After-rows_before-row)

pub overflow_mul-first : goal.overflow_mul-first
overflow_mul-first c = omega (arith, (found (goal.at.overflow_mul-first c).After-rows_before-row).few, (found (goal.at.overflow_mul-first c).After-rows_before-row).high)

pub overflow_add-first : goal.overflow_add-first
overflow_add-first c = omega (arith, (found (goal.at.overflow_add-first c).After-rows_before-row).few, (found (goal.at.overflow_add-first c).After-rows_before-row).high, (found (goal.at.overflow_add-first c).After-rows_before-row).column)

pub overflow_sub-first : goal.overflow_sub-first
overflow_sub-first c = (found (goal.at.overflow_sub-first c).After-rows_before-row).behind

pub overflow_add-result : goal.overflow_add-result
overflow_add-result c = omega (arith, (found (goal.at.overflow_add-result c).After-rows_before-row).few, begun (goal.at.overflow_add-result c).After-rows_before-row)

pub returns : goal.returns
unfolding column_unit dummies
returns c =
    simp (first_head (rows c.args.d) c.args.c, c.rows_before-row.ensures, c.column_at-p.ensures, c.rows_of-rows.ensures)
