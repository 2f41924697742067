-- `mapping::pair_unit` meets its contract: the rows found are those of the definition (`UnitPlaces`).
-- Assumes nothing.
use mathlib.Core.Path.{refl}
use Prim.Native.Nat.{◌-◌, ◌*◌, ◌≤◌, ◌<◌}
use native.Mathlib.Nat.{mul-le-mul_right}
use native.Mathlib.Omega.{arith}
use Rattle.rate_matching.specs.SubBlocks.{rows, dummies}
use Rattle.rate_matching.specs.Shape.{second, last_place}
use Rattle.rate_matching.specs.Units.{pair_unit}
use Rattle.rate_matching.proofs.Columns.{column_rule}
use Rattle.rate_matching.proofs.Matrix.{pair_head}
use Rattle.rate_matching.proofs.UnitPlaces.{Rowed, rowed}
use Rattle.rate_matching.proofs.mapping.pair_unit.Goals.{After-rows_before-row}
use Rattle.rate_matching.proofs.mapping.pair_unit.Goals as goal

found : (c : After-rows_before-row) → let e = c.args in
    let R = c.rows_of-rows.result in
    Rowed e.d e.filler c.column_at-p.result R (32 * R - e.d) c.rows_before-lone.result c.rows_before-row.result
found c =
    let low : c.column_at-p.result < 32 = rw c.column_at-p.ensures (column_rule c.args.c c.requires.2).0 in
    rowed c.requires.0 c.requires.1 low c.rows_of-rows.ensures refl c.rows_before-lone.ensures c.rows_before-row.ensures

-- the column begins on the circle
begun : (c : After-rows_before-row) → c.args.c * (2 * c.rows_of-rows.result) ≤ 12352
begun c = let R = c.rows_of-rows.result in omega (arith, (found c).few, mul-le-mul_right (2 * R) c.requires.2)

-- how large the numbers are that are added
sizes : (c : After-rows_before-row) → let R = c.rows_of-rows.result in
    (R ≤ 193) × (c.rows_before-lone.result ≤ c.rows_before-row.result) × (c.rows_before-row.result ≤ R) × (c.column_at-p.result < 32) × (c.args.c * (2 * R) ≤ 12352)
sizes c = let r = found c in (r.few, r.alone, r.high, r.column, begun c)

pub overflow_mul-dummies : goal.overflow_mul-dummies
unfolding rows
overflow_mul-dummies c = omega arith

pub overflow_sub-dummies : goal.overflow_sub-dummies
unfolding rows
overflow_sub-dummies c = omega arith

pub overflow_add-p : goal.overflow_add-p
unfolding rows
overflow_add-p c = omega (arith, (column_rule c.args.c c.requires.2).0)

pub overflow_add-dummies : goal.overflow_add-dummies
unfolding rows
overflow_add-dummies c = omega arith

pub overflow_mul-begin : goal.overflow_mul-begin
overflow_mul-begin c = omega (arith, sizes (goal.at.overflow_mul-begin c).After-rows_before-row)

pub overflow_mul-begin-2 : goal.overflow_mul-begin-2
overflow_mul-begin-2 c = omega (arith, sizes (goal.at.overflow_mul-begin-2 c).After-rows_before-row)

pub overflow_mul-begin-3 : goal.overflow_mul-begin-3
overflow_mul-begin-3 c = omega (arith, sizes (goal.at.overflow_mul-begin-3 c).After-rows_before-row)

pub overflow_add-begin : goal.overflow_add-begin
overflow_add-begin c = omega (arith, sizes (goal.at.overflow_add-begin c).After-rows_before-row)

pub overflow_mul-result : goal.overflow_mul-result
overflow_mul-result c = omega (arith, sizes (goal.at.overflow_mul-result c).After-rows_before-row)

pub overflow_add-result : goal.overflow_add-result
overflow_add-result c = omega (arith, sizes (goal.at.overflow_add-result c).After-rows_before-row)

pub overflow_add-result-2 : goal.overflow_add-result-2
overflow_add-result-2 c = omega (arith, sizes (goal.at.overflow_add-result-2 c).After-rows_before-row)

pub overflow_mul-result-2 : goal.overflow_mul-result-2
overflow_mul-result-2 c = omega (arith, sizes (goal.at.overflow_mul-result-2 c).After-rows_before-row)

pub overflow_add-result-3 : goal.overflow_add-result-3
overflow_add-result-3 c = omega (arith, sizes (goal.at.overflow_add-result-3 c).After-rows_before-row)

pub overflow_sub-result : goal.overflow_sub-result
overflow_sub-result c = omega (arith, (found (goal.at.overflow_sub-result c).After-rows_before-row).last)

pub overflow_add-result-4 : goal.overflow_add-result-4
overflow_add-result-4 c = omega (arith, sizes (goal.at.overflow_add-result-4 c).After-rows_before-row)

pub overflow_add-result-5 : goal.overflow_add-result-5
overflow_add-result-5 c = omega (arith, sizes (goal.at.overflow_add-result-5 c).After-rows_before-row)

pub overflow_mul-result-4 : goal.overflow_mul-result-4
overflow_mul-result-4 c = omega (arith, sizes (goal.at.overflow_mul-result-4 c).After-rows_before-row)

pub overflow_add-result-6 : goal.overflow_add-result-6
overflow_add-result-6 c = omega (arith, sizes (goal.at.overflow_add-result-6 c).After-rows_before-row)

pub overflow_sub-result-2 : goal.overflow_sub-result-2
overflow_sub-result-2 c = (found (goal.at.overflow_sub-result-2 c).After-rows_before-row).early

pub overflow_mul-result-5 : goal.overflow_mul-result-5
overflow_mul-result-5 c = omega (arith, sizes (goal.at.overflow_mul-result-5 c).After-rows_before-row)

pub overflow_add-result-7 : goal.overflow_add-result-7
overflow_add-result-7 c = omega (arith, sizes (goal.at.overflow_add-result-7 c).After-rows_before-row)

pub overflow_sub-result-3 : goal.overflow_sub-result-3
overflow_sub-result-3 c = (found (goal.at.overflow_sub-result-3 c).After-rows_before-row).behind

pub returns : goal.returns
unfolding pair_unit dummies second last_place
returns c =
    simp (pair_head (rows c.args.d) c.args.c, c.rows_before-row.ensures, c.rows_before-lone.ensures, c.column_at-p.ensures, c.rows_of-rows.ensures)
