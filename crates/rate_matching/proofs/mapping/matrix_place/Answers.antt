-- `mapping::matrix_place` meets its contract: the test is that of the definition, and a place that passes it has a dummy before it.
-- Assumes nothing.
use mathlib.Core.Path.{◌≡◌}
use mathlib.Core.Bool.{not, ◌&&◌, and-eq-true_iff}
use Prim.Native.Nat.{◌%◌, ◌≤◌, ◌<◌}
use native.Mathlib.Omega.{arith}
use lib.Dec.{leb, ltb, eqb}
use borrow.Author.Tests.{leb-true, ltb-true, eqb-false, not-true}
use Rattle.rate_matching.specs.SubBlocks.{rows, dummies}
use Rattle.rate_matching.specs.Matrix.{written_at, matrix_within}
use Rattle.rate_matching.proofs.mapping.matrix_place.Goals.{Else-not-there}
use Rattle.rate_matching.proofs.mapping.matrix_place.Goals as goal

-- past the test: the place is there
told : (c : Else-not-there) → let e = c.args in (e.d ≤ 6148) × (e.d % 32 ≡ 0 → ⊥) × (e.place.0 ≤ 2) × (e.place.1 < e.d)
told c =
    let e = c.args in
    let all = (and-eq-true_iff (leb e.d 6148 && not (eqb (e.d % 32) 0) && leb e.place.0 2) (ltb e.place.1 e.d)).0 (c.if-not-there.false) in
    let three = (and-eq-true_iff (leb e.d 6148 && not (eqb (e.d % 32) 0)) (leb e.place.0 2)).0 all.0 in
    let two = (and-eq-true_iff (leb e.d 6148) (not (eqb (e.d % 32) 0))).0 three.0 in
    (leb-true e.d 6148 two.0, eqb-false (e.d % 32) 0 (not-true _ two.1), leb-true e.place.0 2 three.1, ltb-true e.place.1 e.d all.1)

pub returns-then-not-there : goal.returns-then-not-there
unfolding matrix_within
returns-then-not-there c =
    let e = c.args in
    rw (c.if-not-there.true)

pub overflow_mul-y : goal.overflow_mul-y
unfolding rows
overflow_mul-y c = omega (arith, (told (goal.at.overflow_mul-y c).Else-not-there).0, c.rows_of.ensures)

pub overflow_sub-y : goal.overflow_sub-y
unfolding rows
overflow_sub-y c = omega (arith, c.rows_of.ensures)

pub overflow_add-y : goal.overflow_add-y
unfolding rows
overflow_add-y c = let t = told (goal.at.overflow_add-y c).Else-not-there in omega (arith, t.0, t.3, c.rows_of.ensures)

pub overflow_sub-y-2 : goal.overflow_sub-y-2
unfolding rows
overflow_sub-y-2 c = let t = told (goal.at.overflow_sub-y-2 c).Else-not-there in omega (arith, t.0, t.1, t.2, c.rows_of.ensures)

pub returns : goal.returns
unfolding matrix_within written_at dummies
returns c =
    let a = c.args in
    rw (c.if-not-there.false, ← c.rows_of.ensures)
