use mathlib.Core.Path.{◌≡◌, refl, ◌∙◌, ap, ap₂}
use Prim.Native.Nat.{ℕ, ◌+◌, ◌-◌, ◌*◌, ◌≤◌, ◌<◌}
use native.Mathlib.Nat.{mul-le-mul_right}
use native.Mathlib.Omega.{arith}
use Rattle.rate_matching.specs.declared.CirclePlace.{CirclePlace}
use Rattle.rate_matching.specs.SubBlocks.{rows}
use Rattle.rate_matching.specs.Places.{circle_place}
use Rattle.rate_matching.specs.Columns.{column}
use Rattle.rate_matching.specs.Matrix.{column_head, head_width, head_by}
use Rattle.rate_matching.proofs.Columns.{column_rule}
use Rattle.rate_matching.proofs.Matrix.{heads_rise, first_wide, side_by_side, first_few, finding_start, finding_next, finding_finish}
use Rattle.rate_matching.proofs.mapping.heads_of.Goals.{After-column_at, After-head_in}
use Rattle.rate_matching.proofs.mapping.heads_of.Goals as goal

-- where the first two units begin
begins : (c : After-head_in) → let e = c.args in
    (c.head_in-first.result.0 ≡ column_head (rows e.d) e.stream 0) × (c.head_in.result.0 ≡ column_head (rows e.d) e.stream 1)
begins c = (ap (λ (x : CirclePlace). x.0) c.head_in-first.ensures, ap (λ (x : CirclePlace). x.0) c.head_in.ensures)

few_by : (d s : ℕ) → d ≤ 6148 → s ≤ 2 → (column_head (rows d) s 0 ≤ 6177) × (head_width (rows d) s ≤ 386)
unfolding rows
few_by d s h k = first_few (rows d) s (omega (arith, h)) k

few : (c : After-head_in) → let e = c.args in (column_head (rows e.d) e.stream 0 ≤ 6177) × (head_width (rows e.d) e.stream ≤ 386)
few c = few_by c.args.d c.args.stream c.requires.1 c.requires.2

-- and the unit of the column
far : (c : After-column_at) → c.column_at.result * (c.head_in.result.0 - c.head_in-first.result.0) ≤ 12352
far c =
    let e = c.args in
    let low : c.column_at.result < 32 = rw c.column_at.ensures (column_rule c.loop-p.p c.loop-p-test.true).0 in
    omega (arith, ap (λ (n : ℕ). c.column_at.result * n) ((let e = c.args in ap₂ (λ (a b : ℕ). b - a) (ap (λ (x : CirclePlace). x.0) c.head_in-first.ensures) (ap (λ (x : CirclePlace). x.0) c.head_in.ensures) ∙ first_wide (rows e.d) e.stream)), mul-le-mul_right (head_width (rows e.d) e.stream) low, (few_by c.args.d c.args.stream c.requires.1 c.requires.2).1)

unit : (c : After-column_at) → let e = c.args in
    c.head_in-first.result.0 + c.column_at.result * (c.head_in.result.0 - c.head_in-first.result.0) ≡ column_head (rows e.d) e.stream (column c.loop-p.p)
unit c =
    let e = c.args in
    ap₂ (λ (a b : ℕ). a + c.column_at.result * (b - a)) (ap (λ (x : CirclePlace). x.0) c.head_in-first.ensures) (ap (λ (x : CirclePlace). x.0) c.head_in.ensures)
    ∙ side_by_side (rows e.d) e.stream c.column_at.result
    ∙ ap (column_head (rows e.d) e.stream) c.column_at.ensures

pub overflow_sub-width : goal.overflow_sub-width
overflow_sub-width c = let e = c.args in omega (arith, begins (goal.at.overflow_sub-width c).After-head_in, heads_rise (rows e.d) e.stream)

pub loop-p-init : goal.loop-p-init
loop-p-init c = finding_start refl

pub overflow_mul-heads : goal.overflow_mul-heads
overflow_mul-heads c = omega (arith, far (goal.at.overflow_mul-heads c).After-column_at)

pub overflow_add-heads : goal.overflow_add-heads
overflow_add-heads c = omega (arith, far (goal.at.overflow_add-heads c).After-column_at, (begins (goal.at.overflow_add-heads c).After-head_in).0, (few (goal.at.overflow_add-heads c).After-head_in).0)

pub loop-p-preserved : goal.loop-p-preserved
unfolding head_by
loop-p-preserved c = finding_next (omega arith) (ap circle_place (unit (goal.at.loop-p-preserved c).After-column_at)) c.loop-p.invariant

pub returns : goal.returns
returns c = finding_finish (omega arith) c.loop-p.invariant
