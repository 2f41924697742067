use mathlib.Core.Path.{◌≡◌, refl, ◌∙◌, ap}
use Prim.Native.Nat.{◌+◌, ◌≤◌, ◌<◌}
use native.Mathlib.Omega.{arith}
use lib.ListN.{length, get_or}
use Rattle.rate_matching.specs.declared.CirclePlace.{CirclePlace}
use Rattle.rate_matching.specs.declared.Unit.{Unit}
use Rattle.rate_matching.specs.Columns.{column}
use Rattle.rate_matching.specs.SubBlocks.{rows}
use Rattle.rate_matching.specs.Places.{circle_place}
use Rattle.rate_matching.specs.Matrix.{heads_of}
use Rattle.rate_matching.specs.Units.{column_unit, column_within}
use Rattle.rate_matching.proofs.Columns.{column_rule}
use Rattle.rate_matching.proofs.UnitPlaces.{column_there, unit_first}
use Rattle.std.specs.declared.option.Option.TheVariants.{Some}
use Rattle.kept_bits.specs.inner.Rows.{kept_below, missing_below}
use Rattle.kept_bits.proofs.Bytes.{missing_le}
use Rattle.kept_bits.proofs.Rows.{found_is}
use Rattle.kept_bits.proofs.Lacking.{in_row_start, in_row_few, in_row_next}
use Rattle.kept_bits.proofs.circle.count_row.Goals.{After-column_unit_at, After-unwrap, After-missing, In-loop-p}
use Rattle.kept_bits.proofs.circle.count_row.Goals as goal

-- the place lies on the circle
low : (c : In-loop-p) → c.loop-p.p < 32
low c = omega (arith, c.loop-p-test.true, c.requires.2.most)

-- the column is there
there : (c : After-column_unit_at) → c.column_unit_at.result ≡ Some (column_unit c.args.d 0 (column c.loop-p.p))
there c =
    let w = c.requires.0 in
    let below : c.loop-p.p < 32 = omega (arith, c.loop-p-test.true, c.requires.2.most) in
    c.column_unit_at.ensures
    ∙ ap (column_within c.args.d 0) c.column_at.ensures
    ∙ column_there w.most (omega (arith, w.least)) (column_rule c.loop-p.p below).0

-- its unit begins where its head is
head : (c : After-unwrap) → c.unwrap.result.begin ≡ get_or (heads_of (rows c.args.d) 0) c.loop-p.p (circle_place 0)
head c =
    let w = c.requires.0 in
    let below : c.loop-p.p < 32 = omega (arith, c.loop-p-test.true, c.requires.2.most) in
    let is = c.column_unit_at.ensures ∙ ap (column_within c.args.d 0) c.column_at.ensures ∙ column_there w.most (omega (arith, w.least)) (column_rule c.loop-p.p below).0 in
    ap (λ (u : Unit). u.begin) (found_is _ c.unwrap.ensures is) ∙ unit_first c.args.d c.loop-p.p below

found : (c : After-unwrap) → c.unwrap.result.begin.0 + c.args.row < length c.args.circle.now
found c =
    let w = c.loop-p.invariant.passed in
    omega (arith, ap (λ (x : CirclePlace). x.0) (head c), c.requires.2.places c.loop-p.p w.0 (omega (arith, w, c.loop-p-test.true)))

pub loop-p-init : goal.loop-p-init
loop-p-init c = in_row_start c.requires.1

pub unwrap-requires : goal.unwrap-requires
unwrap-requires c = rw (there (goal.at.unwrap-requires c).After-column_unit_at) refl

pub overflow_add-head : goal.overflow_add-head
overflow_add-head c = omega (arith, found (goal.at.overflow_add-head c).After-unwrap)

pub bounds-circle-head : goal.bounds-circle-head
bounds-circle-head c = found (goal.at.bounds-circle-head c).After-unwrap

pub overflow_add-n : goal.overflow_add-n
overflow_add-n c =
    let one : c.missing.result ≤ 1 = rw c.missing.ensures (missing_le _) in
    omega (arith, one, c.from-n.ensures, in_row_few c.loop-p.invariant, low (goal.at.overflow_add-n c).In-loop-p)

pub loop-p-preserved : goal.loop-p-preserved
unfolding missing_below kept_below
loop-p-preserved c = in_row_next c.loop-p-test.true (c.from-n.ensures ∙ rw (head (goal.at.loop-p-preserved c).After-unwrap) at c.missing.ensures) c.loop-p.invariant
