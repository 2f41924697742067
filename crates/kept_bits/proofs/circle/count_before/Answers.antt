use mathlib.Core.Path.{◌≡◌}
use Prim.Native.Nat.{ℕ, ◌+◌, ◌*◌, ◌≤◌}
use native.Mathlib.Nat.{sub-zero}
use native.Mathlib.Omega.{arith}
use lib.ListN.{length}
use Rattle.rate_matching.specs.SubBlocks.{rows}
use Rattle.rate_matching.specs.Matrix.{heads_of}
use Rattle.slots.specs.Circle.{sum_from}
use Rattle.kept_bits.specs.inner.Rows.{missing_by, AlongRow}
use Rattle.kept_bits.proofs.Gathering.{row_along}
use Rattle.kept_bits.proofs.Lacking.{before_start, before_part, before_next}
use Rattle.kept_bits.proofs.circle.count_before.Goals.{After-count_row, Start}
use Rattle.kept_bits.proofs.circle.count_before.Goals as goal

-- so many columns of a row that is not behind the last lie on the circle
row_needs : (c : Start) (row n : ℕ) → 32 * row + n ≤ 32 * c.args.place.row + c.args.place.column → n ≤ 32
    → AlongRow (length c.args.circle.now) (heads_of (rows c.args.d) 0) row 0 n
row_needs c row n h few = rw one (row_along (heads_of (rows c.args.d) 0) 1 row 0 n (omega arith) (omega arith) (omega arith) c.requires.2)
  where
    one : row ≡ 1 * row
    one = omega arith

-- the loop has passed every row before the last
rest : (c : After-count_row) → let e = c.args in
    (c.loop-above.n + c.count_row.result ≡ sum_from (missing_by e.circle.now (heads_of (rows e.d) 0)) 0 (32 * e.place.row + e.place.column)) × (c.count_row.result ≤ e.place.column)
rest c =
    let all : c.loop-above.above ≡ c.args.place.row = omega arith in
    before_part (rw all at c.loop-above.invariant) c.args.place.column (omega (arith, c.requires.1)) (rw (sub-zero c.args.place.column) at c.count_row.ensures)

pub loop-above-init : goal.loop-above-init
loop-above-init c = before_start

pub count_row-n-requires : goal.count_row-n-requires
count_row-n-requires c = (c.requires.0, omega arith, row_needs (goal.at.count_row-n-requires c).Start c.loop-above.above 32 (omega arith) (omega arith))

pub overflow_add-n : goal.overflow_add-n
overflow_add-n c =
    let w = c.loop-above.invariant in omega (arith, w.few, (before_part w 32 (omega arith) c.count_row-n.ensures).1, c.requires.2.most, c.loop-above-test.true)

pub loop-above-preserved : goal.loop-above-preserved
loop-above-preserved c = before_next c.loop-above.invariant c.count_row-n.ensures

pub count_row-requires : goal.count_row-requires
count_row-requires c = (c.requires.0, omega arith, rw (sub-zero c.args.place.column) (row_needs (goal.at.count_row-requires c).Start c.args.place.row c.args.place.column (omega arith) (omega (arith, c.requires.1))))

pub overflow_add-result : goal.overflow_add-result
overflow_add-result c = omega (arith, c.loop-above.invariant.few, (rest (goal.at.overflow_add-result c).After-count_row).1, c.requires.2.most, c.loop-above.auto.above-end)

pub returns : goal.returns
returns c = (rest (goal.at.returns c).After-count_row).0
