-- `circle::gather` meets its contract: the rest of the first place's row, and the rows after it (`Gathering`).
-- Assumes nothing.
use mathlib.Core.Path.{◌≡◌, ◌∙◌, ap}
use mathlib.Core.List.{◌++◌}
use Prim.Native.Nat.{ℕ, ◌+◌, ◌-◌, ◌*◌, ◌≤◌}
use native.Mathlib.Omega.{arith}
use lib.ListN.{length, drop, length-drop}
use lib.Seq.{length-take-le}
use borrow.Rule.Slice.PartMut.{mid_of}
use Rattle.laws.specs.Lists.{tab_from}
use Rattle.laws.proofs.Parts.{rest_lent, rest_back}
use Rattle.kept_bits.specs.inner.Rows.{kept_below, kept_by}
use Rattle.kept_bits.proofs.Gathering.{front_kept, front_along, both_kept}
use Rattle.kept_bits.proofs.circle.gather.Goals.{After-gather_row-2}
use Rattle.kept_bits.proofs.circle.gather.Goals as goal

-- the rest of the row came back whole
row_back : (c : After-gather_row-2) → length c.gather_row-2.new.out ≡ 32 - c.args.from.column
row_back c = c.gather_row-2.auto.out ∙ length-take-le (32 - c.args.from.column) c.args.out.now (omega arith)

-- the rows after it are lent
rows_lent : (c : After-gather_row-2) → let e = c.args in
    let left = 32 - e.from.column in
    let lent = c.gather_row-2.new.out ++ drop left e.out.now in
    length (mid_of left (length lent - left) lent) ≡ length e.out.now - left
rows_lent c =
    let e = c.args in
    let back : length c.gather_row-2.new.out ≡ 32 - e.from.column = c.gather_row-2.auto.out ∙ length-take-le (32 - e.from.column) e.out.now (omega arith) in
    rest_lent c.gather_row-2.new.out (drop (32 - e.from.column) e.out.now) (32 - e.from.column) back ∙ length-drop (32 - e.from.column) e.out.now

pub gather_row-requires : goal.gather_row-requires
gather_row-requires c = front_along c.args.of.circle.now _ _ _ _ c.requires.0 _ (omega arith) (omega arith) c.requires.1

pub returns-then-out-left : goal.returns-then-out-left
returns-then-out-left c = c.gather_row.ensures ∙ front_kept _ _ _ _ _ c.requires.0 _ (omega arith)

pub gather_row-requires-2 : goal.gather_row-requires-2
gather_row-requires-2 c =
    let left : 32 - c.args.from.column ≤ length c.args.out.now = omega arith in
    rw (length-take-le (32 - c.args.from.column) c.args.out.now left) (front_along c.args.of.circle.now _ _ _ _ c.requires.0 _ (omega arith) left c.requires.1)

pub returns : goal.returns
returns c =
    let left = 32 - c.args.from.column in
    let few : left ≤ length c.args.out.now = omega arith in
    let rule = kept_below c.args.of.circle.now c.args.of.heads.now (c.args.of.step * c.args.from.row) in
    let rows = kept_by c.args.of.circle.now c.args.of.heads.now c.args.of.step in
    rest_back c.gather_row-2.new.out (drop left c.args.out.now) left (row_back (goal.at.returns c).After-gather_row-2) c.gather_rows.new.out
    ∙ both_kept _ _ _ _ _ c.requires.0 (length c.args.out.now) few
    (c.gather_row-2.ensures ∙ ap (λ (m : ℕ). tab_from c.args.from.column m rule) (length-take-le left c.args.out.now few))
    (c.gather_rows.ensures ∙ ap (λ (m : ℕ). tab_from (32 * (c.args.from.row + 1)) m rows) (rows_lent (goal.at.returns c).After-gather_row-2))
