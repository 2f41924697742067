-- `circle::readable` meets its contract: the tests are the definition's; stream 0 reaches over a third of the circle.
-- Assumes nothing.
use mathlib.Core.Path.{◌≡◌, sym, ◌∙◌}
use Prim.Native.Nat.{ℕ, ◌*◌, ◌/◌}
use native.Mathlib.Omega.{arith}
use borrow.Author.Tests.{le-leb, eq-eqb, ne_eqb}
use Rattle.rate_matching.specs.Circle.{circle_length}
use Rattle.kept_bits.specs.Circle.{reach_of, readable}
use Rattle.kept_bits.proofs.Rows.{circle_none, circle_some}
use Rattle.kept_bits.proofs.circle.readable.Goals.{Joined-from-eq0, then-from-eq0, else-from-eq0}
use Rattle.kept_bits.proofs.circle.readable.Goals as goal

third : (R : ℕ) {n : ℕ} → n ≡ circle_length R → n / 3 ≡ 32 * R
unfolding circle_length
third R e = omega arith

reach_is : (c : Joined-from-eq0) → c.if-from-eq0.reach ≡ reach_of c.args.d c.args.from.0
unfolding reach_of
reach_is c =
    let whole = (circle_some _ (sym c.in-Some.ensures)).1 in
    elim c.if-from-eq0.branch [
      | then-from-eq0 w ↦ rw (eq-eqb _ 0 w.if-from-eq0.true) (w.reach-is ∙ third _ whole)
      | else-from-eq0 w ↦ rw (ne_eqb _ 0 w.if-from-eq0.false) (w.reach-is ∙ whole)
    ]

pub returns-in_default : goal.returns-in_default
unfolding readable
returns-in_default c = rw (circle_none c.args.d (sym c.in_default.ensures))

pub returns : goal.returns
unfolding readable
returns c = rw (le-leb _ _ (circle_some _ (sym c.in-Some.ensures)).0, reach_is (goal.at.returns c).Joined-from-eq0, c.saturating_sub-left.ensures)
