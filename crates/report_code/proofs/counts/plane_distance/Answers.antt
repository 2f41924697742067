use mathlib.Core.Path.{◌≡◌, sym, ◌∙◌, ap}
use Prim.Native.Nat.{ℕ, ◌<◌}
use native.Mathlib.Omega.{arith}
use borrow.Author.Rules.{rules}
use Rattle.report_code.proofs.Planes.{above_small, heard_zeros_lem, heard_ones_lem, above_more, plane_step}
use Rattle.report_code.specs.inner.Counts.{plane_distance}
use Rattle.report_code.proofs.counts.plane_distance.Goals.{Start}
use Rattle.report_code.proofs.counts.plane_distance.Goals as goal

word_fits : (c : Start) → c.args.word < 4294967296
word_fits c = search rules

pub overflow_add-above-in-loop-p : goal.overflow_add-above-in-loop-p
overflow_add-above-in-loop-p c = omega (arith, above_small _ c.args.ones.now c.args.zeros.now _ _ _ (word_fits (goal.at.overflow_add-above-in-loop-p c).Start) c.requires (omega arith) c.loop-p.invariant.0 c.loop-p.invariant.2, heard_zeros_lem _ c.args.ones.now c.args.zeros.now _ _ _ (word_fits (goal.at.overflow_add-above-in-loop-p c).Start) c.requires (omega arith) c.loop-p.invariant.0 c.loop-p.invariant.2, heard_ones_lem _ c.args.ones.now c.args.zeros.now _ _ _ (word_fits (goal.at.overflow_add-above-in-loop-p c).Start) c.requires (omega arith) c.loop-p.invariant.0 c.loop-p.invariant.2)

pub loop-p-preserved : goal.loop-p-preserved
loop-p-preserved c = (
  omega arith,
  plane_step _ _ _ _ _ (omega arith) ∙ c.loop-p.invariant.1,
  above_more _ c.args.ones.now c.args.zeros.now _ _ _ (word_fits (goal.at.loop-p-preserved c).Start) c.requires (omega arith) c.loop-p.invariant.0 c.loop-p.invariant.2,
)

pub returns : goal.returns
unfolding plane_distance
returns c =
    let none : c.loop-p.p ≡ 0 = omega arith in
    sym (ap (λ (k : ℕ). plane_distance c.args.word c.args.ones.now c.args.zeros.now k c.loop-p.above) none)
    ∙ c.loop-p.invariant.1
