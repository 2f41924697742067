use mathlib.Core.Path.{sym, ◌∙◌}
use Rattle.report_code.specs.Nearest.{nearest_of}
use Rattle.report_code.proofs.Answered.{Fit, fit, answered, nearest_fit}
use Rattle.report_code.proofs.search.nearest.Goals.{Else-is_unfit}
use Rattle.report_code.proofs.search.nearest.Goals as goal

-- src/search.rt:25:8
fits : (c : Else-is_unfit) → Fit c.args.o c.args.control.now
fits c = fit _ _ (sym c.is_unfit.ensures ∙ c.if-is_unfit.false)

-- src/search.rt:26:9
pub returns-then-is_unfit : goal.returns-then-is_unfit
unfolding nearest_of
returns-then-is_unfit c = simp (sym c.is_unfit.ensures ∙ c.if-is_unfit.true)

-- src/search.rt:32:9
pub counted-counts-requires : goal.counted-counts-requires
counted-counts-requires c = ((fits (goal.at.counted-counts-requires c).Else-is_unfit).few, (fits (goal.at.counted-counts-requires c).Else-is_unfit).bits)

-- src/search.rt:33:9
pub planes_for-count-requires : goal.planes_for-count-requires
planes_for-count-requires c = (fits (goal.at.planes_for-count-requires c).Else-is_unfit).few

-- src/search.rt:38:5
pub search-requires : goal.search-requires
search-requires c = ((fits (goal.at.search-requires c).Else-is_unfit).short, c.planes_for-count.ensures.0)

-- src/search.rt:22:1
pub returns : goal.returns
returns c =
    c.search.ensures
    ∙ answered _ (fits (goal.at.returns c).Else-is_unfit).short c.counted-counts.ensures c.planes_for-count.ensures.1 c.planes_of-ones.ensures c.planes_of-zeros.ensures
    ∙ sym (nearest_fit _ _ (sym c.is_unfit.ensures ∙ c.if-is_unfit.false))
