-- `parting::read_run` meets its contract: a refusal, a tie, or the nearest message.
-- Assumes nothing.
use mathlib.Core.Path.{refl, sym, ◌∙◌, ap}
use native.Mathlib.Omega.{arith}
use Rattle.std.proofs.lemmas.Result.{err_from_is_err_and}
use Rattle.laws.proofs.Parts.{front_count}
use Rattle.report_code.specs.declared.search.Found.{Found}
use Rattle.reports.specs.Calls.{control_part}
use Rattle.reports.proofs.Parted.{accepted, refused_run, found_is, tied_run, read_run_lem}
use Rattle.reports.proofs.parting.read_run.Goals as goal

pub returns-in_err-accept_run-clause-number : goal.returns-in_err-accept_run-clause-number
returns-in_err-accept_run-clause-number c =
    let p = err_from_is_err_and c.from_residual.result c.from_residual.ensures.1 in
    rw (p.1, p.2) (refused_run _ _ _ _ _ _ _ refl _ c.in_err-accept_run.ensures)

pub overflow_mul-ahead : goal.overflow_mul-ahead
overflow_mul-ahead c = omega (arith, (accepted _ _ _ _ _ _ _ c.in_ok-accept_run.ensures refl).shape.few)

pub slice_bounds-nearest-end : goal.slice_bounds-nearest-end
slice_bounds-nearest-end c = front_count _ _ (accepted _ _ _ _ _ _ _ c.in_ok-accept_run.ensures refl).ahead

pub returns-then-found-clause-number : goal.returns-then-found-clause-number
unfolding control_part
returns-then-found-clause-number c =
    tied_run _ _ _ _ _ _ _ c.in_ok-accept_run.ensures refl
    (sym (ap (λ (r : Found). r.tied) (c.nearest-found.ensures ∙ found_is _ _ _ _ _ _ _ c.in_ok-accept_run.ensures refl)) ∙ c.if-found.true)

pub returns-clause-number : goal.returns-clause-number
unfolding control_part
returns-clause-number c =
    read_run_lem _ _ _ _ _ _ _ c.in_ok-accept_run.ensures refl
    (sym (ap (λ (r : Found). r.tied) (c.nearest-found.ensures ∙ found_is _ _ _ _ _ _ _ c.in_ok-accept_run.ensures refl)) ∙ c.if-found.false)

pub returns-clause-message : goal.returns-clause-message
unfolding control_part
returns-clause-message c = ap (λ (r : Found). r.message) (c.nearest-found.ensures ∙ found_is _ _ _ _ _ _ _ c.in_ok-accept_run.ensures refl)
