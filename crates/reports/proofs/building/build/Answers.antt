-- `building::build` meets its contract: a refusal leaves the output as it was, else its front is lent for the control bits and the rest for the data.
-- Assumes nothing.
use mathlib.Core.Path.{sym, ◌∙◌}
use native.Mathlib.Omega.{arith}
use lib.ListN.{length}
use Rattle.laws.proofs.Parts.{front_count}
use Rattle.reports.proofs.Built.{Accepted, accepted, refused_output, data_start, data_accepted, built_output}
use Rattle.reports.proofs.building.build.Goals.{In_ok-accept_build}
use Rattle.reports.proofs.building.build.Goals as goal

-- past the `?` none of the rules applies
told : (c : In_ok-accept_build) → let a = c.args in Accepted a.report.now a.control a.block.now a.grant (length a.out.now)
told c = accepted _ _ _ _ _ (sym c.in_ok-accept_build.ensures)

pub returns-in_err-accept_build-clause-output : goal.returns-in_err-accept_build-clause-output
returns-in_err-accept_build-clause-output c = refused_output _ _ _ _ _ _ c.in_err-accept_build.ensures

pub overflow_mul-ahead : goal.overflow_mul-ahead
overflow_mul-ahead c = omega (arith, (told (goal.at.overflow_mul-ahead c).In_ok-accept_build).shape.few)

pub number_of-requires : goal.number_of-requires
number_of-requires c = let t = told (goal.at.number_of-requires c).In_ok-accept_build in (t.report_bits, t.shape.short)

pub slice_bounds-control_bits-end : goal.slice_bounds-control_bits-end
slice_bounds-control_bits-end c = omega (arith, (told (goal.at.slice_bounds-control_bits-end c).In_ok-accept_build).enough)

pub slice_bounds-control_bits-end-2 : goal.slice_bounds-control_bits-end-2
slice_bounds-control_bits-end-2 c = front_count _ _ (omega (arith, (told (goal.at.slice_bounds-control_bits-end-2 c).In_ok-accept_build).enough))

pub slice_bounds-build-count : goal.slice_bounds-build-count
slice_bounds-build-count c = data_start _ _ _ _ _ (sym c.in_ok-accept_build.ensures) c.number_of.ensures c.control_bits.ensures

pub slice_bounds-build-start : goal.slice_bounds-build-start
slice_bounds-build-start c = data_start _ _ _ _ _ (sym c.in_ok-accept_build.ensures) c.number_of.ensures c.control_bits.ensures

pub returns-clause-number : goal.returns-clause-number
returns-clause-number c =
    c.build.ensures.number ∙ data_accepted _ _ _ _ _ (sym c.in_ok-accept_build.ensures) c.number_of.ensures c.control_bits.ensures ∙ c.in_ok-accept_build.ensures

pub returns-clause-output : goal.returns-clause-output
returns-clause-output c = built_output _ _ _ _ _ (sym c.in_ok-accept_build.ensures) c.number_of.ensures c.control_bits.ensures c.build.ensures.output
