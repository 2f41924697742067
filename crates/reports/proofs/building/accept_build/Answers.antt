-- `building::accept_build` meets its contract: the check finds the order of the rules; the output's length fits, as both parts are short.
-- Assumes nothing.
use mathlib.Core.Path.{refl, sym, ◌∙◌}
use native.Mathlib.Omega.{arith}
use Rattle.codeword.proofs.Accepted.{allocated, allocation_of}
use Rattle.reports.proofs.Shape.{shaped}
use Rattle.reports.proofs.building.accept_build.Goals as goal

pub overflow_add-grant : goal.overflow_add-grant
overflow_add-grant c =
    let first = shaped _ _ _ _ _ c.in_ok-accept_shape.ensures refl in
    omega (arith, first.few, (allocated _ _ _ _ (allocation_of _ _ _ _ first.symbol (sym c.bad_data.ensures ∙ c.if-bad_data.false))).most)
