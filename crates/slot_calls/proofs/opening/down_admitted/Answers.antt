-- `opening::down_admitted` meets its contract: Open's rules, and behind them 21.
-- Assumes nothing.
use mathlib.Core.Path.{refl}
use Rattle.slots.specs.Calls.{store_rules, open_rules, open_number}
use Rattle.slots.proofs.Accepted.{open_admitted}
use Rattle.slot_calls.proofs.Rules.{settled, last, failed_all, passed_all, thrown}
use Rattle.slot_calls.proofs.opening.down_admitted.Goals as goal

pub returns-in_err-open_admitted : goal.returns-in_err-open_admitted
unfolding open_number open_rules store_rules
returns-in_err-open_admitted c =
    let e = c.args in thrown _ c.from_residual.result c.from_residual.ensures (failed_all (open_rules e.state e.lent e.slot e.size) _ _ tt c.in_err-open_admitted.ensures)

pub too_short-short-requires : goal.too_short-short-requires
too_short-short-requires c = open_admitted _ _ _ _ c.in_ok-open_admitted.ensures refl

pub returns : goal.returns
unfolding open_number open_rules store_rules
returns c =
    let e = c.args in
    settled (passed_all (open_rules e.state e.lent e.slot e.size) tt c.in_ok-open_admitted.ensures (last (rw c.too_short-short.ensures at c.applied.ensures)))
