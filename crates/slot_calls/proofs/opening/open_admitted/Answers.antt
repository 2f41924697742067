-- `opening::open_admitted` meets its contract: the rules of the store, then 7, 1 and 10.
-- Assumes nothing.
use mathlib.Core.Path.{refl}
use Rattle.slots.specs.Calls.{store_rules, open_rules, open_number}
use Rattle.slot_calls.proofs.Rules.{settled, failed, last, passed_over, failed_all, passed_all, thrown}
use Rattle.slot_calls.proofs.opening.open_admitted.Goals as goal

pub returns-in_err-head : goal.returns-in_err-head
unfolding open_number open_rules store_rules
returns-in_err-head c =
    let e = c.args in thrown _ c.from_residual.result c.from_residual.ensures (failed_all (store_rules e.state e.lent e.slot) _ _ tt c.in_err-head.ensures.number)

pub returns-in_err-applied : goal.returns-in_err-applied
unfolding open_number open_rules store_rules
returns-in_err-applied c =
    let e = c.args in
    thrown _ c.from_residual-in_err-applied.result c.from_residual-in_err-applied.ensures
    (passed_all (store_rules e.state e.lent e.slot) tt c.in_ok-head.ensures.number (failed _ (rw c.in_ok-head.ensures.head at c.in_err-applied.ensures)))

pub returns-in_err-applied-2 : goal.returns-in_err-applied-2
unfolding open_number open_rules store_rules
returns-in_err-applied-2 c =
    let e = c.args in
    thrown _ c.from_residual-in_err-applied-2.result c.from_residual-in_err-applied-2.ensures
    (passed_all (store_rules e.state e.lent e.slot) tt c.in_ok-head.ensures.number
    (passed_over refl (rw c.in_ok-head.ensures.head at c.in_ok-applied.ensures) (failed _ (rw c.bad_size.ensures at c.in_err-applied-2.ensures))))

pub returns : goal.returns
unfolding open_number open_rules store_rules
returns c =
    let e = c.args in
    settled
    (passed_all (store_rules e.state e.lent e.slot) tt c.in_ok-head.ensures.number
    (passed_over refl (rw c.in_ok-head.ensures.head at c.in_ok-applied.ensures)
    (passed_over refl (rw c.bad_size.ensures at c.in_ok-applied-2.ensures) (last (rw c.too_many.ensures at c.applied-3.ensures)))))
