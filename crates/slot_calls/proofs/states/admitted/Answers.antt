-- `states::admitted` meets its contract: the rules of the store, then those of the slot's head.
-- Assumes nothing.
use Rattle.refusals.proofs.Numbers.{given_err, given_ok}
use Rattle.std.proofs.lemmas.Result.{err_from_is_err_and}
use Rattle.slots.specs.Calls.{store_rules, owner_rules}
use Rattle.slot_calls.specs.Owner.{owner_number, admitted_by}
use Rattle.slot_calls.proofs.Rules.{settled, known, failed_all, passed_all}
use Rattle.slot_calls.proofs.states.admitted.Goals as goal

pub returns-in_err-head : goal.returns-in_err-head
unfolding admitted_by owner_number store_rules
returns-in_err-head c =
    let e = c.args in
    let p = err_from_is_err_and c.from_residual.result c.from_residual.ensures.1 in
    rw (p.1, p.2) (given_err _ (settled (failed_all (store_rules e.state e.lent e.slot) _ _ tt c.in_err-head.ensures.number)))

pub returns-in_err-owned : goal.returns-in_err-owned
unfolding admitted_by owner_number store_rules owner_rules
returns-in_err-owned c =
    let e = c.args in
    let p = err_from_is_err_and c.from_residual-in_err-owned.result c.from_residual-in_err-owned.ensures.1 in
    rw (p.1, p.2) (given_err _ (settled (passed_all (store_rules e.state e.lent e.slot) tt c.in_ok-head.ensures.number (known (rw c.in_ok-head.ensures.head at c.in_err-owned.ensures)))))

pub returns : goal.returns
unfolding admitted_by owner_number store_rules owner_rules
returns c =
    let e = c.args in
    let rules = settled (passed_all (store_rules e.state e.lent e.slot) tt c.in_ok-head.ensures.number (known (rw c.in_ok-head.ensures.head at c.in_ok-owned.ensures))) in
    rw c.in_ok-head.ensures.head (given_ok _ rules)
