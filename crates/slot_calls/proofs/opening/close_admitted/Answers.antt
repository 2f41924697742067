-- `opening::close_admitted` meets its contract: 13, 6, and the rules of the slot's head.
-- Assumes nothing.
use mathlib.Core.Path.{refl}
use Rattle.slots.specs.Calls.{owner_rules, close_number}
use Rattle.slot_calls.proofs.Rules.{settled, known, failed, passed_over, thrown}
use Rattle.slot_calls.proofs.opening.close_admitted.Goals as goal

pub returns-in_err-head : goal.returns-in_err-head
unfolding close_number
returns-in_err-head c = thrown _ c.from_residual.result c.from_residual.ensures (failed _ c.in_err-head.ensures.number)

pub returns-in_err-applied : goal.returns-in_err-applied
unfolding close_number
returns-in_err-applied c =
    thrown _ c.from_residual-in_err-applied.result c.from_residual-in_err-applied.ensures
    (passed_over refl c.in_ok-head.ensures.number (failed _ c.in_err-applied.ensures))

pub returns : goal.returns
unfolding close_number owner_rules
returns c =
    settled (passed_over refl c.in_ok-head.ensures.number (passed_over refl c.in_ok-applied.ensures (known (rw c.in_ok-head.ensures.head at c.owned.ensures))))
