-- `states::stored_head` meets its contract: 13, 5 and 6, one after the other.
-- Assumes nothing.
use mathlib.Core.Path.{◌≡◌, refl}
use mathlib.Core.Bool.{false}
use Rattle.refusals.proofs.Refusals.{never}
use Rattle.slots.specs.State.{room_start, store_length, bad_state}
use Rattle.slots.specs.Calls.{store_rules}
use Rattle.slots.proofs.Accepted.{Shape, good}
use Rattle.slot_calls.proofs.Rules.{settled, none_left, failed, passed_over, thrown, idle}
use Rattle.slot_calls.proofs.states.stored_head.Goals as goal

pub returns-in_err-head-clause-number : goal.returns-in_err-head-clause-number
unfolding store_rules
returns-in_err-head-clause-number c = thrown _ c.from_residual.result c.from_residual.ensures (failed _ c.in_err-head.ensures.number)

pub room_start-requires : goal.room_start-requires
room_start-requires c =
    let shape = (good c.args.state (idle 13 refl c.in_ok-head.ensures.number)).shape in
    (shape.blocks_most, shape.slots_most)

pub returns-in_err-applied-clause-number : goal.returns-in_err-applied-clause-number
unfolding store_rules store_length room_start
returns-in_err-applied-clause-number c =
    thrown _ c.from_residual-in_err-applied.result c.from_residual-in_err-applied.ensures
    (passed_over refl c.in_ok-head.ensures.number (failed _ (rw c.room_start.ensures at c.in_err-applied.ensures)))

pub returns-in_err-applied-2-clause-number : goal.returns-in_err-applied-2-clause-number
unfolding store_rules store_length room_start
returns-in_err-applied-2-clause-number c =
    thrown _ c.from_residual-in_err-applied-2.result c.from_residual-in_err-applied-2.ensures
    (passed_over refl c.in_ok-head.ensures.number (passed_over refl (rw c.room_start.ensures at c.in_ok-applied.ensures) (failed _ c.in_err-applied-2.ensures)))

pub returns-clause-number : goal.returns-clause-number
unfolding store_rules store_length room_start
returns-clause-number c =
    settled (passed_over refl c.in_ok-head.ensures.number (passed_over refl (rw c.room_start.ensures at c.in_ok-applied.ensures) (passed_over refl c.in_ok-applied-2.ensures none_left)))
