-- `opening::close` meets its contract: an accepted call closes a slot that is there.
-- Assumes nothing.
use mathlib.Core.Path.{refl}
use native.Mathlib.Omega.{arith}
use Rattle.refusals.proofs.Numbers.{refusal_ne0}
use Rattle.slots.specs.Answers.{unless_refused}
use Rattle.slots.specs.Calls.{close_outcome}
use Rattle.slots.proofs.Accepted.{closing}
use Rattle.slot_calls.proofs.Closed.{closed}
use Rattle.slot_calls.proofs.opening.close.Goals as goal

pub with_head-requires : goal.with_head-requires
with_head-requires c =
    let e = c.args in
    let mine = closing e.state e.slot e.terminal c.in-Ok.ensures refl in
    omega (arith, mine.present, mine.state_good.shape.slots_most)

pub returns-in-Ok : goal.returns-in-Ok
unfolding close_outcome unless_refused
returns-in-Ok c = rw (c.with_head.ensures, closed c.default.ensures, ← c.in-Ok.ensures)

pub returns-in-Err : goal.returns-in-Err
unfolding close_outcome unless_refused
returns-in-Err c = rw (← c.in-Err.ensures, refusal_ne0 c.in-Err.refusal) c.refused.ensures
