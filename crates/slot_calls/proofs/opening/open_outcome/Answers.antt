-- `opening::open_outcome` meets its contract: an accepted call opens a slot that is there.
-- Assumes nothing.
use mathlib.Core.Path.{sym}
use Rattle.refusals.proofs.Numbers.{refusal_ne0}
use Rattle.slots.specs.Answers.{unless_refused}
use Rattle.slots.specs.Calls.{open_outcome}
use Rattle.slots.proofs.Done.{open_stored, eight}
use Rattle.slot_calls.proofs.opening.open_outcome.Goals as goal

pub opened-requires : goal.opened-requires
opened-requires c = eight (open_stored c.args.state c.args.lent c.args.slot 0 c.args.size (sym c.in-Ok.ensures))

pub returns-in-Ok : goal.returns-in-Ok
unfolding open_outcome unless_refused
returns-in-Ok c = rw (← c.in-Ok.ensures) c.opened.ensures

pub returns-in-Err : goal.returns-in-Err
unfolding open_outcome unless_refused
returns-in-Err c = rw (← c.in-Err.ensures, refusal_ne0 c.in-Err.refusal) c.refused.ensures
