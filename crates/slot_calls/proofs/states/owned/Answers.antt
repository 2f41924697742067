-- `states::owned` meets its contract: the two rules of a head, one after the other.
-- Assumes nothing.
use Rattle.refusals.specs.Refusals.{or_else}
use Rattle.refusals.proofs.Refusals.{done, next, chained}
use Rattle.slot_calls.proofs.states.owned.Goals as goal

pub returns : goal.returns
unfolding or_else
returns c = chained (next c.applied-opened.ensures (next c.or_else.ensures done)) tt
