-- `states::with_head` meets its contract: the array's write is the definition's `set`.
-- Assumes nothing.
use mathlib.Core.Path.{refl}
use Rattle.slots.specs.Calls.{with_head}
use Rattle.slot_calls.proofs.states.with_head.Goals as goal

pub returns : goal.returns
unfolding with_head
returns c = refl
