-- `states::room_length` meets its contract by the definition.
-- Assumes nothing.
use mathlib.Core.Path.{refl}
use Rattle.slots.specs.State.{room_length}
use Rattle.slot_calls.proofs.states.room_length.Goals as goal

pub returns : goal.returns
unfolding room_length
returns c = refl
