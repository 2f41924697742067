-- `opening::open` meets its contract: the answer tells whether the number is 0, and number 0 says that the room lies within the store.
-- Assumes nothing.
use mathlib.Core.Path.{◌≡◌, sym, ◌∙◌, ap}
use borrow.Author.Tests.{eqb-true}
use lib.Dec.{eqb}
use lib.ListN.{length}
use Rattle.slots.specs.Outcome.{Outcome, answer_of}
use Rattle.slots.specs.Answers.{is_done}
use Rattle.slots.specs.Calls.{open_number, open_store}
use Rattle.slots.proofs.Done.{open_told, open_stored, room_there}
use Rattle.slot_calls.proofs.opening.open.Goals.{After-open_outcome-after}
use Rattle.slot_calls.proofs.opening.open.Goals as goal

-- the answer is done where the number is 0
told : (c : After-open_outcome-after) → let entry = c.args in
    is_done (answer_of c.open_outcome-after.result.answer) ≡ eqb (open_number entry.state (length entry.store.now) entry.slot entry.size) 0
told c = ap (λ (o : Outcome). is_done o.answer) c.open_outcome-after.ensures ∙ open_told _ _ _ _ _

pub clear_room-requires : goal.clear_room-requires
clear_room-requires c = λ done. room_there (open_stored _ _ _ 0 _ (eqb-true _ 0 (sym (told (goal.at.clear_room-requires c).After-open_outcome-after) ∙ done)))

pub returns : goal.returns
unfolding open_store
returns c =
    record { value = c.open_outcome-after.ensures; store_after = rw (told (goal.at.returns c).After-open_outcome-after) at c.clear_room.ensures }
