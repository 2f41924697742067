-- `opening::open_packed` meets its contract: the answer tells whether the number is 0, and number 0 says that the room lies within the store.
-- Assumes nothing.
use mathlib.Core.Path.{◌≡◌, sym, ◌∙◌, ap}
use mathlib.Core.Bool.{true}
use Prim.Native.Nat.{ℕ}
use borrow.Author.Tests.{eqb-true}
use lib.Dec.{eqb}
use lib.ListN.{length}
use Rattle.slots.specs.Outcome.{Outcome, answer_of, told}
use Rattle.slots.specs.Answers.{is_done}
use Rattle.slots.specs.Calls.{open_number, open_outcome, open_store}
use Rattle.slots.proofs.Done.{open_told, open_stored, room_there}
use Rattle.packing.specs.Store.{places_in}
use Rattle.packing.proofs.Opened.{asked_open}
use Rattle.packing.proofs.opening.open_packed.Goals.{After-open_outcome-after}
use Rattle.packing.proofs.opening.open_packed.Goals as goal

-- the outcome is that of the places that the store keeps
outcome_is : (c : After-open_outcome-after) → let entry = c.args in
    told c.open_outcome-after.result ≡ open_outcome entry.state (length (places_in true entry.store.now)) entry.slot entry.terminal entry.size
outcome_is c =
    let entry = c.args in
    c.open_outcome-after.ensures
    ∙ ap (λ (n : ℕ). open_outcome entry.state n entry.slot entry.terminal entry.size) c.places_asked-lent.ensures
    ∙ asked_open entry.state entry.store.now entry.slot entry.terminal entry.size

-- its answer is done where the number is 0
is_told : (c : After-open_outcome-after) → let entry = c.args in
    is_done (answer_of c.open_outcome-after.result.answer) ≡ eqb (open_number entry.state (length (places_in true entry.store.now)) entry.slot entry.size) 0
is_told c = ap (λ (o : Outcome). is_done o.answer) (outcome_is c) ∙ open_told _ _ _ _ _

pub clear_room-requires : goal.clear_room-requires
clear_room-requires c = λ done. room_there (open_stored _ _ _ 0 _ (eqb-true _ 0 (sym (is_told (goal.at.clear_room-requires c).After-open_outcome-after) ∙ done)))

pub returns : goal.returns
unfolding open_store
returns c =
    record { value = outcome_is (goal.at.returns c).After-open_outcome-after; store_after = rw (is_told (goal.at.returns c).After-open_outcome-after) at c.clear_room.ensures }
