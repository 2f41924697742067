-- `opening::clear_room` meets its contract: where the answer is done, the part that was lent came back unheard.
-- Assumes nothing.
use mathlib.Core.Path.{◌≡◌, sym, ◌∙◌}
use mathlib.Core.Bool.{true}
use Prim.Native.Nat.{◌+◌, ◌≤◌}
use native.Mathlib.Omega.{arith}
use lib.ListN.{length}
use Rattle.slots.specs.Outcome.{answer_of}
use Rattle.slots.specs.Answers.{is_done}
use Rattle.slots.proofs.Cleared.{room_cleared}
use Rattle.slot_calls.proofs.opening.clear_room.Goals.{After-room_length, Else-not-is_done}
use Rattle.slot_calls.proofs.opening.clear_room.Goals as goal

-- past the test the answer is done
done : (c : Else-not-is_done) → is_done (answer_of c.args.answer) ≡ true
done c = sym c.is_done.ensures ∙ c.if-not-is_done.false

-- the room lies within the store
ends : (c : After-room_length) → c.room_start-from.result + c.room_length.result ≤ length c.args.store.now
ends c = omega (arith, (c.requires (sym c.is_done.ensures ∙ c.if-not-is_done.false)).2)

pub returns-then-not-is_done : goal.returns-then-not-is_done
returns-then-not-is_done c = rw (← c.is_done.ensures, c.if-not-is_done.true)

pub room_start-from-requires : goal.room_start-from-requires
room_start-from-requires c = let asked = c.requires (done (goal.at.room_start-from-requires c).Else-not-is_done) in (asked.0, asked.1)

pub room_length-requires : goal.room_length-requires
room_length-requires c = (c.requires (done (goal.at.room_length-requires c).Else-not-is_done)).0

pub overflow_add-to : goal.overflow_add-to
overflow_add-to c = omega (arith, ends (goal.at.overflow_add-to c).After-room_length)

pub slice_bounds-fill-end : goal.slice_bounds-fill-end
slice_bounds-fill-end c = ends (goal.at.slice_bounds-fill-end c).After-room_length

pub returns : goal.returns
returns c =
    let entry = c.args in
    rw (done (goal.at.returns c).Else-not-is_done)
    (room_cleared entry.m entry.slot entry.store.now c.fill.new.self c.room_start-from.ensures c.room_length.ensures (ends (goal.at.returns c).After-room_length) (c.fill.ensures.after (λ y h. h)))
