-- `opening::clear_room` meets its contract: where the answer is done, the part that was lent came back unheard.
-- Assumes nothing.
use mathlib.Core.Path.{◌≡◌, sym, ◌∙◌}
use mathlib.Core.Bool.{true}
use Prim.Native.Nat.{ℕ, ◌+◌, ◌*◌, ◌≤◌}
use native.Mathlib.Nat.{mul-le-mul}
use native.Mathlib.Omega.{arith}
use lib.ListN.{length}
use Rattle.slots.specs.Outcome.{answer_of}
use Rattle.slots.specs.Answers.{is_done}
use Rattle.slots.specs.State.{room_length, room_start}
use Rattle.packing.specs.Store.{places_a_byte}
use Rattle.packing.proofs.Stores.{places_are, form_back}
use Rattle.packing.proofs.Opened.{room_cleared_packed}
use Rattle.packing.proofs.opening.clear_room.Goals.{Else-not-is_done}
use Rattle.packing.proofs.opening.clear_room.Goals as goal

-- past the test the answer is done
done : (c : Else-not-is_done) → is_done (answer_of c.args.answer) ≡ true
done c = sym c.is_done.ensures ∙ c.if-not-is_done.false

-- no room starts past 8 of 5 code blocks
small : (m slot : ℕ) → m ≤ 5 → slot ≤ 8 → slot * (m * 4632) ≤ 185280
small m slot h g = let long : m * 4632 ≤ 23160 = omega arith in omega (arith, mul-le-mul g long)

-- the room lies within the store
ends : (c : Else-not-is_done) → let entry = c.args in entry.slot * (entry.m * 4632) + entry.m * 4632 ≤ length entry.store.now
unfolding room_start room_length places_a_byte
ends c = omega (arith, (c.requires (done c)).2, places_are true c.args.store.now)

pub returns-then-not-is_done : goal.returns-then-not-is_done
returns-then-not-is_done c =
    rw (← c.is_done.ensures, c.if-not-is_done.true)
    (sym (form_back true c.args.store.now (λ i. omega (arith, c.type_inv.store i))))

pub overflow_mul-long : goal.overflow_mul-long
overflow_mul-long c = omega (arith, (c.requires (done (goal.at.overflow_mul-long c).Else-not-is_done)).0)

pub overflow_mul-from : goal.overflow_mul-from
overflow_mul-from c =
    omega (arith, small c.args.m c.args.slot (c.requires (done (goal.at.overflow_mul-from c).Else-not-is_done)).0 (c.requires (done (goal.at.overflow_mul-from c).Else-not-is_done)).1)

pub overflow_add-to : goal.overflow_add-to
overflow_add-to c =
    omega (arith, small c.args.m c.args.slot (c.requires (done (goal.at.overflow_add-to c).Else-not-is_done)).0 (c.requires (done (goal.at.overflow_add-to c).Else-not-is_done)).1, (c.requires (done (goal.at.overflow_add-to c).Else-not-is_done)).0)

pub slice_bounds-fill-end : goal.slice_bounds-fill-end
slice_bounds-fill-end c = ends (goal.at.slice_bounds-fill-end c).Else-not-is_done

pub returns : goal.returns
returns c =
    let entry = c.args in
    rw (done (goal.at.returns c).Else-not-is_done)
    (room_cleared_packed entry.m entry.slot entry.store.now c.fill.new.self (ends (goal.at.returns c).Else-not-is_done) (c.fill.ensures.after (λ y h. h)) (λ i. omega (arith, c.type_inv.store i)))
