-- `calls::read_form` meets its contract: a refusal is that of the first rule that applies, and where none does the room lies within the store (`Answering`, `Form`).
-- Assumes nothing.
use mathlib.Core.Path.{◌∙◌, refl, sym}
use Prim.Native.Nat.{◌+◌, ◌*◌, ◌≤◌}
use native.Mathlib.Omega.{arith}
use lib.ListN.{length}
use Rattle.refusals.proofs.Numbers.{refusal_ne0}
use Rattle.packing.specs.Store.{places_in}
use Rattle.slot_calls.proofs.OwnerParts.{owned_head, owner_admitted}
use Rattle.slot_calls.proofs.Rules.{failed, last}
use Rattle.reading.proofs.Thrown.{thrown}
use Rattle.reading.proofs.Form.{room_there, room_places, read_asked}
use Rattle.reading.proofs.Answering.{refused_first, passed_first, read_told, Reading, read_refused, room_within, read_room_needs, answer_told, output_told}
use Rattle.reading.proofs.calls.read_form.Goals.{After-bytes_a_block}
use Rattle.reading.proofs.calls.read_form.Goals as goal

-- the call comes to the room
asked : (c : After-bytes_a_block) → let e = c.args in
    Reading e.state (places_in e.four e.store.now) e.slot e.terminal e.out.now 0 c.in_ok-head.head
asked c =
    let e = c.args in
    let found = owned_head e.state _ e.slot e.terminal (sym c.in_ok-head.was ∙ owner_admitted e.state _ e.slot e.terminal c.owner-owner.ensures) in
    record {
      number =
          read_asked e.four e.state e.store.now e.slot e.terminal _ c.places_asked-asked.ensures
          (read_told e.state _ e.slot e.terminal _ found (passed_first e.state _ e.slot e.terminal (sym c.in_ok-head.was ∙ owner_admitted e.state _ e.slot e.terminal c.owner-owner.ensures) (last c.in_ok-applied.ensures)));
      zero = refl;
      found = found;
    }

-- its bytes are there
there : (c : After-bytes_a_block) → let e = c.args in
    e.slot * (e.state.blocks * c.bytes_a_block.result) + e.state.blocks * c.bytes_a_block.result ≤ length e.store.now
there c =
    let e = c.args in room_there e.four e.state.blocks e.slot e.store.now (room_within (asked c)) c.bytes_a_block.ensures

pub returns-in_err-head : goal.returns-in_err-head
returns-in_err-head c =
    let e = c.args in
    let refusal = c.in_err-head.field-0.0 in
    let w = read_refused e.state (places_in e.four e.store.now) e.slot e.terminal e.out.now
    (read_asked e.four e.state e.store.now e.slot e.terminal _ c.places_asked-asked.ensures
    (read_told e.state _ e.slot e.terminal _ refl (refused_first e.state _ e.slot e.terminal refusal _ (sym c.in_err-head.was ∙ owner_admitted e.state _ e.slot e.terminal c.owner-owner.ensures))))
    (refusal_ne0 refusal) in
    record { value = thrown _ c.from_residual.result c.from_residual.ensures ∙ w.0; out_after = w.1 }

pub returns-in_err-applied : goal.returns-in_err-applied
returns-in_err-applied c =
    let e = c.args in
    let refusal = c.in_err-applied.field-0.0 in
    let found = owned_head e.state _ e.slot e.terminal (sym c.in_ok-head.was ∙ owner_admitted e.state _ e.slot e.terminal c.owner-owner.ensures) in
    let w = read_refused e.state (places_in e.four e.store.now) e.slot e.terminal e.out.now
    (read_asked e.four e.state e.store.now e.slot e.terminal _ c.places_asked-asked.ensures
    (read_told e.state _ e.slot e.terminal _ found (passed_first e.state _ e.slot e.terminal (sym c.in_ok-head.was ∙ owner_admitted e.state _ e.slot e.terminal c.owner-owner.ensures) (failed refusal c.in_err-applied.ensures))))
    (refusal_ne0 refusal) in
    record { value = thrown _ c.from_residual-in_err-applied.result c.from_residual-in_err-applied.ensures ∙ w.0; out_after = w.1 }

pub overflow_mul-long : goal.overflow_mul-long
overflow_mul-long c = omega (arith, there (goal.at.overflow_mul-long c).After-bytes_a_block)

pub overflow_mul-from : goal.overflow_mul-from
overflow_mul-from c = omega (arith, there (goal.at.overflow_mul-from c).After-bytes_a_block)

pub overflow_add-to : goal.overflow_add-to
overflow_add-to c = omega (arith, there (goal.at.overflow_add-to c).After-bytes_a_block)

pub slice_bounds-read_room-end : goal.slice_bounds-read_room-end
slice_bounds-read_room-end c = there (goal.at.slice_bounds-read_room-end c).After-bytes_a_block

pub read_room-requires : goal.read_room-requires
read_room-requires c =
    let w = asked (goal.at.read_room-requires c).After-bytes_a_block in
    rw (room_places c.args.four c.args.state.blocks c.args.slot c.args.store.now (room_within w) c.bytes_a_block.ensures) (read_room_needs w)

pub returns : goal.returns
returns c =
    let w = asked (goal.at.returns c).After-bytes_a_block in
    let room = room_places c.args.four c.args.state.blocks c.args.slot c.args.store.now (room_within w) c.bytes_a_block.ensures in
    record { value = answer_told w (rw room at c.read_room.ensures.value); out_after = output_told w (rw room at c.read_room.ensures.out_after) }
