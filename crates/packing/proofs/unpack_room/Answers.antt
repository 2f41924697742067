-- `unpack_room` meets its contract: number 0 says that both rooms are there, and the room is unpacked over the front (`Rooms`).
-- Assumes nothing.
use mathlib.Core.Path.{◌≡◌, refl}
use Prim.Native.Nat.{◌*◌}
use native.Mathlib.Omega.{arith}
use Rattle.std.proofs.lemmas.Result.{err_from_is_err_and}
use lib.ListN.{length}
use Rattle.laws.proofs.Parts.{front_count}
use Rattle.refusals.proofs.Numbers.{refusal_ne0}
use Rattle.slots.specs.State.{room_length}
use Rattle.packing.specs.Change.{packed_length, unpack_number, unpack_output}
use Rattle.packing.proofs.Rooms.{Changeable, changeable, unpacked_room}
use Rattle.packing.proofs.unpack_room.Goals.{In_ok-change_admitted}
use Rattle.packing.proofs.unpack_room.Goals as goal

there : (c : In_ok-change_admitted) → let e = c.args in Changeable e.m (length e.from.now) (length e.to.now) (e.m * 4632) (e.m * 18528)
there c = changeable _ _ _ _ _ c.in_ok-change_admitted.ensures

pub returns-in_err-change_admitted-clause-number : goal.returns-in_err-change_admitted-clause-number
unfolding unpack_number packed_length room_length
returns-in_err-change_admitted-clause-number c =
    let p = err_from_is_err_and c.from_residual.result c.from_residual.ensures.1 in rw (p.1, p.2) c.in_err-change_admitted.ensures

pub returns-in_err-change_admitted-clause-output : goal.returns-in_err-change_admitted-clause-output
unfolding unpack_number unpack_output packed_length room_length
returns-in_err-change_admitted-clause-output c = rw (← c.in_err-change_admitted.ensures, refusal_ne0 c.in_err-change_admitted.field-0.0)

pub overflow_mul-long : goal.overflow_mul-long
overflow_mul-long c = omega (arith, (there (goal.at.overflow_mul-long c).In_ok-change_admitted).few)

pub overflow_mul-short : goal.overflow_mul-short
overflow_mul-short c = omega (arith, (there (goal.at.overflow_mul-short c).In_ok-change_admitted).few)

pub slice_bounds-unpack_places-end : goal.slice_bounds-unpack_places-end
slice_bounds-unpack_places-end c = front_count _ _ (there (goal.at.slice_bounds-unpack_places-end c).In_ok-change_admitted).read

pub slice_bounds-unpack_places-end-2 : goal.slice_bounds-unpack_places-end-2
slice_bounds-unpack_places-end-2 c = (there (goal.at.slice_bounds-unpack_places-end-2 c).In_ok-change_admitted).room

pub slice_bounds-unpack_places-end-3 : goal.slice_bounds-unpack_places-end-3
slice_bounds-unpack_places-end-3 c = front_count _ _ (there (goal.at.slice_bounds-unpack_places-end-3 c).In_ok-change_admitted).room

pub returns-clause-number : goal.returns-clause-number
unfolding unpack_number packed_length room_length
returns-clause-number c = c.in_ok-change_admitted.ensures

pub returns-clause-output : goal.returns-clause-output
unfolding unpack_number unpack_output packed_length room_length
returns-clause-output c =
    let w = there (goal.at.returns-clause-output c).In_ok-change_admitted in
    rw (← c.in_ok-change_admitted.ensures)
    (unpacked_room (c.args.m * 4632) (c.args.m * 18528) (omega arith) c.args.from.now c.args.to.now w.read w.room c.unpack_places.ensures)
