-- `put_in_slot` meets its contract: the slot's room lies in the store and has the block's code blocks (`SlotRoom`).
-- Assumes nothing.
use native.Mathlib.Omega.{arith}
use Rattle.reception.proofs.SlotRoom.{room_small, room_near, room_in, room_ready, room_stored, room_counted}
use Rattle.reception.proofs.put_in_slot.Goals as goal

pub overflow_mul-room : goal.overflow_mul-room
overflow_mul-room c = omega (arith, room_small _ _ c.requires c.bytes_a_block.ensures)

pub overflow_mul-from : goal.overflow_mul-from
overflow_mul-from c = omega (arith, room_near _ _ c.requires c.bytes_a_block.ensures)

pub overflow_add-to : goal.overflow_add-to
overflow_add-to c = omega (arith, room_small _ _ c.requires c.bytes_a_block.ensures, room_near _ _ c.requires c.bytes_a_block.ensures)

pub slice_bounds-put_blocks-end : goal.slice_bounds-put_blocks-end
slice_bounds-put_blocks-end c = room_in _ _ c.requires c.bytes_a_block.ensures

pub put_blocks-requires : goal.put_blocks-requires
put_blocks-requires c = room_ready _ _ c.requires c.bytes_a_block.ensures

pub returns : goal.returns
returns c =
    let kept = c.put_blocks.auto.room in
    let put = c.put_blocks.ensures in
    record {
      stored = room_stored _ _ c.requires c.bytes_a_block.ensures _ kept (put.stored, put.count);
      count = room_counted _ _ c.requires c.bytes_a_block.ensures _ kept (put.stored, put.count);
    }
