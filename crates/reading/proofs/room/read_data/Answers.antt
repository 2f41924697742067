-- `room::read_data` meets its contract: the circle is lent from the room (`Form`), or another function unpacks it first.
-- Assumes nothing.
use mathlib.Core.Path.{◌∙◌}
use Prim.Native.Nat.{◌+◌, ◌-◌, ◌*◌, ◌≤◌}
use native.Mathlib.Omega.{arith}
use borrow.Rule.Slice.PartMut.{mid_of}
use lib.ListN.{length}
use Rattle.slots.specs.Circle.{heard_on}
use Rattle.kept_bits.proofs.Rows.{reach_most, stream_read}
use Rattle.reading.proofs.Lent.{heard_alike}
use Rattle.reading.proofs.Form.{part_within, part_long, plain_long, plain_alike, stretch_on}
use Rattle.reading.proofs.room.read_data.Goals.{After-bytes_a_block-long}
use Rattle.reading.proofs.room.read_data.Goals as goal

-- the code block's bytes
within : (c : After-bytes_a_block-long) → let e = c.args in
    e.r * c.bytes_a_block-long.result + c.bytes_a_block-long.result ≤ length e.room.now
within c = part_within c.requires.0 c.bytes_a_block-long.ensures

pub read_packed_data-requires : goal.read_packed_data-requires
read_packed_data-requires c = rw c.if-four.true at c.requires

pub returns-then-four : goal.returns-then-four
returns-then-four c = rw c.if-four.true c.read_packed_data.ensures

pub overflow_mul-from : goal.overflow_mul-from
overflow_mul-from c = omega (arith, within (goal.at.overflow_mul-from c).After-bytes_a_block-long)

pub overflow_add-to : goal.overflow_add-to
overflow_add-to c = omega (arith, within (goal.at.overflow_add-to c).After-bytes_a_block-long)

pub slice_bounds-read_stream-end : goal.slice_bounds-read_stream-end
slice_bounds-read_stream-end c = within (goal.at.slice_bounds-read_stream-end c).After-bytes_a_block-long

pub returns : goal.returns
unfolding heard_on
returns c =
    let long = c.bytes_a_block-long.result in
    let from = c.args.r * long in
    stream_read (mid_of from (from + long - from) c.args.room.now) c.args.out.now (c.args.k + 4) 0 c.args.f c.read_stream.ensures
    (stretch_on c.requires.1 (omega (arith, part_long c.requires.0 c.bytes_a_block-long.ensures, plain_long c.if-four.false)))
    ∙ heard_alike c.args.k c.requires.1.sized (plain_alike c.args.r c.args.room.now c.bytes_a_block-long.ensures c.if-four.false)
    (reach_most 0 c.requires.1.sized.most) c.args.f (length c.args.out.now) c.requires.1.within
