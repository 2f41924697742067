-- `room::read_packed_data` meets its contract: the places of stream 0 are unpacked, and read there (`Form`).
-- Assumes nothing.
use mathlib.Core.Path.{◌∙◌, refl}
use Prim.Native.Nat.{ℕ, ◌+◌, ◌*◌, ◌/◌, ◌≤◌}
use native.Mathlib.Omega.{arith}
use lib.ListN.{length, replicate, length-replicate}
use Rattle.slots.specs.Circle.{heard_on}
use Rattle.kept_bits.proofs.Rows.{stream_read}
use Rattle.reading.proofs.Lent.{heard_alike}
use Rattle.reading.proofs.Form.{part_within, stretch_in, front_within, front_alike, data_few, data_reach}
use Rattle.reading.proofs.room.read_packed_data.Goals.{After-bytes_a_block}
use Rattle.reading.proofs.room.read_packed_data.Goals as goal

-- the bytes of stream 0, which the array has room for
few : (c : After-bytes_a_block) → 8 * ((c.args.k + 35) / 32) ≤ 1544
few c = data_few c.args.k c.requires.1.sized

within : (c : After-bytes_a_block) → let e = c.args in
    e.r * c.bytes_a_block.result + c.bytes_a_block.result ≤ length e.room.now
within c = part_within c.requires.0 c.bytes_a_block.ensures

there : (c : After-bytes_a_block) → let e = c.args in
    e.r * c.bytes_a_block.result + 8 * ((e.k + 35) / 32) ≤ length e.room.now
there c = front_within c.requires.0 refl c.bytes_a_block.ensures (omega (arith, few c))

pub overflow_mul-from : goal.overflow_mul-from
overflow_mul-from c = omega (arith, within (goal.at.overflow_mul-from c).After-bytes_a_block)

pub overflow_add-to-2 : goal.overflow_add-to-2
overflow_add-to-2 c = omega (arith, there (goal.at.overflow_add-to-2 c).After-bytes_a_block)

pub slice_bounds-unpack_places-end : goal.slice_bounds-unpack_places-end
slice_bounds-unpack_places-end c = there (goal.at.slice_bounds-unpack_places-end c).After-bytes_a_block

pub returns : goal.returns
unfolding heard_on
returns c =
    let f = few (goal.at.returns c).After-bytes_a_block in
    stream_read c.unpack_places.new.to c.args.out.now (c.args.k + 4) 0 c.args.f c.read_stream.ensures (stretch_in c.requires.1 (omega (arith, data_reach c.args.k, f, c.unpack_places.auto.to)))
    ∙ heard_alike c.args.k c.requires.1.sized
    (front_alike c.requires.0 refl c.bytes_a_block.ensures (omega (arith, f)) (replicate {A = ℕ} 6176 0) (omega (arith, f, length-replicate {A = ℕ})) c.unpack_places.ensures)
    (data_reach c.args.k) c.args.f (length c.args.out.now) c.requires.1.within
