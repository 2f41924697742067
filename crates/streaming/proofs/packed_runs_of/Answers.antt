-- `streaming::packed_runs_of` meets its contract: the circle is unpacked, and its streams are shown from there (`Form`).
-- Assumes nothing.
use mathlib.Core.Path.{◌∙◌, refl, ap}
use mathlib.Core.List.{List, ◌++◌}
use Prim.Native.Nat.{ℕ, ◌+◌, ◌*◌, ◌/◌, ◌≤◌}
use native.Mathlib.Omega.{arith}
use lib.ListN.{length, drop, replicate, length-replicate}
use Rattle.kept_bits.proofs.Rows.{streams_shown}
use Rattle.reading.proofs.Lent.{streams_alike}
use Rattle.reading.proofs.Form.{part_within, stretch_in, front_within, front_alike, circle_few, circle_reach}
use Rattle.streaming.proofs.packed_runs_of.Goals.{After-bytes_a_block}
use Rattle.streaming.proofs.packed_runs_of.Goals as goal

-- the bytes of the circle, which the array has room for
few : (c : After-bytes_a_block) → 24 * ((c.args.d + 31) / 32) ≤ 4632
few c = circle_few c.requires.3.sized

within : (c : After-bytes_a_block) → let e = c.args in
    e.i * c.bytes_a_block.result + c.bytes_a_block.result ≤ length e.store.now
within c = part_within c.requires.0 c.bytes_a_block.ensures

there : (c : After-bytes_a_block) → let e = c.args in
    e.i * c.bytes_a_block.result + 24 * ((e.d + 31) / 32) ≤ length e.store.now
there c = front_within c.requires.0 refl c.bytes_a_block.ensures (few c)

pub overflow_mul-from : goal.overflow_mul-from
overflow_mul-from c = omega (arith, within (goal.at.overflow_mul-from c).After-bytes_a_block)

pub overflow_add-to-2 : goal.overflow_add-to-2
overflow_add-to-2 c = omega (arith, there (goal.at.overflow_add-to-2 c).After-bytes_a_block)

pub slice_bounds-unpack_places-end : goal.slice_bounds-unpack_places-end
slice_bounds-unpack_places-end c = there (goal.at.slice_bounds-unpack_places-end c).After-bytes_a_block

pub returns : goal.returns
returns c =
    let f = few (goal.at.returns c).After-bytes_a_block in
    streams_shown _ _ _ _ c.three_streams.ensures c.requires.1 c.requires.2
    (stretch_in c.requires.3 (omega (arith, circle_reach c.args.d 2, f, c.unpack_places.auto.to)))
    ∙ ap (λ (l : List ℕ). l ++ drop (3 * c.args.d) c.args.out.now)
    (streams_alike c.requires.3.sized
    (front_alike c.requires.0 refl c.bytes_a_block.ensures f (replicate {A = ℕ} 18528 0) (omega (arith, f, length-replicate {A = ℕ})) c.unpack_places.ensures)
    c.args.f (circle_reach c.args.d))
