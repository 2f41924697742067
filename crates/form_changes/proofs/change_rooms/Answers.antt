use mathlib.Core.Path.{◌≡◌, ap}
use mathlib.Core.Bool.{Bool, true, false, not}
use Prim.Native.Nat.{ℕ, ◌+◌, ◌-◌, ◌*◌, ◌≤◌}
use native.Mathlib.Nat.{mul-le-mul}
use native.Mathlib.Omega.{arith}
use mir.Syntax.{w64}
use mir.Val.{Fits}
use Rattle.packing.specs.Store.{bytes_a_block}
use Rattle.forms.specs.Change.{room_in}
use Rattle.form_changes.proofs.Changed.{begin, from_fits, to_fits, next, done}
use Rattle.form_changes.proofs.change_rooms.Goals as goal

-- a code block's bytes
few : (four : Bool) → bytes_a_block four ≤ 18528
unfolding bytes_a_block
few true = omega arith
few false = omega arith

-- a room's bytes
bounded : (m k : ℕ) (four : Bool) → k ≡ bytes_a_block four → m ≤ 5 → Fits w64 (m * k)
bounded m k four e h = let g : k ≤ 18528 = rw e (few four) in omega (arith, mul-le-mul h g)

room : (m : ℕ) (four : Bool) {k : ℕ} → k ≡ bytes_a_block four → m * k ≡ room_in four m
unfolding room_in
room m four e = ap (λ (n : ℕ). m * n) e

pub overflow_mul-read : goal.overflow_mul-read
overflow_mul-read c = bounded _ _ (not c.args.four) c.bytes_a_block.ensures c.requires.m_bound

pub overflow_mul-written : goal.overflow_mul-written
overflow_mul-written c = bounded _ _ c.args.four c.bytes_a_block-2.ensures c.requires.m_bound

pub loop-room-init : goal.loop-room-init
loop-room-init c =
    let args = c.args in
    begin args.four args.m args.n _ args.from.now args.to.now (omega arith) (room args.m (not args.four) c.bytes_a_block.ensures) (room args.m args.four c.bytes_a_block-2.ensures)

pub overflow_add-i_end : goal.overflow_add-i_end
overflow_add-i_end c = omega (arith, from_fits c.loop-room.invariant (omega arith) c.requires.m_in_bounds.0)

pub overflow_add-j_end : goal.overflow_add-j_end
overflow_add-j_end c = omega (arith, to_fits c.loop-room.invariant (omega arith) c.requires.m_in_bounds.1)

pub slice_bounds-change_room-end : goal.slice_bounds-change_room-end
slice_bounds-change_room-end c = from_fits c.loop-room.invariant (omega arith) c.requires.m_in_bounds.0

pub slice_bounds-change_room-end-in-loop-room : goal.slice_bounds-change_room-end-in-loop-room
slice_bounds-change_room-end-in-loop-room c = to_fits c.loop-room.invariant (omega arith) c.requires.m_in_bounds.1

pub loop-room-preserved : goal.loop-room-preserved
loop-room-preserved c =
    let head = c.loop-room in
    let one_less : c.args.n - head.room - 1 ≡ c.args.n - (head.room + 1) = omega arith in
    rw one_less at (next head.invariant (omega arith) c.requires.m_in_bounds.1 c.change_room.ensures c.change_room.auto.to)

pub returns : goal.returns
returns c = done c.loop-room.invariant (omega arith)
