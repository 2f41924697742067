-- `states::room_start` meets its contract by the definition; the product is at most 8·5·18,528.
-- Assumes nothing.
use Prim.Native.Nat.{◌≤◌}
use native.Mathlib.Nat.{mul-le-mul}
use native.Mathlib.Omega.{arith}
use Rattle.slots.specs.State.{room_length, room_start}
use Rattle.slot_calls.proofs.states.room_start.Goals as goal

pub overflow_mul-result : goal.overflow_mul-result
unfolding room_length
overflow_mul-result c =
    let few : c.room_length.result ≤ 92640 = rw c.room_length.ensures (omega arith) in
    omega (arith, mul-le-mul c.requires.1 few)

pub returns : goal.returns
unfolding room_start
returns c = rw c.room_length.ensures
