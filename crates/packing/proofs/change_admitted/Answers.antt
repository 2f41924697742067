-- `change_admitted` meets its contract: 13, then 5 of either buffer.
-- Assumes nothing.
use mathlib.Core.Path.{◌≡◌, refl}
use mathlib.Core.Bool.{false}
use Prim.Native.Nat.{ℕ, ◌*◌, ◌≤◌}
use native.Mathlib.Nat.{mul-le-mul}
use native.Mathlib.Omega.{arith}
use Rattle.packing.specs.Change.{bad_blocks, change_number}
use Rattle.packing.proofs.Rooms.{in_range}
use Rattle.slot_calls.proofs.Rules.{settled, failed, last, passed_over, thrown, idle}
use Rattle.packing.proofs.change_admitted.Goals as goal

-- M is in range, so that no product wraps
few : (m needed : ℕ) → bad_blocks m ≡ false → needed ≤ 18528 → m * needed ≤ 92640
few m needed e h = omega (arith, mul-le-mul (in_range m e).1 h)

pub returns-in_err-applied : goal.returns-in_err-applied
unfolding change_number
returns-in_err-applied c = thrown _ c.from_residual.result c.from_residual.ensures (failed _ (rw c.bad_blocks.ensures at c.in_err-applied.ensures))

pub overflow_mul-m : goal.overflow_mul-m
overflow_mul-m c = omega (arith, few _ _ (idle 13 refl (rw c.bad_blocks.ensures at c.in_ok-applied.ensures)) c.requires.0)

pub returns-in_err-applied-2 : goal.returns-in_err-applied-2
unfolding change_number
returns-in_err-applied-2 c =
    thrown _ c.from_residual-in_err-applied-2.result c.from_residual-in_err-applied-2.ensures
    (passed_over refl (rw c.bad_blocks.ensures at c.in_ok-applied.ensures) (failed _ c.in_err-applied-2.ensures))

pub overflow_mul-m-2 : goal.overflow_mul-m-2
overflow_mul-m-2 c = omega (arith, few _ _ (idle 13 refl (rw c.bad_blocks.ensures at c.in_ok-applied.ensures)) c.requires.1)

pub returns : goal.returns
unfolding change_number
returns c =
    settled (passed_over refl (rw c.bad_blocks.ensures at c.in_ok-applied.ensures) (passed_over refl c.in_ok-applied-2.ensures (last c.applied-3.ensures)))
