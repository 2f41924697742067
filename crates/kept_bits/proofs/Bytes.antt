-- What a byte of a room tells, 01 'Slots': the one place where the rule for a decided bit is looked into.
-- Assumes nothing.
use mathlib.Core.Path.{◌≡◌}
use mathlib.Core.Bool.{Bool, true, false, cond}
use Prim.Native.Nat.{ℕ, ◌≤◌, ◌<◌, min}
use native.Mathlib.Omega.{arith}
use native.Mathlib.Decide.{dec_lt}
use mir.Val.{bool_byte}
use lib.Dec.{ltb}
use borrow.Author.Tests.{lt-ltb, le-ltb}
use Rattle.slots.specs.Room.{is_decided}
use Rattle.slots.specs.Circle.{missing, shown}

pub missing_le : (x : ℕ) → missing x ≤ 1
unfolding missing
missing_le x = go (is_decided x)
  where
    go : (b : Bool) → cond b 0 1 ≤ 1
    go true = omega arith
    go false = omega arith

pub missing_is : (x : ℕ) → bool_byte (ltb 1 x) ≡ missing x
unfolding missing is_decided
missing_is x = elim (dec_lt 1 x) [
  | yes h ↦ rw (lt-ltb 1 x h, le-ltb x 2 h)
  | no h ↦ let low : x < 2 = omega arith in rw (le-ltb 1 x (omega arith), lt-ltb x 2 low)
]

pub shown_is : (x : ℕ) → min x 2 ≡ shown x
unfolding shown is_decided
shown_is x = elim (dec_lt x 2) [
  | yes h ↦ rw (lt-ltb x 2 h) (omega arith)
  | no h ↦ let low : 2 ≤ x = omega arith in rw (le-ltb x 2 low) (omega arith)
]
