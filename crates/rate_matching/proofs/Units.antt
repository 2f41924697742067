-- Where the units of the circle begin, clauses 5.1.4.1.1 and 5.1.4.1.2: one after another, and a start is the head of one.
-- Assumes nothing.
use mathlib.Core.Path.{◌≡◌, refl, ap}
use mathlib.Core.Bool.{Bool, true, false, cond}
use Prim.Native.Nat.{ℕ, ◌+◌, ◌-◌, ◌*◌, ◌%◌, ◌≤◌, ◌<◌}
use native.Mathlib.Nat.{mul-le-mul_left}
use native.Mathlib.Omega.{arith}
use lib.Dec.{ltb}
use borrow.Author.Tests.{ltb-true, ltb-false}
use Rattle.rate_matching.specs.SubBlocks.{rows, dummies}
use Rattle.rate_matching.specs.Circle.{circle_length}
use Rattle.rate_matching.specs.Units.{unit_start, unit_of}

-- K = D − 4 is a multiple of 8: there are dummies, and a row
pub some_dummies : (D : ℕ) → D % 8 ≡ 4 → 0 < dummies D
unfolding dummies rows
some_dummies D e = omega arith

pub rows_some : (D : ℕ) → D % 8 ≡ 4 → 0 < rows D
unfolding rows
rows_some D e = omega arith

-- ---- one unit after another

module _ (R u : ℕ) where
  pub low_start : u < 32 → unit_start R u ≡ u * R
  unfolding unit_start
  low_start h = let z : u - 32 ≡ 0 = omega arith in rw z (omega arith)

  pub low_next : u < 32 → unit_start R (u + 1) ≡ unit_start R u + R
  unfolding unit_start
  low_next h = let z : u - 32 ≡ 0 = omega arith in let y : u + 1 - 32 ≡ 0 = omega arith in rw (z, y) (omega arith)

  pub high_start : 32 ≤ u → unit_start R u ≡ 32 * R + (u - 32) * (2 * R)
  unfolding unit_start
  high_start h = let z : u + (u - 32) ≡ 32 + 2 * (u - 32) = omega arith in rw z (omega arith)

  pub high_next : 32 ≤ u → unit_start R (u + 1) ≡ unit_start R u + 2 * R
  unfolding unit_start
  high_next h = let z : u + 1 + (u + 1 - 32) ≡ u + (u - 32) + 2 = omega arith in rw z (omega arith)

pub starts_rise : (R u to : ℕ) → u ≤ to → unit_start R u ≤ unit_start R to
unfolding unit_start
starts_rise R u to h = mul-le-mul_left R (omega arith)

pub unit_last : (R : ℕ) → unit_start R 64 ≡ circle_length R
unfolding unit_start circle_length
unit_last R = omega arith

-- ---- the turn

-- place R·(2·m + 2) is the head of a unit
pub unit_of_lem : (R m : ℕ) → unit_start R (unit_of m) ≡ R * (2 * m + 2)
unfolding unit_start unit_of
unit_of_lem R m = go (ltb m 15) refl
  where
    go : (t : Bool) → ltb m 15 ≡ t → R * (cond t (2 * m + 2) (m + 17) + (cond t (2 * m + 2) (m + 17) - 32)) ≡ R * (2 * m + 2)
    go true z = ap (λ (n : ℕ). R * n) (omega (arith, ltb-true m 15 z))
    go false z = ap (λ (n : ℕ). R * n) (omega (arith, ltb-false m 15 z))
