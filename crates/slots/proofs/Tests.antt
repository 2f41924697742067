-- A test made of two by `||`: how code that stops at the first true one computes it, and what it says where it is false.
-- Assumes nothing.
use mathlib.Core.Path.{◌≡◌, refl}
use mathlib.Core.Bool.{Bool, true, false, ◌||◌, true≢false}
use Prim.Native.Nat.{ℕ, ◌≤◌, ◌<◌}
use native.Mathlib.Omega.{arith}
use borrow.Author.Tests.{ltb-false, eqb-false}
use lib.Dec.{eqb, ltb}

-- the first test is true and decides
pub or_first : {r x : Bool} (y : Bool) → r ≡ x → r ≡ true → r ≡ (x || y)
or_first y e t = rw (← e, t)

-- the first test is false, and the second decides
pub or_second : {r x s y : Bool} → r ≡ x → r ≡ false → s ≡ y → s ≡ (x || y)
or_second e f g = rw (← e, f) g

pub or_left : (a b : Bool) → (a || b) ≡ false → a ≡ false
or_left true b e = e
or_left false b e = refl

pub or_right : (a b : Bool) → (a || b) ≡ false → b ≡ false
or_right true b e = absurd (true≢false e)
or_right false b e = e

-- within 1 to most
pub inside : (x most : ℕ) → (eqb x 0 || ltb most x) ≡ false → (0 < x) × (x ≤ most)
inside x most e =
    let some : x ≡ 0 → ⊥ = eqb-false x 0 (or_left (eqb x 0) (ltb most x) e) in
    (omega arith, ltb-false most x (or_right (eqb x 0) (ltb most x) e))
