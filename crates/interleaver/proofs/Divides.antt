-- Divisibility: the greatest common divisor by Euclid with fuel, factors that share nothing with a modulus, and equal remainders.
-- Assumes nothing.
use mathlib.Core.Path.{◌≡◌, ap}
use Prim.Native.Nat.{ℕ, zero, suc, ◌+◌, ◌*◌, ◌-◌, ◌/◌, ◌%◌, ◌<◌, ◌∣◌}
use native.Mathlib.Nat.{div-add-mod, dvd-add_iff_right, dvd-mul_left, dvd-mul_right, dvd-mul_right_of_dvd, dvd-sub, eq-zero-or-pos, le_of_dvd, mul-one}
use native.Mathlib.Omega.{arith}
use mathlib.Core.Logic.{⊎_elim}

-- Euclid's algorithm on a and b, in at most fuel steps
abbrev pub gcd : ℕ → ℕ → ℕ → ℕ
gcd zero a b = a
gcd (suc fuel) a zero = a
gcd (suc fuel) a (suc b) = gcd fuel (suc b) (a % suc b)

-- k divides d * (a % b) where it divides d * a and d * b
mod_step : (k d a b : ℕ) → k ∣ d * a → k ∣ d * b → k ∣ d * (a % b)
mod_step k d a b ha hb =
    let split : d * b * (a / b) + d * (a % b) ≡ d * a = omega (arith, ap (λ (n : ℕ). d * n) (div-add-mod a b)) in
    (dvd-add_iff_right k (dvd-mul_right_of_dvd k hb (a / b))).1 (rw split ha)

-- k divides d * gcd a b where it divides d * a and d * b
pub dvd_gcd : (fuel k d a b : ℕ) → k ∣ d * a → k ∣ d * b → k ∣ d * gcd fuel a b
dvd_gcd zero k d a b ha hb = ha
dvd_gcd (suc fuel) k d a zero ha hb = ha
dvd_gcd (suc fuel) k d a (suc b) ha hb = dvd_gcd fuel k d (suc b) (a % suc b) hb (mod_step k d a (suc b) ha hb)

-- a factor that shares nothing with k can be taken away
pub dvd_cancel : (fuel k d a : ℕ) → gcd fuel a k ≡ 1 → k ∣ d * a → k ∣ d
dvd_cancel fuel k d a one h =
    let g : k ∣ d * gcd fuel a k = dvd_gcd fuel k d a k h (dvd-mul_left k d) in
    rw (one, mul-one) at g

-- equal remainders: the modulus divides the difference
pub mod_eq_dvd : (a b k : ℕ) → a % k ≡ b % k → k ∣ b - a
mod_eq_dvd a b k e =
    let split : b - a ≡ k * (b / k) - k * (a / k) = omega (arith, div-add-mod a k, div-add-mod b k) in
    rw split (dvd-sub k (dvd-mul_right k (b / k)) (dvd-mul_right k (a / k)))

-- what is below k and divided by k is 0
pub dvd_small : (k d : ℕ) → k ∣ d → d < k → d ≡ 0
dvd_small k d h lt = ⊎_elim (λ (z : d ≡ 0). z) (λ (p : 0 < d). omega (arith, le_of_dvd p h)) (eq-zero-or-pos d)
