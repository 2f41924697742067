-- Π(i) = (f1·i + f2·i²) mod K is a rearrangement of 0 .. K - 1 where f1 shares no factor with K and K divides a power of f2.
-- Assumes nothing.
use mathlib.Core.Path.{◌≡◌, sym, ◌∙◌, ap}
use Prim.Native.Nat.{ℕ, zero, suc, ◌+◌, ◌*◌, ◌-◌, ◌%◌, ◌^◌, ◌≤◌, ◌<◌, ◌∣◌}
use native.Mathlib.Nat.{dvd-add_iff_right, dvd-mul_left_of_dvd, dvd-mul_right_of_dvd, dvd_of_mod-eq-zero, mod-lt, mul-one, pow-zero, pow-suc}
use native.Mathlib.Decide.{dec_le}
use native.Mathlib.Omega.{arith}
use Rattle.interleaver.specs.Place.{quadratic}
use Rattle.interleaver.specs.Rearrangement.{Rearrangement}
use Rattle.interleaver.proofs.Divides.{gcd, dvd_cancel, mod_eq_dvd, dvd_small}
use Rattle.interleaver.proofs.Pigeonhole.{onto}

module _ (fuel K f1 f2 : ℕ) (coprime : gcd fuel f1 K ≡ 1) where
  -- K divides d where it divides d (f1 + f2 t) and d f2^m
  lowered : (d t m : ℕ) → K ∣ d * (f1 + f2 * t) → K ∣ d * f2 ^ m → K ∣ d
  lowered d t zero all h = rw (pow-zero, mul-one) at h
  lowered d t (suc m) all h =
      let split : d * f2 ^ suc m * t + d * f2 ^ m * f1 ≡ d * (f1 + f2 * t) * f2 ^ m = rw pow-suc (omega arith) in
      let both : K ∣ d * f2 ^ suc m * t + d * f2 ^ m * f1 = rw split (dvd-mul_right_of_dvd K all (f2 ^ m)) in
      let one : K ∣ d * f2 ^ m * f1 = (dvd-add_iff_right K (dvd-mul_right_of_dvd K h t)).1 both in
      lowered d t m all (dvd_cancel fuel K (d * f2 ^ m) f1 coprime one)

  module _ (m : ℕ) (power : f2 ^ m % K ≡ 0) where
    -- two places d apart that are read alike are one
    apart : (i d : ℕ) → i + d < K → quadratic K f1 f2 i ≡ quadratic K f1 f2 (i + d) → d ≡ 0
    unfolding quadratic
    apart i d h e =
        let a : ℕ = f1 * i + f2 * (i * i) in
        let b : ℕ = f1 * (i + d) + f2 * ((i + d) * (i + d)) in
        let split : b - a ≡ d * (f1 + f2 * (i + d + i)) = omega arith in
        let all : K ∣ d * (f1 + f2 * (i + d + i)) = rw split at (mod_eq_dvd a b K e) in
        dvd_small K d (lowered d (i + d + i) m all (dvd-mul_left_of_dvd K (dvd_of_mod-eq-zero K power) d)) (omega arith)

    one_to_one : (i j : ℕ) → i < K → j < K → quadratic K f1 f2 i ≡ quadratic K f1 f2 j → i ≡ j
    one_to_one i j hi hj e = elim (dec_le i j) [ yes h ↦ ordered i j h hj e | no h ↦ sym (ordered j i (omega arith) hi (sym e)) ]
      where
        ordered : (x y : ℕ) → x ≤ y → y < K → quadratic K f1 f2 x ≡ quadratic K f1 f2 y → x ≡ y
        ordered x y h hy e' =
            let split : y ≡ x + (y - x) = omega arith in
            omega (arith, apart x (y - x) (omega arith) (e' ∙ ap (quadratic K f1 f2) split))

    pub quadratic_rearranges : Rearrangement K (quadratic K f1 f2)
    unfolding quadratic
    quadratic_rearranges = record {
      within = within;
      one_to_one = one_to_one;
      onto = onto K (quadratic K f1 f2) within one_to_one;
    }
      where
        within : (i : ℕ) → i < K → quadratic K f1 f2 i < K
        within i h = mod-lt (f1 * i + f2 * (i * i)) (omega arith)
