-- Laws of a number in decimal (`decimal_of`): it is what the fewest digits give, and a number below 2 ^ 64 takes 20 at most.
-- Assumes nothing.
use mathlib.Core.Path.{◌≡◌, refl, ◌∙◌, ap}
use mathlib.Core.Bool.{Bool, true, false}
use mathlib.Core.List.{[], ◌∷◌}
use Prim.Native.Nat.{ℕ, zero, suc, ◌+◌, ◌-◌, ◌/◌, ◌%◌, ◌^◌, ◌≤◌, ◌<◌}
use native.Mathlib.Nat.{pow-suc, pow-le-pow_right, le_trans, le_antisymm}
use native.Mathlib.Numerals.{add-one, sub-one}
use native.Mathlib.Omega.{arith}
use lib.Dec.{ltb, lit<}
use lib.ListN.{length, length-append}
use borrow.Author.Tests.{ltb-true, ltb-false}
use Rattle.lines.specs.Digits.{last_digits, hex_digit_ascii, IsDigitCount}
use Rattle.lines.specs.Row.{places_in, decimal_of}

pub length_digits : (b k n : ℕ) → length (last_digits b k n) ≡ k
length_digits b zero n = refl
length_digits b (suc k) n = length-append (last_digits b k (n / b)) (hex_digit_ascii (n % b) ∷ []) ∙ ap (λ (m : ℕ). m + 1) (length_digits b k (n / b)) ∙ add-one k

-- of two numbers of digits that are the fewest, neither is less
not_fewer : (n j k : ℕ) → IsDigitCount 10 1 n j → IsDigitCount 10 1 n k → j < k → ⊥
not_fewer n j k f g h = omega (arith, f.1, low)
  where
    low : 10 ^ j ≤ n
    low =
        let less : j ≤ k - 1 = omega arith in
        le_trans (pow-le-pow_right (lit< tt) less) (g.2 (omega (arith, f.0)))

fewest_same : (n j k : ℕ) → IsDigitCount 10 1 n j → IsDigitCount 10 1 n k → j ≡ k
fewest_same n j k f g = le_antisymm (not_lt (not_fewer n k j g f)) (not_lt (not_fewer n j k f g))
  where
    not_lt : {a b : ℕ} → (b < a → ⊥) → a ≤ b
    not_lt h = omega arith

fewest_one : (n : ℕ) → n < 10 → IsDigitCount 10 1 n 1
fewest_one n h = (omega arith, omega arith, λ (l : 1 < 1). absurd (none l))
  where
    none : 1 < 1 → ⊥
    none l = omega arith

fewest_more : (n k : ℕ) → 10 ≤ n → IsDigitCount 10 1 (n / 10) k → IsDigitCount 10 1 n (suc k)
fewest_more n zero h f = absurd (none f.0)
  where
    none : 1 ≤ 0 → ⊥
    none l = omega arith
fewest_more n (suc zero) h f = (omega arith, omega (arith, f.1), λ (l : 1 < 2). h)
fewest_more n (suc (suc k)) h f = (omega arith, rw (pow-suc 10 (suc (suc k))) (omega (arith, f.1)), λ (l : 1 < suc (suc (suc k))). rw sub-one low)
  where
    had : 10 ^ suc k ≤ n / 10
    had = rw sub-one at (f.2 (omega arith))

    low : 10 ^ suc (suc k) ≤ n
    low = rw (pow-suc 10 (suc k)) (omega (arith, had))

pub places_fewest : (t n : ℕ) → n ≤ t → IsDigitCount 10 1 n (places_in t n)
unfolding places_in
places_fewest zero n h = fewest_one n (omega arith)
places_fewest (suc t) n h = go (ltb n 10) refl (λ (l : n / 10 ≤ t). places_fewest t (n / 10) l)
  where
    go : (b : Bool) → ltb n 10 ≡ b → (n / 10 ≤ t → IsDigitCount 10 1 (n / 10) (places_in t (n / 10))) → IsDigitCount 10 1 n (elim b [ true ↦ 1 | false ↦ suc (places_in t (n / 10)) ])
    go true e rest = fewest_one n (ltb-true n 10 e)
    go false e rest = let ten : 10 ≤ n = ltb-false n 10 e in fewest_more n (places_in t (n / 10)) ten (rest (omega arith))

-- what the fewest digits give
pub decimal_is : (n k : ℕ) → IsDigitCount 10 1 n k → last_digits 10 k n ≡ decimal_of n
unfolding decimal_of
decimal_is n k f = ap (λ (j : ℕ). last_digits 10 j n) (fewest_same n k (places_in n n) f (places_fewest n n (omega arith)))

pub decimal_length : (n : ℕ) → n < 2 ^ 64 → length (decimal_of n) ≤ 20
unfolding decimal_of
decimal_length n h = rw (length_digits 10 (places_in n n) n) (at_most (places_in n n) (places_fewest n n (omega arith)))
  where
    at_most : (k : ℕ) → IsDigitCount 10 1 n k → k ≤ 20
    at_most k f = not_lt (λ (l : 20 < k). too_many l)
      where
        not_lt : (20 < k → ⊥) → k ≤ 20
        not_lt g = omega arith

        too_many : 20 < k → ⊥
        too_many l =
            let less : 20 ≤ k - 1 = omega arith in
            let up : 10 ^ 20 ≤ 10 ^ (k - 1) = pow-le-pow_right (lit< tt) less in
            omega (arith, f.2 (omega arith))
