-- Numbers with the same remainder: sums and remainders of them, and the difference modulo K.
-- Assumes nothing.
use mathlib.Core.Path.{◌≡◌, refl, sym, ◌∙◌, ap, ap₂}
use mathlib.Core.Bool.{Bool, true, false, cond}
use Prim.Native.Nat.{ℕ, ◌+◌, ◌-◌, ◌%◌, ◌≤◌, ◌<◌}
use native.Mathlib.Nat.{add-mod, add-mod_right, mod-mod}
use native.Mathlib.Omega.{arith}
use lib.Dec.{ltb}
use borrow.Author.Tests.{ltb-true, ltb-false}
use Rattle.interleaver.specs.inner.Quarters.{less}

pub record Alike (K a b : ℕ) : Type 0 where
  pub rest : a % K ≡ b % K

module _ {K : ℕ} where
  pub same : {a b : ℕ} → a ≡ b → Alike K a b
  same e = record { rest = ap (λ (n : ℕ). n % K) e }

  pub turned : {a b : ℕ} → Alike K a b → Alike K b a
  turned e = record { rest = sym e.rest }

  pub through : {a b c : ℕ} → Alike K a b → Alike K b c → Alike K a c
  through e f = record { rest = e.rest ∙ f.rest }

  pub sum : {a a' b b' : ℕ} → Alike K a a' → Alike K b b' → Alike K (a + b) (a' + b')
  sum {a} {a'} {b} {b'} e f = record { rest = add-mod a b K ∙ ap₂ (λ (x y : ℕ). (x + y) % K) e.rest f.rest ∙ sym (add-mod a' b' K) }

  pub remainder : {m a : ℕ} → m ≡ a % K → Alike K m a
  remainder {m} {a} e = record { rest = ap (λ (n : ℕ). n % K) e ∙ mod-mod a K }

-- ---- the difference

module _ (K x y : ℕ) where
  by_cases : (P : ℕ → Type 0) → (x < y → P (x + K - y)) → (y ≤ x → P (x - y)) → P (less K x y)
  unfolding less
  by_cases P a b = go (ltb x y) refl
    where
      go : (t : Bool) → ltb x y ≡ t → P (cond {A = ℕ} t (x + K - y) (x - y))
      go true e = a (ltb-true x y e)
      go false e = b (ltb-false x y e)

  pub less_sum : y ≤ K → Alike K (less K x y + y) x
  less_sum h = by_cases (λ (r : ℕ). Alike K (r + y) x) wraps (λ l. same (omega arith))
    where
      wraps : x < y → Alike K (x + K - y + y) x
      wraps l = let e : x + K - y + y ≡ x + K = omega arith in through (same e) (record { rest = add-mod_right x K })

  pub less_lt : x < K → less K x y < K
  less_lt h = by_cases (λ (r : ℕ). r < K) (λ l. omega arith) (λ l. omega arith)

  pub less_le : x ≤ K → less K x y ≤ K
  less_le h = by_cases (λ (r : ℕ). r ≤ K) (λ l. omega arith) (λ l. omega arith)
