-- Π by counters: p + g and g + 2·f2, each modulo K, pass from Π(i) and the way to Π(i + 1) to those of i + 1.
-- Assumes nothing.
use mathlib.Core.Path.{◌≡◌, sym, ◌∙◌, ap, ap₂}
use Prim.Native.Nat.{ℕ, ◌+◌, ◌*◌, ◌%◌, ◌<◌}
use native.Mathlib.Nat.{add-mod, mod-lt, zero-mod}
use native.Mathlib.Omega.{arith}
use Rattle.interleaver.specs.Place.{quadratic}

-- p and g at turn i
pub record Counters (K f1 f2 i p g : ℕ) : Type 0 where
  pub place : p ≡ quadratic K f1 f2 i
  pub way : g ≡ (f1 + f2 * (i + i + 1)) % K
  pub within : p < K
  pub short : g < K

module _ (K f1 f2 : ℕ) (some : 0 < K) where
  pub start : Counters K f1 f2 0 0 ((f1 + f2) % K)
  unfolding quadratic
  start = record {
    place = sym (ap (λ (n : ℕ). n % K) none ∙ zero-mod K);
    way = ap (λ (n : ℕ). n % K) once;
    within = some;
    short = mod-lt (f1 + f2) some;
  }
    where
      none : f1 * 0 + f2 * (0 * 0) ≡ 0
      none = omega arith

      once : f1 + f2 ≡ f1 + f2 * (0 + 0 + 1)
      once = omega arith

  pub next : {i p g : ℕ} → Counters K f1 f2 i p g → Counters K f1 f2 (i + 1) ((p + g) % K) ((g + 2 * f2 % K) % K)
  unfolding quadratic
  next {i} {p} {g} c = record {
    place = ap (λ (n : ℕ). n % K) (ap₂ ◌+◌ c.place c.way) ∙ sym (add-mod (f1 * i + f2 * (i * i)) (f1 + f2 * (i + i + 1)) K) ∙ ap (λ (n : ℕ). n % K) on;
    way = ap (λ (n : ℕ). (n + 2 * f2 % K) % K) c.way ∙ sym (add-mod (f1 + f2 * (i + i + 1)) (2 * f2) K) ∙ ap (λ (n : ℕ). n % K) more;
    within = mod-lt (p + g) some;
    short = mod-lt (g + 2 * f2 % K) some;
  }
    where
      on : f1 * i + f2 * (i * i) + (f1 + f2 * (i + i + 1)) ≡ f1 * (i + 1) + f2 * ((i + 1) * (i + 1))
      on = omega arith

      more : f1 + f2 * (i + i + 1) + 2 * f2 ≡ f1 + f2 * (i + 1 + (i + 1) + 1)
      more = omega arith
