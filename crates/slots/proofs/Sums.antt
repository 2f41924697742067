-- Laws of the sums f i + f (i + 1) + .. of 01's counts (`sum_from`): they go by their terms, wherever those are counted from, and where a sum is 0 each term is.
-- Assumes nothing.
use mathlib.Core.Path.{◌≡◌, refl, ap, ap₂}
use Prim.Native.Nat.{ℕ, zero, suc, ◌+◌, ◌*◌, ◌≤◌, ◌<◌}
use native.Mathlib.Nat.{add-suc}
use native.Mathlib.Decide.{ℕ_discrete}
use native.Mathlib.Omega.{arith}
use Rattle.slots.specs.Circle.{sum_from}

-- no term, and one more
pub sum_from_done : (f : ℕ → ℕ) (i : ℕ) → sum_from f i 0 ≡ 0
unfolding sum_from
sum_from_done f i = refl

pub sum_from_more : (f : ℕ → ℕ) (i n : ℕ) → sum_from f i (suc n) ≡ f i + sum_from f (suc i) n
unfolding sum_from
sum_from_more f i n = refl

-- f and g agree on the terms
pub sum_from_ext : (f g : ℕ → ℕ) (i n : ℕ) → ((k : ℕ) → i ≤ k → k < i + n → f k ≡ g k) → sum_from f i n ≡ sum_from g i n
unfolding sum_from
sum_from_ext f g i zero h = refl
sum_from_ext f g i (suc n) h = ap₂ ◌+◌ (h i (omega arith) (omega arith)) (sum_from_ext f g (suc i) n (λ k a b. h k (omega arith) (omega arith)))

-- the terms counted from elsewhere
pub sum_from_shift : (i m n : ℕ) (f : ℕ → ℕ) → sum_from f (i + m) n ≡ sum_from (λ (k : ℕ). f (i + k)) m n
unfolding sum_from
sum_from_shift i m zero f = refl
sum_from_shift i m (suc n) f = ap (λ (x : ℕ). f (i + m) + x) (rw (← add-suc) (sum_from_shift i (suc m) n f))

-- n equal terms
pub sum_from_same : (c i n : ℕ) → sum_from (λ (k : ℕ). c) i n ≡ n * c
unfolding sum_from
sum_from_same c i zero = omega arith
sum_from_same c i (suc n) = rw (sum_from_same c (suc i) n) (omega arith)

-- n terms of at most 1
pub sum_from_most : (f : ℕ → ℕ) (i n : ℕ) → ((k : ℕ) → f k ≤ 1) → sum_from f i n ≤ n
unfolding sum_from
sum_from_most f i zero h = omega arith
sum_from_most f i (suc n) h = omega (arith, h i, sum_from_most f (suc i) n h)

-- a sum of nothing has no term
pub sum_from_none : (f : ℕ → ℕ) (i n : ℕ) → sum_from f i n ≡ 0 → (k : ℕ) → i ≤ k → k < i + n → f k ≡ 0
unfolding sum_from
sum_from_none f i zero e k l m = absurd (omega arith)
sum_from_none f i (suc n) e k l m = elim (ℕ_discrete k i) [
  | yes same ↦ rw same (omega arith)
  | no other ↦ sum_from_none f (suc i) n (omega arith) k (omega arith) (omega arith)
]
