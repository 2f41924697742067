-- Sums f i + f (i + 1) + .. of 01's counts (`sum_from`): the loop that adds one term a turn, and sums by parts.
-- Assumes nothing.
use mathlib.Core.Path.{◌≡◌, refl, sym, ◌∙◌, ap}
use Prim.Native.Nat.{ℕ, zero, suc, ◌+◌, ◌-◌, ◌*◌, ◌≤◌, ◌<◌}
use native.Mathlib.Nat.{add-zero, zero-add, suc-add, sub-zero}
use native.Mathlib.Numerals.{add-one}
use native.Mathlib.Omega.{arith}
use Rattle.slots.specs.Circle.{sum_from}

-- of n terms, each at most `most`, those before i are added up
pub record Summing (f : ℕ → ℕ) (n most i sum : ℕ) : Type 0 where
  pub passed : i ≤ n
  pub few : sum ≤ i * most
  pub told : sum + sum_from f i (n - i) ≡ sum_from f 0 n

module _ {f : ℕ → ℕ} {n most : ℕ} where
  pub start : Summing f n most 0 0
  start = record { passed = omega arith; few = omega arith; told = omega (arith, ap (sum_from f 0) (sub-zero n)) }

  -- `sum += x; i += 1`
  pub next : {i sum x : ℕ} → i < n → x ≡ f i → x ≤ most → Summing f n most i sum → Summing f n most (i + 1) (sum + x)
  unfolding sum_from
  next {i} {sum} {x} h e l w = record {
    passed = omega arith;
    few = omega (arith, w.few);
    told = omega (arith, w.told, one);
  }
    where
      one : sum_from f i (n - i) ≡ f i + sum_from f (i + 1) (n - (i + 1))
      one = ap (sum_from f i) turns ∙ ap (λ (j : ℕ). f i + sum_from f j (n - (i + 1))) (sym (add-one i))
        where
          turns : n - i ≡ suc (n - (i + 1))
          turns = omega arith

  pub finish : {i sum : ℕ} → n ≤ i → Summing f n most i sum → sum ≡ sum_from f 0 n
  unfolding sum_from
  finish {i} {sum} h w = omega (arith, w.told, ap (sum_from f i) none)
    where
      none : n - i ≡ 0
      none = omega arith

-- ---- a sum by parts

pub sum_from_split : (f : ℕ → ℕ) (i m n : ℕ) → sum_from f i (m + n) ≡ sum_from f i m + sum_from f (i + m) n
unfolding sum_from
sum_from_split f i zero n = rw (zero-add n, add-zero i, zero-add (sum_from f i n))
sum_from_split f i (suc m) n = rw (suc-add m n, sum_from_split f (suc i) m n, next) (omega arith)
  where
    next : suc i + m ≡ i + suc m
    next = omega arith

-- one term more at the end
pub sum_from_last : (f : ℕ → ℕ) (i n : ℕ) → sum_from f i (n + 1) ≡ sum_from f i n + f (i + n)
unfolding sum_from
sum_from_last f i n = sum_from_split f i n 1 ∙ omega arith

-- two sums of as many terms
pub sum_from_add : (f g : ℕ → ℕ) (i n : ℕ) → sum_from (λ (k : ℕ). f k + g k) i n ≡ sum_from f i n + sum_from g i n
unfolding sum_from
sum_from_add f g i zero = refl
sum_from_add f g i (suc n) = rw (sum_from_add f g (suc i) n) (omega arith)

-- terms of 0 but for one
pub sum_from_zero : (f : ℕ → ℕ) (i n : ℕ) → ((k : ℕ) → i ≤ k → k < i + n → f k ≡ 0) → sum_from f i n ≡ 0
unfolding sum_from
sum_from_zero f i zero h = refl
sum_from_zero f i (suc n) h = rw (h i (omega arith) (omega arith), sum_from_zero f (suc i) n (λ k a b. h k (omega arith) (omega arith)))

pub sum_from_one : (f : ℕ → ℕ) (n c : ℕ) → c < n → ((k : ℕ) → k < n → (k ≡ c → ⊥) → f k ≡ 0) → sum_from f 0 n ≡ f c
unfolding sum_from
sum_from_one f n c h g =
    ap (sum_from f 0) whole
    ∙ sum_from_split f 0 c (suc (n - (c + 1)))
    ∙ rw (sum_from_zero f 0 c (λ k a b. g k (omega arith) (λ e. omega arith)), zero-add c, sum_from_zero f (suc c) (n - (c + 1)) (λ k a b. g k (omega arith) (λ e. omega arith)))
    (omega arith)
  where
    whole : n ≡ c + suc (n - (c + 1))
    whole = omega arith

-- runs of R terms, one after another
pub sum_from_runs : (g : ℕ → ℕ) (R n : ℕ) → sum_from (λ (c : ℕ). sum_from g (c * R) R) 0 n ≡ sum_from g 0 (n * R)
unfolding sum_from
sum_from_runs g R zero = ap (sum_from g 0) none
  where
    none : 0 ≡ 0 * R
    none = omega arith
sum_from_runs g R (suc n) =
    ap (sum_from (λ (c : ℕ). sum_from g (c * R) R) 0) (sym (add-one n))
    ∙ sum_from_last (λ (c : ℕ). sum_from g (c * R) R) 0 n
    ∙ rw (sum_from_runs g R n, zero-add n)
    (sym (sum_from_split g 0 (n * R) R ∙ ap (λ (i : ℕ). sum_from g 0 (n * R) + sum_from g i R) (zero-add (n * R))) ∙ ap (sum_from g 0) more)
  where
    more : n * R + R ≡ suc n * R
    more = omega arith
