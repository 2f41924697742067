-- Laws of the first number of which a test is true (`first_from`): it goes by the test, the test is true of it and of none before, and one number more.
-- Assumes nothing.
use mathlib.Core.Path.{◌≡◌, refl, sym, ◌∙◌, ap, ap₂, subst}
use mathlib.Core.Bool.{Bool, true, false, cond, not, ◌&&◌}
use Prim.Native.Nat.{ℕ, zero, suc, ◌+◌, ◌≤◌, ◌<◌}
use native.Mathlib.Nat.{add-zero, zero-add}
use native.Mathlib.Numerals.{add-one}
use native.Mathlib.Decide.{ℕ_discrete}
use native.Mathlib.Omega.{arith}
use lib.Dec.{eqb}
use borrow.Author.Tests.{eq-eqb, ne_eqb}
use Rattle.slots.specs.Reading.{first_from}

-- f and g agree on the numbers
pub first_from_ext : (f g : ℕ → Bool) (i n : ℕ) → ((k : ℕ) → i ≤ k → k < i + n → f k ≡ g k) → first_from f i n ≡ first_from g i n
unfolding first_from
first_from_ext f g i zero h = refl
first_from_ext f g i (suc n) h =
    ap₂ (λ (b : Bool) (k : ℕ). cond b i k) (h i (omega arith) (omega arith)) (first_from_ext f g (suc i) n (λ k a b. h k (omega arith) (omega arith)))

-- it is one of the numbers, or the one after them
pub first_from_least : (f : ℕ → Bool) (i n : ℕ) → i ≤ first_from f i n
unfolding first_from
first_from_least f i zero = omega arith
first_from_least f i (suc n) = go (f i) (first_from_least f (suc i) n)
  where
    go : (b : Bool) → suc i ≤ first_from f (suc i) n → i ≤ cond b i (first_from f (suc i) n)
    go true h = omega arith
    go false h = omega arith

pub first_from_most : (f : ℕ → Bool) (i n : ℕ) → first_from f i n ≤ i + n
unfolding first_from
first_from_most f i zero = omega arith
first_from_most f i (suc n) = go (f i) (first_from_most f (suc i) n)
  where
    go : (b : Bool) → first_from f (suc i) n ≤ suc i + n → cond b i (first_from f (suc i) n) ≤ i + suc n
    go true h = omega arith
    go false h = omega arith

-- the test is false before it
pub first_from_before : (f : ℕ → Bool) (i n k : ℕ) → i ≤ k → k < first_from f i n → f k ≡ false
unfolding first_from
first_from_before f i zero k l h = absurd (omega arith)
first_from_before f i (suc n) k l h = go (f i) refl h (first_from_before f (suc i) n k)
  where
    go : (b : Bool) → f i ≡ b → k < cond b i (first_from f (suc i) n) → (suc i ≤ k → k < first_from f (suc i) n → f k ≡ false) → f k ≡ false
    go true e h later = absurd (omega arith)
    go false e h later = elim (ℕ_discrete k i) [ yes same ↦ ap f same ∙ e | no other ↦ later (omega arith) h ]

-- and true of it, where it is one of the numbers
pub first_from_at : (f : ℕ → Bool) (i n : ℕ) → first_from f i n < i + n → f (first_from f i n) ≡ true
unfolding first_from
first_from_at f i zero h = absurd (omega arith)
first_from_at f i (suc n) h = go (f i) refl h (first_from_at f (suc i) n)
  where
    go : (b : Bool) → f i ≡ b → cond b i (first_from f (suc i) n) < i + suc n
        → (first_from f (suc i) n < suc i + n → f (first_from f (suc i) n) ≡ true) → f (cond b i (first_from f (suc i) n)) ≡ true
    go true e h later = e
    go false e h later = later (omega arith)

-- the test is false of all of them
pub first_from_none : (f : ℕ → Bool) (i n : ℕ) → ((k : ℕ) → i ≤ k → k < i + n → f k ≡ false) → first_from f i n ≡ i + n
unfolding first_from
first_from_none f i zero h = sym (add-zero i)
first_from_none f i (suc n) h =
    ap (λ (b : Bool). cond b i (first_from f (suc i) n)) (h i (omega arith) (omega arith))
    ∙ first_from_none f (suc i) n (λ k a b. h k (omega arith) (omega arith))
    ∙ omega arith

-- one number more: it is found there where none was before and the test is true of it
more_from : (f : ℕ → Bool) (i n : ℕ) → first_from f i (suc n) ≡ cond (eqb (first_from f i n) (i + n) && not (f (i + n))) (suc (i + n)) (first_from f i n)
unfolding first_from
more_from f i zero = rw add-zero (one (f i))
  where
    one : (b : Bool) → cond b i (suc i) ≡ cond (eqb i i && not b) (suc i) i
    one true = rw (eq-eqb i i refl)
    one false = rw (eq-eqb i i refl)
more_from f i (suc n) = go (f i) (more_from f (suc i) n)
  where
    next : suc i + n ≡ i + suc n
    next = omega arith

    Later : ℕ → Type 0
    Later m = first_from f (suc i) (suc n) ≡ cond (eqb (first_from f (suc i) n) m && not (f m)) (suc m) (first_from f (suc i) n)

    go : (b : Bool) → Later (suc i + n) → cond b i (first_from f (suc i) (suc n))
        ≡ cond (eqb (cond b i (first_from f (suc i) n)) (i + suc n) && not (f (i + suc n))) (suc (i + suc n)) (cond b i (first_from f (suc i) n))
    go true later = rw (ne_eqb i (i + suc n) (λ e. omega arith))
    go false later = subst Later next later

pub first_from_more : (f : ℕ → Bool) (n : ℕ) → first_from f 0 (n + 1) ≡ cond (eqb (first_from f 0 n) n && not (f n)) (n + 1) (first_from f 0 n)
first_from_more f n =
    rw add-one (subst (λ (m : ℕ). first_from f 0 (suc n) ≡ cond (eqb (first_from f 0 n) m && not (f m)) (suc m) (first_from f 0 n)) (zero-add n) (more_from f 0 n))
