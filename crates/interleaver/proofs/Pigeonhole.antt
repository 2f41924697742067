-- A one-to-one map of 0 .. n - 1 into 0 .. m - 1 shows that n is at most m, and one into itself is onto.
-- Assumes nothing.
use mathlib.Core.Path.{◌≡◌}
use mathlib.Core.Logic.{◌≢◌, ◌⊎◌, inl, inr, ⊎_elim}
use Prim.Native.Nat.{ℕ, zero, suc, ◌+◌, ◌-◌, min, ◌≤◌, ◌<◌}
use borrow.Author.Count.{below_more}
use native.Mathlib.Decide.{dec_lt, ℕ_discrete}
use native.Mathlib.Omega.{arith}

-- f takes the numbers below n to numbers below m
abbrev pub Into : ℕ → ℕ → (ℕ → ℕ) → Type 0
Into n m f = (i : ℕ) → i < n → f i < m

-- f takes no two numbers below n to one
abbrev pub OneToOne : ℕ → (ℕ → ℕ) → Type 0
OneToOne n f = (i j : ℕ) → i < n → j < n → f i ≡ f j → i ≡ j

-- x, with the numbers above v moved down by one
abbrev closed : ℕ → ℕ → ℕ
closed v x = x - min 1 (x - v)

closing : (v x : ℕ) → x ≢ v → ((x < v) × (closed v x ≡ x)) ⊎ ((v < x) × (closed v x + 1 ≡ x))
closing v x ne = elim (dec_lt x v) [ yes h ↦ inl (h, omega arith) | no h ↦ inr (omega arith, omega arith) ]

closed_lt : (v x m : ℕ) → x ≢ v → x < suc m → v < suc m → closed v x < m
closed_lt v x m ne hx hv = ⊎_elim (λ w. omega arith) (λ w. omega arith) (closing v x ne)

closed_inj : (v x y : ℕ) → x ≢ v → y ≢ v → closed v x ≡ closed v y → x ≡ y
closed_inj v x y nx ny e = ⊎_elim
    (λ w. ⊎_elim (λ u. omega arith) (λ u. omega arith) (closing v y ny))
    (λ w. ⊎_elim (λ u. omega arith) (λ u. omega arith) (closing v y ny))
    (closing v x nx)

-- there is no one-to-one map of 0 .. m into 0 .. m - 1
no_room : (m : ℕ) (f : ℕ → ℕ) → Into (suc m) m f → OneToOne (suc m) f → ⊥
no_room zero f into one = omega (arith, into 0 (omega arith))
no_room (suc m) f into one =
    no_room m (λ i. closed (f (suc m)) (f i))
    (λ i h. closed_lt (f (suc m)) (f i) m (other i h) (into i (omega arith)) (into (suc m) (omega arith)))
    (λ i j hi hj e. one i j (omega arith) (omega arith) (closed_inj (f (suc m)) (f i) (f j) (other i hi) (other j hj) e))
  where
    other : (i : ℕ) → i < suc m → f i ≢ f (suc m)
    other i h e = omega (arith, one i (suc m) (omega arith) (omega arith) e)

pub no_more : (n m : ℕ) (f : ℕ → ℕ) → Into n m f → OneToOne n f → n ≤ m
no_more n m f into one = elim (dec_lt m n) [
  | yes h ↦ absurd (no_room m f (λ i l. into i (omega arith)) (λ i j hi hj e. one i j (omega arith) (omega arith) e))
  | no h ↦ omega arith
]

-- j is met below n, or not
find : (n : ℕ) (f : ℕ → ℕ) (j : ℕ) → ((i : ℕ) × (i < n) × (f i ≡ j)) ⊎ ((i : ℕ) → i < n → f i ≢ j)
find zero f j = inr (λ i h. omega arith)
find (suc n) f j = elim (ℕ_discrete (f n) j) [
  | yes e ↦ inl (n, omega arith, e)
  | no e ↦ ⊎_elim (λ w. inl (w.0, omega arith, w.2)) (λ w. inr (λ i h. below_more (λ k. f k ≢ j) n w e i (omega arith))) (find n f j)
]

pub onto : (n : ℕ) (f : ℕ → ℕ) → Into n n f → OneToOne n f → (j : ℕ) → j < n → (i : ℕ) × (i < n) × (f i ≡ j)
onto zero f into one j h = absurd (omega arith)
onto (suc m) f into one j h = ⊎_elim (λ w. w)
    (λ missed. absurd (no_room m (λ i. closed j (f i))
    (λ i hi. closed_lt j (f i) m (missed i hi) (into i hi) h)
    (λ i k hi hk e. one i k hi hk (closed_inj j (f i) (f k) (missed i hi) (missed k hk) e))))
    (find (suc m) f j)
