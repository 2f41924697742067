-- Laws of a list whose entries each go through one function: parts, joins, an entry written, and a list that stays as it is.
-- Assumes nothing.
use mathlib.Core.Path.{◌≡◌, refl, ap, ap₂}
use mathlib.Core.List.{List, [], ◌∷◌, ◌++◌, map}
use Prim.Native.Nat.{ℕ, zero, suc}
use lib.ListN.{get_or, take, drop, set, replicate}

module _ (f : ℕ → ℕ) where
  pub map-append : (a b : List ℕ) → map f (a ++ b) ≡ map f a ++ map f b
  map-append [] b = refl
  map-append (x ∷ a) b = ap (λ (l : List ℕ). f x ∷ l) (map-append a b)

  pub map_take : (n : ℕ) (l : List ℕ) → map f (take n l) ≡ take n (map f l)
  map_take zero l = refl
  map_take (suc n) [] = refl
  map_take (suc n) (x ∷ l) = ap (λ (m : List ℕ). f x ∷ m) (map_take n l)

  pub map_drop : (n : ℕ) (l : List ℕ) → map f (drop n l) ≡ drop n (map f l)
  map_drop zero l = refl
  map_drop (suc n) [] = refl
  map_drop (suc n) (x ∷ l) = map_drop n l

  pub map_replicate : (n x : ℕ) → map f (replicate {A = ℕ} n x) ≡ replicate {A = ℕ} n (f x)
  map_replicate zero x = refl
  map_replicate (suc n) x = ap (λ (l : List ℕ). f x ∷ l) (map_replicate n x)

  pub map_set : (l : List ℕ) (i x : ℕ) → map f (set l i x) ≡ set (map f l) i (f x)
  map_set [] i x = refl
  map_set (y ∷ l) zero x = refl
  map_set (y ∷ l) (suc i) x = ap (λ (m : List ℕ). f y ∷ m) (map_set l i x)

  -- each entry stays
  pub map_same : (l : List ℕ) → ((i : ℕ) → f (get_or l i 0) ≡ get_or l i 0) → map f l ≡ l
  map_same [] h = refl
  map_same (x ∷ l) h = ap₂ ◌∷◌ (h 0) (map_same l (λ i. h (suc i)))

  -- twice is once
  pub map_twice : ((x : ℕ) → f (f x) ≡ f x) → (l : List ℕ) → map f (map f l) ≡ map f l
  map_twice h [] = refl
  map_twice h (x ∷ l) = ap₂ ◌∷◌ (h x) (map_twice h l)
