-- Laws of a list's entries under a function (`map`): functions that agree on them, and the entries that pass a test (`keep`).
-- Assumes nothing.
use mathlib.Core.Path.{◌≡◌, refl, ap, ap₂}
use mathlib.Core.Bool.{Bool, true, false}
use mathlib.Core.List.{List, [], ◌∷◌, map}
use Prim.Native.Nat.{ℕ, suc, ◌<◌}
use native.Mathlib.Omega.{arith}
use lib.ListN.{length, get_or}
use Rattle.laws.specs.Lists.{keep}

pub map_ext : (f g : ℕ → ℕ) (l : List ℕ) → ((i : ℕ) → i < length l → f (get_or l i 0) ≡ g (get_or l i 0)) → map f l ≡ map g l
map_ext f g [] h = refl
map_ext f g (x ∷ l) h = ap₂ (λ (y : ℕ) (m : List ℕ). y ∷ m) (h 0 (omega arith)) (map_ext f g l (λ i k. h (suc i) (omega arith)))

-- what passes a test after f is what passes the test of f, under f
pub keep_map : (p : ℕ → Bool) (f : ℕ → ℕ) (l : List ℕ) → keep p (map f l) ≡ map f (keep (λ (x : ℕ). p (f x)) l)
unfolding keep
keep_map p f [] = refl
keep_map p f (x ∷ l) = go (p (f x)) (keep_map p f l)
  where
    go : (b : Bool) {m : List ℕ} → m ≡ map f (keep (λ (y : ℕ). p (f y)) l)
        → ◌≡◌ {A = List ℕ} (elim b [ true ↦ f x ∷ m | false ↦ m ]) (map f (elim b [ true ↦ x ∷ keep (λ (y : ℕ). p (f y)) l | false ↦ keep (λ (y : ℕ). p (f y)) l ]))
    go true e = ap (λ (r : List ℕ). f x ∷ r) e
    go false e = e
