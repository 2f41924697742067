-- The entries that pass a test, by their indices: each that passes is kept and comes no later, only entries of the list are kept, and none stands twice where none did before.
-- Assumes nothing.
use mathlib.Core.Path.{◌≡◌, refl, sym, ◌∙◌, ap, subst}
use mathlib.Core.Bool.{Bool, true, false}
use mathlib.Core.List.{List, [], ◌∷◌}
use Prim.Native.Nat.{ℕ, zero, suc, ◌≤◌, ◌<◌}
use native.Mathlib.Nat.{suc_inj}
use native.Mathlib.Omega.{arith}
use lib.ListN.{length, get_or}
use Rattle.laws.specs.Lists.{keep}
use Rattle.rate_matching.specs.Walk.{Among, NoneTwice}

-- the list l, with x in front where the test passes
abbrev picked : Bool → ℕ → List ℕ → List ℕ
picked b x l = elim b [ true ↦ x ∷ l | false ↦ l ]

later : (b : Bool) (y : ℕ) (l : List ℕ) {x : ℕ} → Among x l → Among x (picked b y l)
later true y l f = (suc f.0, omega (arith, f.1), f.2)
later false y l f = f

-- x is one of the entries up to place i
abbrev pub Within : ℕ → ℕ → List ℕ → Type 0
Within x i l = (f : Among x l) × (f.0 ≤ i)

pub keep_finds : (p : ℕ → Bool) (xs : List ℕ) (i : ℕ) → i < length xs → p (get_or xs i 0) ≡ true → Within (get_or xs i 0) i (keep p xs)
unfolding keep
keep_finds p [] i h t = absurd (omega arith)
keep_finds p (x ∷ xs) zero h t = subst (λ (b : Bool). Within x 0 (picked b x (keep p xs))) (sym t) ((0, omega arith, refl), omega arith)
keep_finds p (x ∷ xs) (suc i) h t = go (p x) (keep_finds p xs i (omega arith) t)
  where
    go : (b : Bool) → Within (get_or xs i 0) i (keep p xs) → Within (get_or xs i 0) (suc i) (picked b x (keep p xs))
    go true f = ((suc f.0.0, omega (arith, f.0.1), f.0.2), omega (arith, f.1))
    go false f = (f.0, omega (arith, f.1))

pub keep_from : (p : ℕ → Bool) (xs : List ℕ) (i : ℕ) → i < length (keep p xs) → Among (get_or (keep p xs) i 0) xs
unfolding keep
keep_from p [] i h = absurd (omega arith)
keep_from p (x ∷ xs) i h = go (p x) (keep p xs) (keep_from p xs) i h
  where
    go : (b : Bool) (l : List ℕ) → ((i : ℕ) → i < length l → Among (get_or l i 0) xs) → (i : ℕ) → i < length (picked b x l) → Among (get_or (picked b x l) i 0) (x ∷ xs)
    go true l f zero h = (0, omega arith, refl)
    go true l f (suc i) h = later true x xs (f i (omega arith))
    go false l f i h = later true x xs (f i h)

pub keep_none_twice : (p : ℕ → Bool) (xs : List ℕ) → NoneTwice xs → NoneTwice (keep p xs)
unfolding keep
keep_none_twice p [] d = λ a b h k e. absurd (omega arith)
keep_none_twice p (x ∷ xs) d = go (p x) (keep p xs) (keep_from p xs) (keep_none_twice p xs after)
  where
    after : NoneTwice xs
    after a b h k e = suc_inj (d (suc a) (suc b) (omega arith) (omega arith) e)

    -- the first entry is not kept again
    once : {y : ℕ} → Among y xs → x ≡ y → ⊥
    once f e = let z : 0 ≡ suc f.0 = d 0 (suc f.0) (omega arith) (omega (arith, f.1)) (e ∙ sym f.2) in omega arith

    go : (t : Bool) (l : List ℕ) → ((i : ℕ) → i < length l → Among (get_or l i 0) xs) → NoneTwice l → NoneTwice (picked t x l)
    go true l f g zero zero h k e = refl
    go true l f g zero (suc b) h k e = absurd (once (f b (omega arith)) e)
    go true l f g (suc a) zero h k e = absurd (once (f a (omega arith)) (sym e))
    go true l f g (suc a) (suc b) h k e = ap suc (g a b (omega arith) (omega arith) e)
    go false l f g a b h k e = g a b h k e
