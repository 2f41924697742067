-- Laws of the entries that pass a test (`keep`): one entry, joined lists, length, what each kept entry is.
-- Assumes nothing.
use mathlib.Core.Path.{◌≡◌, refl, ap, ap₂}
use mathlib.Core.Bool.{Bool, true, false}
use mathlib.Core.List.{List, [], ◌∷◌, ◌++◌}
use Prim.Native.Nat.{ℕ, zero, suc, ◌≤◌, ◌<◌}
use native.Mathlib.Nat.{not-suc-le-zero, le_of_suc-le-suc}
use native.Mathlib.Omega.{arith}
use lib.ListN.{length, get_or}
use Rattle.laws.specs.Lists.{keep}

-- the list l, with x in front where the test passes
abbrev picked : Bool → ℕ → List ℕ → List ℕ
picked b x l = elim b [ true ↦ x ∷ l | false ↦ l ]

pub keep_yes : (p : ℕ → Bool) (x : ℕ) (xs : List ℕ) → p x ≡ true → keep p (x ∷ xs) ≡ x ∷ keep p xs
unfolding keep
keep_yes p x xs e = ap (λ (b : Bool). picked b x (keep p xs)) e

pub keep_no : (p : ℕ → Bool) (x : ℕ) (xs : List ℕ) → p x ≡ false → keep p (x ∷ xs) ≡ keep p xs
unfolding keep
keep_no p x xs e = ap (λ (b : Bool). picked b x (keep p xs)) e

pub keep_append : (p : ℕ → Bool) (xs ys : List ℕ) → keep p (xs ++ ys) ≡ keep p xs ++ keep p ys
unfolding keep
keep_append p [] ys = refl
keep_append p (x ∷ xs) ys = go (p x) (keep p xs) (keep p ys) (keep_append p xs ys)
  where
    go : (b : Bool) {l : List ℕ} (r s : List ℕ) → l ≡ r ++ s → picked b x l ≡ picked b x r ++ s
    go true r s e = ap (λ (l : List ℕ). x ∷ l) e
    go false r s e = e

pub length_keep : (p : ℕ → Bool) (xs : List ℕ) → length (keep p xs) ≤ length xs
unfolding keep
length_keep p [] = omega arith
length_keep p (x ∷ xs) = go (p x) (keep p xs) (length_keep p xs)
  where
    go : (b : Bool) (l : List ℕ) → length l ≤ length xs → length (picked b x l) ≤ suc (length xs)
    go true l h = omega arith
    go false l h = omega arith

-- each kept entry passes the test
pub keep_passes : (p : ℕ → Bool) (xs : List ℕ) (i d : ℕ) → i < length (keep p xs) → p (get_or (keep p xs) i d) ≡ true
unfolding keep
keep_passes p [] i d h = absurd (not-suc-le-zero h)
keep_passes p (x ∷ xs) i d h = go (p x) refl (keep p xs) (λ j l. keep_passes p xs j d l) i h
  where
    go : (b : Bool) → p x ≡ b → (l : List ℕ) → ((j : ℕ) → j < length l → p (get_or l j d) ≡ true)
        → (i : ℕ) → i < length (picked b x l) → p (get_or (picked b x l) i d) ≡ true
    go true e l f zero h = e
    go true e l f (suc i) h = f i (le_of_suc-le-suc h)
    go false e l f i h = f i h

-- two tests that agree on the list's entries
pub keep_ext : (p q : ℕ → Bool) (xs : List ℕ) → ((i : ℕ) → i < length xs → p (get_or xs i 0) ≡ q (get_or xs i 0)) → keep p xs ≡ keep q xs
unfolding keep
keep_ext p q [] h = refl
keep_ext p q (x ∷ xs) h = ap₂ (λ (b : Bool) (l : List ℕ). picked b x l) (h 0 (omega arith)) (keep_ext p q xs (λ i l. h (suc i) (omega arith)))

-- a test that each entry passes
pub keep_all : (p : ℕ → Bool) (xs : List ℕ) → ((i : ℕ) → i < length xs → p (get_or xs i 0) ≡ true) → keep p xs ≡ xs
unfolding keep
keep_all p [] h = refl
keep_all p (x ∷ xs) h = ap₂ (λ (b : Bool) (l : List ℕ). picked b x l) (h 0 (omega arith)) (keep_all p xs (λ i l. h (suc i) (omega arith)))

-- a test that no entry passes
pub keep_none : (p : ℕ → Bool) (xs : List ℕ) → ((i : ℕ) → i < length xs → p (get_or xs i 0) ≡ false) → keep p xs ≡ []
unfolding keep
keep_none p [] h = refl
keep_none p (x ∷ xs) h = ap₂ (λ (b : Bool) (l : List ℕ). picked b x l) (h 0 (omega arith)) (keep_none p xs (λ i l. h (suc i) (omega arith)))
