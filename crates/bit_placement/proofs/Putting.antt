-- Laws of values put at places as they come (`put_along`): places after one another, the values that count, and places of a front or of a part that is lent.
-- Assumes nothing.
use mathlib.Core.Path.{◌≡◌, refl, sym, ◌∙◌, ap}
use mathlib.Core.List.{List, [], ◌∷◌, ◌++◌, map}
use Prim.Native.Nat.{ℕ, zero, suc, ◌+◌, ◌≤◌, ◌<◌}
use native.Mathlib.Nat.{zero-add}
use native.Mathlib.Omega.{arith}
use lib.ListN.{length, get_or, take, drop, set, length-set, take-append-drop, get_or-append}
use lib.Seq.{length-take-le, set-append_left, get_or-append-add, drop-drop}
use borrow.Rule.Slice.PartMut.{mid_of, put_mid}
use Rattle.slots.specs.Putting.{Keeping, put_along}

set_append_right : {X : Type 0} (xs ys : List X) (i : ℕ) (x : X) → set (xs ++ ys) (length xs + i) x ≡ xs ++ set ys i x
set_append_right [] ys i x = ap (λ (k : ℕ). set ys k x) (zero-add i)
set_append_right {X} (y ∷ xs) ys i x = ap (λ (k : ℕ). set (y ∷ (xs ++ ys)) k x) next ∙ ap (λ (l : List X). y ∷ l) (set_append_right xs ys i x)
  where
    next : suc (length xs) + i ≡ suc (length xs + i)
    next = omega arith

module _ {X Y : Type 0} (how : Keeping X Y) where
  -- one value
  abbrev put : List X → ℕ → Y → List X
  put kept j w = set kept j (how.meets (get_or kept j how.none) w)

  -- values for some places, and then for others
  pub along_append : (js ks : List ℕ) (values : List Y) (kept : List X)
      → put_along how (js ++ ks) values kept ≡ put_along how ks (drop (length js) values) (put_along how js values kept)
  unfolding put_along
  along_append [] ks values kept = refl
  along_append (j ∷ js) ks values kept =
      along_append js ks (drop 1 values) kept'
      ∙ ap (λ (vs : List Y). put_along how ks vs (put_along how js (drop 1 values) kept')) (drop-drop (length js) 1 values ∙ ap (λ (n : ℕ). drop n values) one)
    where
      kept' : List X
      kept' = put kept j (get_or values 0 how.nothing)

      one : 1 + length js ≡ suc (length js)
      one = omega arith

  -- only as many values as there are places count
  pub along_few : (js : List ℕ) (n : ℕ) (values : List Y) (kept : List X) → length js ≤ n → put_along how js (take n values) kept ≡ put_along how js values kept
  unfolding put_along
  along_few [] n values kept h = refl
  along_few (j ∷ js) zero values kept h = absurd (omega arith)
  along_few (j ∷ js) (suc n) [] kept h = refl
  along_few (j ∷ js) (suc n) (w ∷ values) kept h = along_few js n values (put kept j w) (omega arith)

  -- places of a front leave what stands behind it
  pub along_front : (js : List ℕ) (values : List Y) (front rest : List X) → ((i : ℕ) → i < length js → get_or js i 0 < length front)
      → put_along how js values (front ++ rest) ≡ put_along how js values front ++ rest
  unfolding put_along
  along_front [] values front rest p = refl
  along_front (j ∷ js) values front rest p =
      ap (put_along how js (drop 1 values))
      (ap (λ (x : X). set (front ++ rest) j (how.meets x w)) (get_or-append front rest how.none j (p 0 (omega arith)))
      ∙ set-append_left front rest j (how.meets (get_or front j how.none) w) (p 0 (omega arith)))
      ∙ along_front js (drop 1 values) (put front j w) rest (λ i h. rw (length-set front j (how.meets (get_or front j how.none) w)) (p (suc i) (omega arith)))
    where
      w : Y
      w = get_or values 0 how.nothing

  -- places counted from the end of a list
  along_behind : (js : List ℕ) (values : List Y) (before list : List X) → put_along how (map (λ (j : ℕ). length before + j) js) values (before ++ list) ≡ before ++ put_along how js values list
  unfolding put_along
  along_behind [] values before list = refl
  along_behind (j ∷ js) values before list =
      ap (put_along how (map (λ (j : ℕ). length before + j) js) (drop 1 values))
      (ap (λ (x : X). set (before ++ list) (length before + j) (how.meets x w)) (get_or-append-add before list j how.none)
      ∙ set_append_right before list j (how.meets (get_or list j how.none) w))
      ∙ along_behind js (drop 1 values) before (put list j w)
    where
      w : Y
      w = get_or values 0 how.nothing

  -- ---- a part that is lent

  module _ (a k : ℕ) (xs : List X) (js : List ℕ) (values : List Y) (inside : (i : ℕ) → i < length js → get_or js i 0 < length (mid_of a k xs)) where
    -- its places are places of what stands from its first entry on
    pub along_part : put_mid a k xs (put_along how js values (mid_of a k xs)) ≡ take a xs ++ put_along how js values (drop a xs)
    along_part =
        ap (λ (l : List X). take a xs ++ l)
        (sym (along_front js values (mid_of a k xs) (drop k (drop a xs)) inside) ∙ ap (put_along how js values) (take-append-drop k (drop a xs)))

    -- or, counted from a on, of the whole
    pub along_in : a ≤ length xs → put_mid a k xs (put_along how js values (mid_of a k xs)) ≡ put_along how (map (λ (j : ℕ). a + j) js) values xs
    along_in h =
        along_part
        ∙ sym (along_behind js values (take a xs) (drop a xs))
        ∙ ap (λ (n : ℕ). put_along how (map (λ (j : ℕ). n + j) js) values (take a xs ++ drop a xs)) (length-take-le a xs h)
        ∙ ap (put_along how (map (λ (j : ℕ). a + j) js) values) (take-append-drop a xs)
