-- The loop over the heads below S that looks for a broken one, and what it says of each head where it finds none.
-- Assumes nothing.
use mathlib.Core.Path.{◌≡◌, refl, sym, ◌∙◌, ap}
use mathlib.Core.Bool.{Bool, true, false, ◌||◌}
use mathlib.Core.List.{List, [], ◌∷◌}
use Prim.Native.Nat.{ℕ, zero, suc, ◌+◌, ◌-◌, ◌≤◌, ◌<◌}
use native.Mathlib.Nat.{not-suc-le-zero, sub-zero}
use native.Mathlib.Numerals.{add-one}
use native.Mathlib.Omega.{arith}
use lib.ListN.{get_or, drop}
use Rattle.slots.specs.declared.Head.{Head}
use Rattle.slots.specs.State.{closed_head, broken, some_broken}
use Rattle.slots.proofs.Tests.{or_left, or_right}

-- no head, none broken
none_broken : (M n : ℕ) → some_broken M n [] ≡ false
unfolding some_broken
none_broken M zero = refl
none_broken M (suc n) = refl

pub closed_unbroken : (M : ℕ) → broken M closed_head ≡ false
unfolding broken closed_head
closed_unbroken M = refl

-- the head of slot i, then those after it
one_more : (M n i : ℕ) (hs : List Head) → some_broken M (suc n) (drop i hs) ≡ (broken M (get_or hs i closed_head) || some_broken M n (drop (suc i) hs))
unfolding some_broken
one_more M n zero [] = simp (closed_unbroken, none_broken)
one_more M n zero (h ∷ hs) = refl
one_more M n (suc i) [] = simp (closed_unbroken, none_broken)
one_more M n (suc i) (h ∷ hs) = one_more M n i hs

-- the heads before i are not broken: those from i on decide
pub record Looking (M S : ℕ) (hs : List Head) (i : ℕ) : Type 0 where
  pub within : i ≤ S
  pub rest : some_broken M S hs ≡ some_broken M (S - i) (drop i hs)

module _ {M S : ℕ} {hs : List Head} where
  pub start : Looking M S hs 0
  start = record { within = omega arith; rest = ap (λ (n : ℕ). some_broken M n hs) (sym (sub-zero S)) }

  turn : {i : ℕ} → i < S → Looking M S hs i → some_broken M S hs ≡ (broken M (get_or hs i closed_head) || some_broken M (S - (i + 1)) (drop (i + 1) hs))
  turn {i} h w = w.rest ∙ ap (λ (n : ℕ). some_broken M n (drop i hs)) one ∙ rw add-one (one_more M (S - suc i) i hs)
    where
      one : S - i ≡ suc (S - (i + 1))
      one = omega arith

  pub next : {i : ℕ} → i < S → broken M (get_or hs i closed_head) ≡ false → Looking M S hs i → Looking M S hs (i + 1)
  next {i} h e w = record { within = omega arith; rest = turn h w ∙ ap (λ (b : Bool). b || some_broken M (S - (i + 1)) (drop (i + 1) hs)) e }

  pub found : {i : ℕ} → i < S → broken M (get_or hs i closed_head) ≡ true → Looking M S hs i → some_broken M S hs ≡ true
  found {i} h e w = turn h w ∙ ap (λ (b : Bool). b || some_broken M (S - (i + 1)) (drop (i + 1) hs)) e

  pub finish : {i : ℕ} → S ≤ i → Looking M S hs i → some_broken M S hs ≡ false
  unfolding some_broken
  finish {i} h w = w.rest ∙ ap (λ (n : ℕ). some_broken M n (drop i hs)) none
    where
      none : S - i ≡ 0
      none = omega arith

-- none of the first n heads is broken, so the one at i is not
pub unbroken : (M n i : ℕ) (hs : List Head) → some_broken M n hs ≡ false → i < n → broken M (get_or hs i closed_head) ≡ false
unfolding some_broken
unbroken M zero i hs e h = absurd (not-suc-le-zero h)
unbroken M (suc n) i [] e h = simp closed_unbroken
unbroken M (suc n) zero (h ∷ hs) e l = or_left (broken M h) (some_broken M n hs) e
unbroken M (suc n) (suc i) (h ∷ hs) e l = unbroken M n i hs (or_right (broken M h) (some_broken M n hs) e) (omega arith)
