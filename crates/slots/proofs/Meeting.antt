-- How a bit meets what a place keeps, 02 E2: the rule in the request's words, and that bits may be brought together before they are put, in any order.
-- Assumes nothing.
use mathlib.Core.Path.{◌≡◌, refl, sym, ◌∙◌, ap}
use mathlib.Core.Bool.{Bool, true, false, cond, not, ◌||◌}
use Prim.Native.Nat.{ℕ, ◌<◌}
use native.Mathlib.Decide.{ℕ_discrete}
use native.Mathlib.Omega.{arith}
use borrow.Author.Tests.{lt-ltb, le-ltb, eq-eqb, ne_eqb}
use Rattle.slots.specs.Room.{unheard, disputed, has_value, is_decided, meet}

-- ---- what the values mean

-- a bit is decided; disputed and unheard are not, and count as lacking
pub decided_bit : (x : ℕ) → x < 2 → is_decided x ≡ true
unfolding is_decided
decided_bit x h = lt-ltb x 2 h

pub disputed_not : is_decided disputed ≡ false
unfolding is_decided
disputed_not = refl

pub unheard_not : is_decided unheard ≡ false
unfolding is_decided
unheard_not = refl

-- what Open writes has no value, nor has anything above 3
pub unheard_two : has_value unheard ≡ false
unfolding has_value
unheard_two = refl

pub unheard_above : (x : ℕ) → 3 < x → has_value x ≡ false
unfolding has_value
unheard_above x h = rw (ne_eqb x 2 (λ e. omega arith), lt-ltb 3 x h)

-- a bit has a value, and so has what is disputed
abbrev pub Known : ℕ → Type 0
Known x = has_value x ≡ true

pub known_bit : (x : ℕ) → x < 2 → Known x
unfolding has_value
known_bit x h = rw (ne_eqb x 2 (λ e. omega arith), le-ltb 3 x (omega arith))

pub known_disputed : Known disputed
unfolding has_value
known_disputed = refl

-- ---- what a bit leaves

-- on unheard it becomes the bit
pub meet_unheard : (old bit : ℕ) → has_value old ≡ false → meet old bit ≡ bit
unfolding meet
meet_unheard old bit h = rw h

-- on the same bit it stays
pub meet_same : (bit : ℕ) → meet bit bit ≡ bit
unfolding meet
meet_same bit = rw (eq-eqb bit bit refl) (go (not (has_value bit)))
  where
    go : (t : Bool) → cond (t || true) bit disputed ≡ bit
    go true = refl
    go false = refl

-- on the other bit it becomes disputed
pub meet_other : (old bit : ℕ) → Known old → (old ≡ bit → ⊥) → meet old bit ≡ disputed
unfolding meet
meet_other old bit h n = rw (h, ne_eqb old bit n)

-- a disputed place stays disputed, whatever comes
pub meet_disputed : (bit : ℕ) → meet disputed bit ≡ disputed
meet_disputed bit = elim (ℕ_discrete disputed bit) [
  | yes e ↦ ap (meet disputed) (sym e) ∙ meet_same disputed
  | no n ↦ meet_other disputed bit known_disputed n
]

-- ---- bits brought together

pub meet_known : (a b : ℕ) → Known a → Known b → Known (meet a b)
meet_known a b h g = elim (ℕ_discrete a b) [
  | yes e ↦ rw (← e, meet_same a) h
  | no n ↦ rw (meet_other a b h n) known_disputed
]

to_disputed : (v : ℕ) → Known v → meet v disputed ≡ disputed
to_disputed v h = elim (ℕ_discrete v disputed) [
  | yes e ↦ ap (λ (x : ℕ). meet x disputed) e ∙ meet_same disputed
  | no n ↦ meet_other v disputed h n
]

-- first with each other, and then with what is kept
pub meet_together : (v a b : ℕ) → Known a → meet v (meet a b) ≡ meet (meet v a) b
meet_together v a b h = go (has_value v) refl
  where
    both : Known v → meet v (meet a b) ≡ meet (meet v a) b
    both k = elim (ℕ_discrete v a) [
      | yes e ↦ elim (ℕ_discrete a b) [
        | yes f ↦ rw (e, ← f, meet_same a)
        | no n ↦ rw (e, meet_same a, meet_other a b h n) (to_disputed a h)
      ]
      | no n ↦ rw (meet_other v a k n, meet_disputed b) (elim (ℕ_discrete a b) [
        | yes f ↦ rw (← f, meet_same a) (meet_other v a k n)
        | no m ↦ rw (meet_other a b h m) (to_disputed v k)
      ])
    ]

    go : (t : Bool) → has_value v ≡ t → meet v (meet a b) ≡ meet (meet v a) b
    go false e = meet_unheard v (meet a b) e ∙ ap (λ (x : ℕ). meet x b) (sym (meet_unheard v a e))
    go true e = both e

meet_swapped : (a b : ℕ) → Known a → Known b → meet a b ≡ meet b a
meet_swapped a b h g = elim (ℕ_discrete a b) [
  | yes e ↦ rw e
  | no n ↦ meet_other a b h n ∙ sym (meet_other b a g (λ e. n (sym e)))
]

-- in either order
pub meet_order : (v a b : ℕ) → Known a → Known b → meet (meet v a) b ≡ meet (meet v b) a
meet_order v a b h g = sym (meet_together v a b h) ∙ ap (meet v) (meet_swapped a b h g) ∙ meet_together v b a g
