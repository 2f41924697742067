-- How the bytes of given bits are looked at: what was seen so far and what is still to come together say what the whole list says.
-- Assumes nothing.
use mathlib.Core.Path.{◌≡◌, refl, sym, ◌∙◌, ap}
use mathlib.Core.Bool.{Bool, true, false, ◌||◌, or-false, or_assoc}
use mathlib.Core.List.{List, [], ◌∷◌, ◌++◌}
use Prim.Native.Nat.{ℕ, ◌+◌, ◌≤◌, ◌<◌}
use native.Mathlib.Omega.{arith}
use lib.Dec.{ltb}
use lib.Bits.{bit_or, or_lt, or_add_and, and_le_l, and_le_r}
use lib.ListN.{length, drop, get_or, drop_of_length-le}
use borrow.Author.Tests.{ltb-true, ltb-false, lt-ltb, le-ltb}
use Rattle.laws.proofs.Writing.{drop_next}
use Rattle.codeword.specs.Build.{bad_bits}

-- two bytes seen together are above 1 where one of them is
both : (a b : ℕ) → ltb 1 (bit_or a b) ≡ (ltb 1 a || ltb 1 b)
both a b = go (ltb 1 a) (ltb 1 b) refl refl
  where
    go : (s t : Bool) → ltb 1 a ≡ s → ltb 1 b ≡ t → ltb 1 (bit_or a b) ≡ (s || t)
    go true t e f = lt-ltb 1 (bit_or a b) (omega (arith, or_add_and a b, and_le_r a b, ltb-true 1 a e))
    go false true e f = lt-ltb 1 (bit_or a b) (omega (arith, or_add_and a b, and_le_l a b, ltb-true 1 b f))
    go false false e f =
        let h : bit_or a b < 2 = or_lt 1 a b (omega (arith, ltb-false 1 a e)) (omega (arith, ltb-false 1 b f)) in
        le-ltb 1 (bit_or a b) (omega arith)

-- what is seen of the first i bytes
pub Seen : List ℕ → ℕ → ℕ → Type 0
Seen bits i seen = (ltb 1 seen || bad_bits (drop i bits)) ≡ bad_bits bits

pub nothing : (bits : List ℕ) → Seen bits 0 0
unfolding Seen
nothing bits = refl

pub one_more : (bits : List ℕ) (i seen : ℕ) → i < length bits → Seen bits i seen → Seen bits (i + 1) (bit_or seen (get_or bits i 0))
unfolding Seen bad_bits
one_more bits i seen l h =
    let opened : bad_bits (drop i bits) ≡ (ltb 1 (get_or bits i 0) || bad_bits (drop (i + 1) bits)) = rw (drop_next bits i l) refl in
    ap (λ (t : Bool). t || bad_bits (drop (i + 1) bits)) (both seen (get_or bits i 0))
    ∙ or_assoc (ltb 1 seen) (ltb 1 (get_or bits i 0)) (bad_bits (drop (i + 1) bits))
    ∙ ap (λ (t : Bool). ltb 1 seen || t) (sym opened)
    ∙ h

-- nothing is left after the last byte
none_left : (bits : List ℕ) (e : ℕ) → length bits ≤ e → bad_bits (drop e bits) ≡ false
unfolding bad_bits
none_left bits e l = rw (drop_of_length-le bits {i = e} l) refl

pub all : (bits : List ℕ) (i seen : ℕ) → length bits ≤ i → Seen bits i seen → ltb 1 seen ≡ bad_bits bits
unfolding Seen
all bits i seen l h = sym (or-false (ltb 1 seen)) ∙ ap (λ (t : Bool). ltb 1 seen || t) (sym (none_left bits i l)) ∙ h

-- bytes in two lists
pub appended : (xs ys : List ℕ) → bad_bits (xs ++ ys) ≡ (bad_bits xs || bad_bits ys)
unfolding bad_bits
appended [] ys = refl
appended (x ∷ xs) ys = ap (λ (t : Bool). ltb 1 x || t) (appended xs ys) ∙ sym (or_assoc (ltb 1 x) (bad_bits xs) (bad_bits ys))
