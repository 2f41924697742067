-- The tail biting encoder of clause 5.1.3.1: with the last six bits in front, each coded bit is a sum of seven bits side by side; the register ends as it began.
-- Assumes nothing.
use mathlib.Core.Path.{◌≡◌, refl, sym, ◌∙◌, ap, ap₂}
use mathlib.Core.List.{List, [], ◌∷◌, ◌++◌}
use Prim.Native.Nat.{ℕ, zero, suc, ◌+◌, ◌-◌, ◌*◌, ◌/◌, ◌%◌, ◌^◌, ◌≤◌, ◌<◌}
use native.Mathlib.Nat.{suc-add, zero-mul, one-mul}
use native.Mathlib.Omega.{arith}
use lib.Bits.{bit_or, xor_zero_l, xor_zero_r}
use lib.ListN.{length, get_or, drop, length-append, drop_of_length-le}
use Rattle.laws.specs.Bits.{◌⊕◌, bits_of, AreBits}
use Rattle.laws.specs.Lists.{tab, tab_from}
use Rattle.laws.proofs.Bits.{xor_assoc, xor_bit_lt}
use Rattle.laws.proofs.Tab.{tab_ext}
use Rattle.laws.proofs.AreBits.{append_bits, drop_below}
use Rattle.laws.proofs.Writing.{drop_next}
use Rattle.control_messages.specs.TailBiting.{generator0, generator1, generator2, tapped, from_the_end, initial, shifted_in, encoded, register_after, parity_stream}
use Rattle.control_messages.specs.Working.{with_lead, first, second, third, three}

-- the bit at place k + 6 and the six before it, the newest first
abbrev window : List ℕ → ℕ → List ℕ
window e k =
    get_or e (k + 6) 0 ∷ get_or e (k + 5) 0 ∷ get_or e (k + 4) 0 ∷ get_or e (k + 3) 0 ∷ get_or e (k + 2) 0 ∷ get_or e (k + 1) 0 ∷ get_or e k 0 ∷ []

further : (y : ℕ) (e : List ℕ) (k : ℕ) → window (y ∷ e) (suc k) ≡ window e k
further y e k = simp suc-add

-- with the register's bits in front, the oldest first
encoded_at : (g : List ℕ) (s0 s1 s2 s3 s4 s5 : ℕ) (xs : List ℕ) (k : ℕ) → k < length xs
    → get_or (encoded g (s0 ∷ s1 ∷ s2 ∷ s3 ∷ s4 ∷ s5 ∷ []) xs) k 0 ≡ tapped g (window (s5 ∷ s4 ∷ s3 ∷ s2 ∷ s1 ∷ s0 ∷ xs) k)
unfolding encoded shifted_in
encoded_at g s0 s1 s2 s3 s4 s5 [] k h = absurd (omega arith)
encoded_at g s0 s1 s2 s3 s4 s5 (x ∷ xs) zero h = refl
encoded_at g s0 s1 s2 s3 s4 s5 (x ∷ xs) (suc k) h =
    encoded_at g x s0 s1 s2 s3 s4 xs k (omega arith) ∙ ap (tapped g) (sym (further s5 (s4 ∷ s3 ∷ s2 ∷ s1 ∷ s0 ∷ x ∷ xs) k))

length_encoded : (g s xs : List ℕ) → length (encoded g s xs) ≡ length xs
unfolding encoded
length_encoded g s [] = refl
length_encoded g s (x ∷ xs) = ap suc (length_encoded g (shifted_in x s) xs)

pub length_parity_stream : (g c : List ℕ) → length (parity_stream g c) ≡ length c
unfolding parity_stream
length_parity_stream g c = length_encoded g (initial c) c

-- ---- the last six bits

module _ (c : List ℕ) (h : 6 ≤ length c) where
  one_back : (m : ℕ) → m < 6 → drop (length c - suc m) c ≡ from_the_end c m ∷ drop (length c - m) c
  unfolding from_the_end
  one_back m l =
      let place : length c - 1 - m ≡ length c - suc m = omega arith in
      let next : length c - suc m + 1 ≡ length c - m = omega arith in
      drop_next c (length c - suc m) (omega arith) ∙ ap₂ (λ (i j : ℕ). get_or c i 0 ∷ drop j c) (sym place) next

  last_six : drop (length c - 6) c
      ≡ from_the_end c 5 ∷ from_the_end c 4 ∷ from_the_end c 3 ∷ from_the_end c 2 ∷ from_the_end c 1 ∷ from_the_end c 0 ∷ []
  last_six =
      let all : length c ≤ length c - 0 = omega arith in
      one_back 5 (omega arith)
      ∙ ap (λ (l : List ℕ). from_the_end c 5 ∷ l)
      (one_back 4 (omega arith)
      ∙ ap (λ (l : List ℕ). from_the_end c 4 ∷ l)
      (one_back 3 (omega arith)
      ∙ ap (λ (l : List ℕ). from_the_end c 3 ∷ l)
      (one_back 2 (omega arith)
      ∙ ap (λ (l : List ℕ). from_the_end c 2 ∷ l)
      (one_back 1 (omega arith)
      ∙ ap (λ (l : List ℕ). from_the_end c 1 ∷ l)
      (one_back 0 (omega arith) ∙ ap (λ (l : List ℕ). from_the_end c 0 ∷ l) (drop_of_length-le c all))))))

  -- bit k of a parity stream
  stream_at : (g : List ℕ) (k : ℕ) → k < length c → get_or (parity_stream g c) k 0 ≡ tapped g (window (with_lead c) k)
  unfolding parity_stream initial tab tab_from with_lead
  stream_at g k l =
      encoded_at g (from_the_end c 0) (from_the_end c 1) (from_the_end c 2) (from_the_end c 3) (from_the_end c 4) (from_the_end c 5) c k l
      ∙ ap (λ (six : List ℕ). tapped g (window (six ++ c) k)) (sym last_six)

-- ---- the taps

module _ (x x1 x2 x3 x4 x5 x6 : ℕ) where
  taps0 : tapped generator0 (x ∷ x1 ∷ x2 ∷ x3 ∷ x4 ∷ x5 ∷ x6 ∷ []) ≡ x ⊕ x2 ⊕ x3 ⊕ x5 ⊕ x6
  unfolding tapped generator0 bits_of
  taps0 = simp (one-mul, zero-mul, xor_zero_r, xor_assoc)

  taps1 : tapped generator1 (x ∷ x1 ∷ x2 ∷ x3 ∷ x4 ∷ x5 ∷ x6 ∷ []) ≡ x ⊕ x1 ⊕ x2 ⊕ x3 ⊕ x6
  unfolding tapped generator1 bits_of
  taps1 = simp (one-mul, zero-mul, xor_zero_l, xor_zero_r, xor_assoc)

  taps2 : tapped generator2 (x ∷ x1 ∷ x2 ∷ x3 ∷ x4 ∷ x5 ∷ x6 ∷ []) ≡ x ⊕ x1 ⊕ x2 ⊕ x4 ⊕ x6
  unfolding tapped generator2 bits_of
  taps2 = simp (one-mul, zero-mul, xor_zero_l, xor_zero_r, xor_assoc)

-- ---- three bits in a byte

-- what holds of 0 and of 1 holds of a bit
by_bit : (P : ℕ → Type 0) → P 0 → P 1 → (a : ℕ) → a < 2 → P a
by_bit P p q zero h = p
by_bit P p q (suc zero) h = q
by_bit P p q (suc (suc a)) h = absurd (omega arith)

abbrev packed_in : ℕ → ℕ → ℕ → ℕ
packed_in a b d = bit_or (bit_or a (b * 2 ^ 1 % 2 ^ 8)) (d * 2 ^ 2 % 2 ^ 8)

abbrev Packed : ℕ → ℕ → ℕ → Type 0
Packed a b d = (packed_in a b d / 2 ^ 0 % 2 ≡ a) × (packed_in a b d / 2 ^ 1 % 2 ≡ b) × (packed_in a b d / 2 ^ 2 % 2 ≡ d)

packed : (a b d : ℕ) → a < 2 → b < 2 → d < 2 → Packed a b d
packed a b d u v w =
    by_bit (λ (x : ℕ). Packed x b d)
    (by_bit (λ (y : ℕ). Packed 0 y d)
    (by_bit (λ (n : ℕ). Packed 0 0 n) (refl, refl, refl) (refl, refl, refl) d w)
    (by_bit (λ (n : ℕ). Packed 0 1 n) (refl, refl, refl) (refl, refl, refl) d w) b v)
    (by_bit (λ (y : ℕ). Packed 1 y d)
    (by_bit (λ (n : ℕ). Packed 1 0 n) (refl, refl, refl) (refl, refl, refl) d w)
    (by_bit (λ (n : ℕ). Packed 1 1 n) (refl, refl, refl) (refl, refl, refl) d w) b v)
    a u

five_bits : (a b d e f : ℕ) → a < 2 → b < 2 → d < 2 → e < 2 → f < 2 → a ⊕ b ⊕ d ⊕ e ⊕ f < 2
five_bits a b d e f ha hb hd he hf =
    xor_bit_lt (a ⊕ b ⊕ d ⊕ e) f (xor_bit_lt (a ⊕ b ⊕ d) e (xor_bit_lt (a ⊕ b) d (xor_bit_lt a b ha hb) hd) he) hf

module _ (e : List ℕ) (h : AreBits e) (k : ℕ) where
  pub three_bits : (three e k / 2 ^ 0 % 2 ≡ first e k) × (three e k / 2 ^ 1 % 2 ≡ second e k) × (three e k / 2 ^ 2 % 2 ≡ third e k)
  unfolding three
  three_bits =
      packed (first e k) (second e k) (third e k)
      (five_bits _ _ _ _ _ (h (k + 6)) (h (k + 4)) (h (k + 3)) (h (k + 1)) (h k))
      (five_bits _ _ _ _ _ (h (k + 6)) (h (k + 5)) (h (k + 4)) (h (k + 3)) (h k))
      (five_bits _ _ _ _ _ (h (k + 6)) (h (k + 5)) (h (k + 4)) (h (k + 2)) (h k))

-- the three coded bits of bit k of c are those of the three parity streams
module _ (c : List ℕ) (long : 6 ≤ length c) (h : AreBits c) (k : ℕ) (l : k < length c) where
  lead_bits : AreBits (with_lead c)
  unfolding with_lead
  lead_bits = append_bits (drop (length c - 6) c) c (drop_below 2 (length c - 6) c h) h

  pub coded_bits : (three (with_lead c) k / 2 ^ 0 % 2 ≡ get_or (parity_stream generator0 c) k 0)
      × (three (with_lead c) k / 2 ^ 1 % 2 ≡ get_or (parity_stream generator1 c) k 0)
      × (three (with_lead c) k / 2 ^ 2 % 2 ≡ get_or (parity_stream generator2 c) k 0)
  coded_bits =
      let b = three_bits (with_lead c) lead_bits k in (
        b.0 ∙ sym (stream_at c long generator0 k l ∙ taps0 _ _ _ _ _ _ _),
        b.1 ∙ sym (stream_at c long generator1 k l ∙ taps1 _ _ _ _ _ _ _),
        b.2 ∙ sym (stream_at c long generator2 k l ∙ taps2 _ _ _ _ _ _ _),
      )

-- ---- the register

-- bits in front change nothing at the end
from_tail : (y : ℕ) (l : List ℕ) (i : ℕ) → i < length l → from_the_end (y ∷ l) i ≡ from_the_end l i
unfolding from_the_end
from_tail y l i h = let e : suc (length l) - 1 - i ≡ suc (length l - 1 - i) = omega arith in rw e

initial_tail : (y : ℕ) (l : List ℕ) → 6 ≤ length l → initial (y ∷ l) ≡ initial l
unfolding initial
initial_tail y l h = tab_ext 6 (from_the_end (y ∷ l)) (from_the_end l) (λ i k. from_tail y l i (omega arith))

initial_front : (p c : List ℕ) → 6 ≤ length c → initial (p ++ c) ≡ initial c
initial_front [] c h = refl
initial_front (y ∷ p) c h = initial_tail y (p ++ c) (omega (arith, length-append p c)) ∙ initial_front p c h

-- after all bits it holds the last six
register_after_lem : (s0 s1 s2 s3 s4 s5 : ℕ) (xs : List ℕ)
    → register_after (s0 ∷ s1 ∷ s2 ∷ s3 ∷ s4 ∷ s5 ∷ []) xs ≡ initial (s5 ∷ s4 ∷ s3 ∷ s2 ∷ s1 ∷ s0 ∷ xs)
unfolding register_after shifted_in initial tab tab_from from_the_end
register_after_lem s0 s1 s2 s3 s4 s5 [] = refl
register_after_lem s0 s1 s2 s3 s4 s5 (x ∷ xs) =
    register_after_lem x s0 s1 s2 s3 s4 xs ∙ sym (initial_tail s5 (s4 ∷ s3 ∷ s2 ∷ s1 ∷ s0 ∷ x ∷ xs) (omega arith))

-- clause 5.1.3.1: the initial and final states of the shift register are the same
pub tail_biting : (c : List ℕ) → 6 ≤ length c → register_after (initial c) c ≡ initial c
unfolding initial tab tab_from
tail_biting c h =
    register_after_lem (from_the_end c 0) (from_the_end c 1) (from_the_end c 2) (from_the_end c 3) (from_the_end c 4) (from_the_end c 5) c
    ∙ initial_front
    (from_the_end c 5 ∷ from_the_end c 4 ∷ from_the_end c 3 ∷ from_the_end c 2 ∷ from_the_end c 1 ∷ from_the_end c 0 ∷ [])
    c h
