-- 24 bits gathered from the bytes of a slice: eight bytes as one number, the test that each is 0 or 1, and their packing.
-- Assumes nothing.
use mathlib.Core.Path.{◌≡◌, refl, sym, ◌∙◌, ap, ap₂}
use mathlib.Core.Bool.{Bool}
use mathlib.Core.List.{List, [], ◌∷◌, ◌++◌}
use Prim.Native.Nat.{ℕ, suc, ◌+◌, ◌*◌, ◌/◌, ◌%◌, ◌^◌, ◌≤◌, ◌<◌}
use native.Mathlib.Nat.{pow-suc, mod-lt, mod-eq_of_lt}
use native.Mathlib.Omega.{arith}
use lib.Arith.{digits_lt}
use lib.Bits.{bit_and, bit_or, and_le_l, and_le_r, or_add_and, and_block, and_high, or_shifted}
use lib.Dec.{eqb, eqb→eq, lit<, lit≤}
use lib.ListN.{length, take, drop, replicate, length-drop}
use lib.Pow.{shl_exact, high}
use lib.Seq.{drop-drop, take-add, length-take-le}
use Rattle.std.specs.Int.{from_le_bytes, w64}
use Rattle.laws.specs.Bits.{bits_of, EachBelow, AreBits}
use Rattle.laws.specs.inner.Computed.{all_below}
use Rattle.laws.proofs.AreBits.{no_bits, with_bit, take_below, drop_below}
use Rattle.laws.proofs.Bits.{bits_of_low, bits_of_join}
use Rattle.laws.proofs.Computed.{all_below_at}
use Rattle.check_bits.specs.inner.Stride.{word_of, lowest}

-- a byte below what is already there
pub below : (j w : ℕ) {a b : ℕ} → a < 2 ^ j → j + 8 ≤ w → b < 2 ^ 8 → bit_or (a * 2 ^ 8 % 2 ^ w) b ≡ a * 2 ^ 8 + b
below j w {a} {b} ha h hb = rw (shl_exact j 8 w ha h) (or_shifted a 8 b hb)

-- each entry is a byte
abbrev pub AreBytes : List ℕ → Type 0
AreBytes l = EachBelow (2 ^ 8) l

-- ---- bytes as one number

pub part_length : (bits : List ℕ) (n from : ℕ) → from + n ≤ length bits → length (take n (drop from bits)) ≡ n
part_length bits n from f = length-take-le n (drop from bits) (simp length-drop (omega arith))

module _ (bits : List ℕ) (h : AreBytes bits) where
  part_bytes : (n from : ℕ) → AreBytes (take n (drop from bits))
  part_bytes n from = take_below (2 ^ 8) (lit< tt) n (drop from bits) (drop_below (2 ^ 8) from bits h)

-- the library's number of eight bytes
pub word_is : (bs : List ℕ) → length bs ≡ 8 → from_le_bytes w64 bs ≡ word_of bs
unfolding word_of
word_is (a ∷ b ∷ c ∷ d ∷ e ∷ f ∷ g ∷ h ∷ []) l = omega arith
word_is [] l = cc
word_is (a ∷ []) l = cc
word_is (a ∷ b ∷ []) l = cc
word_is (a ∷ b ∷ c ∷ []) l = cc
word_is (a ∷ b ∷ c ∷ d ∷ []) l = cc
word_is (a ∷ b ∷ c ∷ d ∷ e ∷ []) l = cc
word_is (a ∷ b ∷ c ∷ d ∷ e ∷ f ∷ []) l = cc
word_is (a ∷ b ∷ c ∷ d ∷ e ∷ f ∷ g ∷ []) l = cc
word_is (a ∷ b ∷ c ∷ d ∷ e ∷ f ∷ g ∷ h ∷ _ ∷ _) l = omega arith

-- ---- the test

-- the bits of a word that are set where a byte is above 1
abbrev pub above_one : ℕ → ℕ
above_one w = bit_and w 0xFEFEFEFEFEFEFEFE

pub none : (a b : ℕ) → bit_or a b ≡ 0 → (a ≡ 0) × (b ≡ 0)
none a b e = omega (arith, or_add_and a b, and_le_l a b, and_le_r a b)

low_bit : {b : ℕ} → b < 2 ^ 8 → bit_and b 254 ≡ 0 → b < 2
low_bit {b} h z =
    let e : b / 2 % 128 ≡ b / 2 = mod-eq_of_lt (omega arith) in
    omega (arith, sym (and_high b 7 1) ∙ z)

-- a word with none of them is made of bits
clear : (bs : List ℕ) → AreBytes bs → bit_and (word_of bs) (word_of (replicate (length bs) 254)) ≡ 0 → AreBits bs
unfolding word_of
clear [] h e = no_bits
clear (b ∷ bs) h e = with_bit b bs (low_bit (h 0) (omega (arith, parts))) (clear bs (λ i. h (suc i)) (omega (arith, parts)))
  where
    parts : bit_and (word_of bs) (word_of (replicate (length bs) 254)) * 2 ^ 8 + bit_and b 254 ≡ 0
    parts = sym (and_block 8 (word_of bs) (word_of (replicate (length bs) 254)) b 254 (h 0) (lit< tt)) ∙ e

-- ---- the packing

-- the number that bits are, the first highest
number : List ℕ → ℕ
number [] = 0
number (b ∷ bs) = b * 2 ^ length bs + number bs

number_lt : (bs : List ℕ) → AreBits bs → number bs < 2 ^ length bs
unfolding number
number_lt [] h = lit< tt
number_lt (b ∷ bs) h = rw pow-suc (omega (arith, digits_lt (h 0) (number_lt bs (λ i. h (suc i)))))

number_bits : (bs : List ℕ) → AreBits bs → bits_of (length bs) (number bs) ≡ bs
unfolding number bits_of
number_bits [] h = refl
number_bits (b ∷ bs) h =
    let l : number bs < 2 ^ length bs = number_lt bs (λ i. h (suc i)) in
    ap₂ ◌∷◌ (rw (high b (length bs) l) (mod-eq_of_lt (h 0))) (bits_of_low (length bs) b (number bs) ∙ number_bits bs (λ i. h (suc i)))

-- the packing, tested once over all bytes
packs : ℕ → Bool
packs n = eqb (lowest (word_of (bits_of 8 n))) n

packed : (n : ℕ) → n < 256 → lowest (word_of (bits_of 8 n)) ≡ n
unfolding all_below packs word_of bits_of
packed n h = eqb→eq (lowest (word_of (bits_of 8 n))) n (all_below_at packs 256 tt n h)

eight_bits : (bs : List ℕ) → length bs ≡ 8 → AreBytes bs → above_one (word_of bs) ≡ 0 → bits_of 8 (lowest (word_of bs)) ≡ bs
unfolding word_of
eight_bits bs l h e =
    ap (λ (n : ℕ). bits_of 8 n) (ap (λ (k : List ℕ). lowest (word_of k)) (sym back) ∙ packed (number bs) (rw l at (number_lt bs bits))) ∙ back
  where
    bits : AreBits bs
    bits = clear bs h (rw l e)

    back : bits_of 8 (number bs) ≡ bs
    back = rw l at (number_bits bs bits)

-- ---- three times eight bits

module _ (bits : List ℕ) (h : AreBytes bits) where
  pub part : (at : ℕ) {w p : ℕ} → at + 8 ≤ length bits → w ≡ word_of (take 8 (drop at bits)) → above_one w ≡ 0 → p ≡ lowest w
      → bits_of 8 p ≡ take 8 (drop at bits)
  part at l e z q =
      ap (λ (n : ℕ). bits_of 8 n) (q ∙ ap (λ (n : ℕ). lowest n) e)
      ∙ eight_bits (take 8 (drop at bits)) (part_length bits 8 at l) (part_bytes bits h 8 at) (rw e at z)

  pub gathers : (from : ℕ) {a b c p q r : ℕ} → from + 24 ≤ length bits
      → a ≡ word_of (take 8 (drop from bits)) → b ≡ word_of (take 8 (drop (from + 8) bits)) → c ≡ word_of (take 8 (drop (from + 16) bits))
      → bit_or (bit_or (above_one a) (above_one b)) (above_one c) ≡ 0 → p ≡ lowest a → q ≡ lowest b → r ≡ lowest c
      → (bit_or (bit_or (p * 2 ^ 8 % 2 ^ 32) q * 2 ^ 8 % 2 ^ 32) r < 2 ^ 24)
      × (take 24 (drop from bits) ≡ bits_of 24 (bit_or (bit_or (p * 2 ^ 8 % 2 ^ 32) q * 2 ^ 8 % 2 ^ 32) r))
  gathers from {a} {b} {c} {p} {q} {r} f ea eb ec z ep eq er =
      rw (below 8 32 hp (lit≤ tt) hq, below 16 32 hpq (lit≤ tt) hr)
      (omega arith, parts ∙ sym (bits_of_join 16 8 (p * 2 ^ 8 + q) r hr ∙ ap₂ ◌++◌ (bits_of_join 8 8 p q hq ∙ ap₂ ◌++◌ first second) third))
    where
      abc : (bit_or (above_one a) (above_one b) ≡ 0) × (above_one c ≡ 0)
      abc = none (bit_or (above_one a) (above_one b)) (above_one c) z

      ab : (above_one a ≡ 0) × (above_one b ≡ 0)
      ab = none (above_one a) (above_one b) abc.0

      first : bits_of 8 p ≡ take 8 (drop from bits)
      first = part from (omega arith) ea ab.0 ep

      second : bits_of 8 q ≡ take 8 (drop (from + 8) bits)
      second = part (from + 8) (omega arith) eb ab.1 eq

      third : bits_of 8 r ≡ take 8 (drop (from + 16) bits)
      third = part (from + 16) (omega arith) ec abc.1 er

      hp : p < 2 ^ 8
      hp = rw ep (mod-lt _ (lit< tt))

      hq : q < 2 ^ 8
      hq = rw eq (mod-lt _ (lit< tt))

      hr : r < 2 ^ 8
      hr = rw er (mod-lt _ (lit< tt))

      hpq : p * 2 ^ 8 + q < 2 ^ 16
      hpq = omega arith

      parts : take 24 (drop from bits) ≡ (take 8 (drop from bits) ++ take 8 (drop (from + 8) bits)) ++ take 8 (drop (from + 16) bits)
      parts = take-add 16 8 (drop from bits) ∙ rw (take-add 8 8 (drop from bits), drop-drop 8 from bits, drop-drop 16 from bits)
