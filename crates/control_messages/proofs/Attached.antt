-- CRC attachment, clause 5.3.3.2: the mixed parity bits are the bits of one number, the check with the terminal number added; bits and number are each other's.
-- Assumes nothing.
use mathlib.Core.Path.{◌≡◌, refl, sym, ◌∙◌, ap, ap₂}
use mathlib.Core.List.{List, [], ◌∷◌, ◌++◌}
use Prim.Native.Nat.{ℕ, zero, suc, ◌+◌, ◌*◌, ◌/◌, ◌%◌, ◌^◌, ◌≤◌, ◌<◌}
use native.Mathlib.Nat.{mod-one, mod-eq_of_lt, pow-suc, mul-le-mul_left}
use native.Mathlib.Numerals.{one-add}
use native.Mathlib.Omega.{arith}
use lib.ListN.{length, get_or, drop, length-append, drop_of_length-le}
use lib.Pow.{pow_pos, high, mod-pow-add}
use Rattle.laws.specs.Bits.{◌⊕◌, bits_of, AreBits}
use Rattle.laws.proofs.AreBits.{append_bits}
use Rattle.laws.proofs.Bits.{xor_at, xor_parity, xor_bit_lt, length_bits_of, bits_of_bits, bits_of_low}
use Rattle.laws.proofs.Writing.{drop_next}
use Rattle.check_bits.specs.CheckBits.{g_crc16, crc, check_bits}
use Rattle.rate_matching.specs.Columns.{number_of}
use Rattle.control_messages.specs.Attachment.{terminal_bits, mixed, attached}

-- ---- mixing

mixed_bit : (x y n : ℕ) → (x / 2 ^ n % 2 + y / 2 ^ n % 2) % 2 ≡ (x ⊕ y) / 2 ^ n % 2
mixed_bit x y n =
    sym (xor_parity (x / 2 ^ n % 2) (y / 2 ^ n % 2))
    ∙ mod-eq_of_lt (xor_bit_lt (x / 2 ^ n % 2) (y / 2 ^ n % 2) (omega arith) (omega arith))
    ∙ sym (xor_at x y n)

mixed_bits : (n x y : ℕ) → mixed (bits_of n x) (bits_of n y) ≡ bits_of n (x ⊕ y)
unfolding mixed bits_of
mixed_bits zero x y = refl
mixed_bits (suc n) x y = ap₂ ◌∷◌ (mixed_bit x y n) (mixed_bits n x y)

module _ (a : List ℕ) (t : ℕ) where
  pub attached_is : attached a t ≡ a ++ bits_of 16 (crc 16 g_crc16 a ⊕ t)
  unfolding attached check_bits terminal_bits
  attached_is = ap (λ (p : List ℕ). a ++ p) (mixed_bits 16 (crc 16 g_crc16 a) t)

  pub length_attached : length (attached a t) ≡ length a + 16
  length_attached = ap length attached_is ∙ length-append a (bits_of 16 (crc 16 g_crc16 a ⊕ t)) ∙ ap (λ (n : ℕ). length a + n) (length_bits_of 16 (crc 16 g_crc16 a ⊕ t))

  pub attached_bits : AreBits a → AreBits (attached a t)
  attached_bits h = rw attached_is (append_bits a (bits_of 16 (crc 16 g_crc16 a ⊕ t)) h (bits_of_bits 16 (crc 16 g_crc16 a ⊕ t)))

-- ---- bits and their number

pub number_lt : (l : List ℕ) → AreBits l → number_of l < 2 ^ length l
unfolding number_of
number_lt [] h = omega arith
number_lt (b ∷ bs) h = rw pow-suc (omega (arith, number_lt bs (λ i. h (suc i)), one_high b (2 ^ length bs) (h 0)))
  where
    one_high : (b m : ℕ) → b < 2 → b * m ≤ m
    one_high zero m l = omega arith
    one_high (suc zero) m l = omega arith
    one_high (suc (suc b)) m l = absurd (omega arith)

pub bits_number : (l : List ℕ) → AreBits l → bits_of (length l) (number_of l) ≡ l
unfolding bits_of number_of
bits_number [] h = refl
bits_number (b ∷ bs) h =
    ap₂ ◌∷◌
    (ap (λ (x : ℕ). x % 2) (high b (length bs) (number_lt bs (λ i. h (suc i)))) ∙ mod-eq_of_lt (h 0))
    (bits_of_low (length bs) b (number_of bs) ∙ bits_number bs (λ i. h (suc i)))

number_bits : (n x : ℕ) → number_of (bits_of n x) ≡ x % 2 ^ n
unfolding bits_of number_of
number_bits zero x = sym (mod-one x)
number_bits (suc n) x = rw (length_bits_of n x, number_bits n x) (sym (mod-pow-add x 1 n ∙ refl) ∙ ap (λ (k : ℕ). x % 2 ^ k) (one-add n))

pub number_of_bits : (n x : ℕ) → x < 2 ^ n → number_of (bits_of n x) ≡ x
number_of_bits n x h = number_bits n x ∙ mod-eq_of_lt h

-- ---- the loop that works the number out: n is that of the first i bits

pub record Numbering (bits : List ℕ) (n i : ℕ) : Type 0 where
  pub told : n * 2 ^ length (drop i bits) + number_of (drop i bits) ≡ number_of bits

module _ (bits : List ℕ) where
  pub numbering_start : Numbering bits 0 0
  numbering_start = record { told = omega arith }

  pub numbering_few : {n i : ℕ} → Numbering bits n i → n ≤ number_of bits
  numbering_few {n} {i} w = omega (arith, w.told, mul-le-mul_left n (pow_pos (length (drop i bits))))

  pub numbering_next : {n i : ℕ} → i < length bits → Numbering bits n i → Numbering bits (n * 2 + get_or bits i 0) (i + 1)
  unfolding number_of
  numbering_next {n} {i} h w = record { told = go (get_or bits i 0) (drop (i + 1) bits) (drop_next bits i h) }
    where
      go : (b : ℕ) (rest : List ℕ) → drop i bits ≡ b ∷ rest → (n * 2 + b) * 2 ^ length rest + number_of rest ≡ number_of bits
      go b rest e =
          let whole : n * 2 ^ suc (length rest) + (b * 2 ^ length rest + number_of rest) ≡ number_of bits = sym (ap (λ (l : List ℕ). n * 2 ^ length l + number_of l) e) ∙ w.told in
          omega (arith, rw pow-suc at whole)

  pub numbering_ends : {n i : ℕ} → length bits ≤ i → Numbering bits n i → n ≡ number_of bits
  unfolding number_of
  numbering_ends {n} {i} h w =
      let e : n * 2 ^ length (drop i bits) + number_of (drop i bits) ≡ n * 1 + 0 = ap (λ (l : List ℕ). n * 2 ^ length l + number_of l) (drop_of_length-le bits h) in
      omega (arith, w.told, e)
