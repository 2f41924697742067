-- The register of clause 5.1.1: it stays below 2 ^ L, and a run of bits may be taken in parts.
-- Assumes nothing.
use mathlib.Core.Path.{◌≡◌, refl, sym, ◌∙◌, ap}
use mathlib.Core.List.{List, [], ◌∷◌, ◌++◌}
use Prim.Native.Nat.{ℕ, suc, ◌-◌, ◌*◌, ◌/◌, ◌%◌, ◌^◌, ◌<◌}
use native.Mathlib.Nat.{mod-lt, pow-suc, mul-div-mul_right}
use native.Mathlib.Numerals.{one-add}
use native.Mathlib.Omega.{arith}
use lib.Bits.{bit_xor, xor_zero_r}
use lib.Dec.{lit<}
use lib.ListN.{length}
use lib.Pow.{pow_pos, shr_lt}
use Rattle.laws.specs.Bits.{◌⊕◌, AreBits}
use Rattle.laws.proofs.Bits.{length_bits_of, bits_of_bits, xor_cancel}
use Rattle.check_bits.specs.CheckBits.{crc_step, crc_from, crc, check_bits}

-- numbers whose exclusive or is 0 are equal
pub xor_same : (a b : ℕ) → a ⊕ b ≡ 0 → a ≡ b
xor_same a b h = sym (xor_zero_r a) ∙ ap (bit_xor a) (sym h) ∙ xor_cancel a b

-- times D: a bit stands one place higher
pub doubled_bit : (s n : ℕ) → s * 2 / 2 ^ suc n ≡ s / 2 ^ n
doubled_bit s n = rw pow-suc (mul-div-mul_right s (2 ^ n) (lit< tt))

-- the highest bit of a register of L bits
pub top_lt : (n : ℕ) {L s : ℕ} → suc n ≡ L → s < 2 ^ L → s / 2 ^ n < 2
top_lt n {L} {s} e h = shr_lt 1 n (rw (one-add, e) h)

pub crc_step_is : (n g s b : ℕ) {L : ℕ} → suc n ≡ L → crc_step L g s b ≡ (s * 2 ⊕ (s / 2 ^ n ⊕ b) * g) % 2 ^ L
unfolding crc_step
crc_step_is n g s b {L} h = let e : L - 1 ≡ n = omega arith in rw e

module _ (L g : ℕ) where
  pub crc_step_lt : (s b : ℕ) → crc_step L g s b < 2 ^ L
  unfolding crc_step
  crc_step_lt s b = mod-lt _ (pow_pos L)

  pub crc_from_lt : (s : ℕ) (bs : List ℕ) → s < 2 ^ L → crc_from L g s bs < 2 ^ L
  unfolding crc_from
  crc_from_lt s [] h = h
  crc_from_lt s (b ∷ bs) h = crc_from_lt (crc_step L g s b) bs (crc_step_lt s b)

  pub crc_lt : (bs : List ℕ) → crc L g bs < 2 ^ L
  unfolding crc
  crc_lt bs = crc_from_lt 0 bs (pow_pos L)

  -- a run over the joined bits equals one run after the other (02, E9)
  pub crc_from_append : (s : ℕ) (a b : List ℕ) → crc_from L g s (a ++ b) ≡ crc_from L g (crc_from L g s a) b
  unfolding crc_from
  crc_from_append s [] b = refl
  crc_from_append s (x ∷ a) b = crc_from_append (crc_step L g s x) a b

  -- the first run starts from zero
  pub from_zero : (bs : List ℕ) → crc_from L g 0 bs ≡ crc L g bs
  unfolding crc
  from_zero bs = refl

  -- so the check of bits in two slices goes on from the first slice's remainder
  pub check_joined : (x y : List ℕ) {first r : ℕ} → first ≡ crc_from L g 0 x → r ≡ crc_from L g first y → r ≡ crc L g (x ++ y)
  check_joined x y e f = f ∙ ap (λ (s : ℕ). crc_from L g s y) e ∙ sym (crc_from_append 0 x y) ∙ from_zero (x ++ y)

  pub length_check_bits : (a : List ℕ) → length (check_bits L g a) ≡ L
  unfolding check_bits
  length_check_bits a = length_bits_of L (crc L g a)

  pub check_bits_bits : (a : List ℕ) → AreBits (check_bits L g a)
  unfolding check_bits
  check_bits_bits a = bits_of_bits L (crc L g a)
