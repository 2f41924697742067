-- The register of clause 5.1.1 is linear: added registers go on by themselves, and data bits may be added to the register beforehand.
-- Assumes nothing.
use mathlib.Core.Path.{◌≡◌, refl, sym, ◌∙◌, ap, ap₂}
use mathlib.Core.List.{List, [], ◌∷◌}
use Prim.Native.Nat.{ℕ, zero, suc, ◌*◌, ◌/◌, ◌%◌, ◌^◌, ◌<◌}
use native.Mathlib.Nat.{zero-mul, add-zero}
use native.Mathlib.Omega.{arith}
use lib.Bits.{xor_zero_r, xor_self, xor_shr, xor_mod, xor_block, xor_lt}
use lib.ListN.{length, replicate}
use Rattle.laws.specs.Bits.{◌⊕◌, bits_of, AreBits}
use Rattle.laws.proofs.Bits.{xor_assoc, xor_medial, length_bits_of, bits_of_bits}
use Rattle.check_bits.specs.CheckBits.{crc_step, crc_from}
use Rattle.check_bits.proofs.Register.{top_lt, crc_step_is, crc_step_lt}
use Rattle.check_bits.proofs.Carried.{emptied}

-- times D
doubled : (a b : ℕ) → (a ⊕ b) * 2 ≡ a * 2 ⊕ b * 2
doubled a b = sym (simp add-zero at (xor_block 1 a b 0 0 (omega arith) (omega arith)))

-- bits times a number
times : (c d g : ℕ) → c < 2 → d < 2 → (c ⊕ d) * g ≡ c * g ⊕ d * g
times zero d g h l = rw zero-mul
times (suc zero) zero g h l = simp (zero-mul, xor_zero_r)
times (suc zero) (suc zero) g h l = rw (xor_self (1 * g)) (zero-mul g)
times (suc (suc c)) d g h l = omega arith
times (suc zero) (suc (suc d)) g h l = omega arith

module _ (n g : ℕ) {L : ℕ} (e : suc n ≡ L) where
  -- one step of added registers, one of them with the data bit
  step : {s x b : ℕ} → s < 2 ^ L → x < 2 ^ L → b < 2 → crc_step L g (s ⊕ x) b ≡ crc_step L g s 0 ⊕ crc_step L g x b
  step {s} {x} {b} hs hx hb =
      crc_step_is n g (s ⊕ x) b e
      ∙ ap (λ (y : ℕ). y % 2 ^ L) (ap₂ ◌⊕◌ (doubled s x) divisors ∙ xor_medial (s * 2) (x * 2) (c * g) (d * g))
      ∙ xor_mod (s * 2 ⊕ c * g) (x * 2 ⊕ d * g) L
      ∙ ap₂ ◌⊕◌ (sym (crc_step_is n g s 0 e)) (sym (crc_step_is n g x b e))
    where
      c : ℕ
      c = s / 2 ^ n ⊕ 0

      d : ℕ
      d = x / 2 ^ n ⊕ b

      c_bit : c < 2
      c_bit = xor_lt 1 (s / 2 ^ n) 0 (top_lt n e hs) (omega arith)

      d_bit : d < 2
      d_bit = xor_lt 1 (x / 2 ^ n) b (top_lt n e hx) hb

      tops : (s ⊕ x) / 2 ^ n ⊕ b ≡ c ⊕ d
      tops = rw (xor_shr, xor_zero_r (s / 2 ^ n)) (xor_assoc (s / 2 ^ n) (x / 2 ^ n) b)

      divisors : ((s ⊕ x) / 2 ^ n ⊕ b) * g ≡ c * g ⊕ d * g
      divisors = ap (λ (y : ℕ). y * g) tops ∙ times c d g c_bit d_bit

  -- a run of steps of added registers
  pub superposed : (s x : ℕ) (bs : List ℕ) → s < 2 ^ L → x < 2 ^ L → AreBits bs
      → crc_from L g (s ⊕ x) bs ≡ crc_from L g s (replicate (length bs) 0) ⊕ crc_from L g x bs
  unfolding crc_from
  superposed s x [] hs hx hb = refl
  superposed s x (b ∷ bs) hs hx hb =
      ap (λ (y : ℕ). crc_from L g y bs) (step hs hx (hb 0))
      ∙ superposed (crc_step L g s 0) (crc_step L g x b) bs (crc_step_lt L g s 0) (crc_step_lt L g x b) (λ i. hb (suc i))

  -- as many data bits as the register has, added to it beforehand
  pub beforehand : (s w : ℕ) → s < 2 ^ L → w < 2 ^ L → crc_from L g s (bits_of L w) ≡ crc_from L g (s ⊕ w) (replicate L 0)
  beforehand s w hs hw =
      ap (λ (y : ℕ). crc_from L g y (bits_of L w)) again
      ∙ superposed (s ⊕ w) w (bits_of L w) (xor_lt L s w hs hw) hw (bits_of_bits L w)
      ∙ rw (length_bits_of, emptied L g w hw) (xor_zero_r (crc_from L g (s ⊕ w) (replicate L 0)))
    where
      again : s ≡ s ⊕ w ⊕ w
      again = sym (xor_assoc s w w ∙ rw xor_self (xor_zero_r s))
