-- The control bits of two reports of one length differ in as many places as the sum of the reports weighs, so in at least those of the tables.
-- Assumes nothing.
use mathlib.Core.Path.{◌≡◌, refl, sym, ◌∙◌, ap}
use mathlib.Core.Bool.{Bool, true, false}
use mathlib.Core.List.{List}
use Prim.Native.Nat.{ℕ, ◌*◌, ◌/◌, ◌%◌, ◌^◌, ◌≤◌, ◌<◌}
use native.Mathlib.Nat.{mul-le-mul_left}
use native.Mathlib.Omega.{arith}
use lib.Dec.{eqb, leb}
use lib.Bits.{bit_xor, xor_lt, xor_zero_r}
use lib.ListN.{take}
use borrow.Author.Tests.{eqb-true, eqb-false, leb-true}
use Rattle.laws.specs.Bits.{AreBits}
use Rattle.laws.specs.inner.Computed.{all_below}
use Rattle.laws.specs.Lists.{tab}
use Rattle.laws.proofs.Bits.{xor_cancel}
use Rattle.laws.proofs.Computed.{all_below_at, T_true}
use Rattle.report_code.specs.Code.{block, circular, repeated, control_bits}
use Rattle.report_code.specs.Words.{message_bits}
use Rattle.report_code.specs.Nearest.{differences}
use Rattle.report_code.proofs.Words.{length_message, message_added}
use Rattle.report_code.proofs.Linear.{length_block, block_bits_lem, block_added, tab_bits}
use Rattle.report_code.proofs.Folding.{length_repeated}
use Rattle.report_strength.specs.Strength.{weight, least_weight, fewest, fewest_table}
use Rattle.report_strength.proofs.Weights.{differences_weight, repeated_added, repeated_weight, front_weight}
use Rattle.report_strength.proofs.AllWords.{strong}

repeated_bits : (b : List ℕ) (n : ℕ) → AreBits b → AreBits (repeated b n)
unfolding repeated circular tab
repeated_bits b n h = tab_bits 0 n (circular b) (λ k. h (k % 32))

-- the places in which two reports' control bits differ
pub apart_is : (O m k n : ℕ) → differences (control_bits (message_bits O m) n) (control_bits (message_bits O k) n) ≡ weight (repeated (block (message_bits O (bit_xor m k))) n)
unfolding control_bits
apart_is O m k n =
    let u = block (message_bits O m) in
    let v = block (message_bits O k) in
    differences_weight (repeated u n) (repeated v n) (length_repeated u n ∙ sym (length_repeated v n)) (repeated_bits u n (block_bits_lem (message_bits O m)))
    (repeated_bits v n (block_bits_lem (message_bits O k)))
    ∙ ap weight
    (repeated_added u v n (length_block (message_bits O m) ∙ sym (length_block (message_bits O k)))
    ∙ ap (λ (b : List ℕ). repeated b n)
    (sym (block_added (message_bits O m) (message_bits O k) (length_message O m ∙ sym (length_message O k))) ∙ ap block (sym (message_added O m k))))

-- two numbers whose sum is 0 are one
sum_some : (m k : ℕ) → (m ≡ k → ⊥) → 0 < bit_xor m k
sum_some m k h = go (eqb (bit_xor m k) 0) refl
  where
    go : (t : Bool) → eqb (bit_xor m k) 0 ≡ t → 0 < bit_xor m k
    go true e = absurd (h (sym (xor_zero_r m) ∙ ap (bit_xor m) (sym (eqb-true (bit_xor m k) 0 e)) ∙ xor_cancel m k))
    go false e = omega (arith, eqb-false (bit_xor m k) 0 e)

pub fewest_small : (O : ℕ) → O ≤ 11 → fewest O ≤ 32
unfolding all_below fewest fewest_table
fewest_small O h = leb-true (fewest O) 32 (T_true _ (all_below_at (λ (l : ℕ). leb (fewest l) 32) 12 tt O (omega arith)))

module _ (O m k n : ℕ) (short : O ≤ 11) (first : m < 2 ^ O) (second : k < 2 ^ O) (differ : m ≡ k → ⊥) where
  sum : (least_weight O ≤ weight (block (message_bits O (bit_xor m k)))) × (1 ≤ weight (take (fewest O) (block (message_bits O (bit_xor m k)))))
  sum = strong O (bit_xor m k) short (sum_some m k differ) (xor_lt O m k first second)

  -- each whole turn parts them by the least weight
  pub apart : n / 32 * least_weight O ≤ differences (control_bits (message_bits O m) n) (control_bits (message_bits O k) n)
  apart =
      rw (apart_is O m k n)
      (let turns : n / 32 * least_weight O ≤ n / 32 * weight (block (message_bits O (bit_xor m k))) = mul-le-mul_left (n / 32) sum.0 in
      omega (arith, repeated_weight (block (message_bits O (bit_xor m k))) n (length_block (message_bits O (bit_xor m k)))))

  -- and enough control bits part them at all
  pub apart_some : fewest O ≤ n → 1 ≤ differences (control_bits (message_bits O m) n) (control_bits (message_bits O k) n)
  apart_some h =
      rw (apart_is O m k n)
      (omega (arith, sum.1, front_weight (block (message_bits O (bit_xor m k))) (fewest O) n (length_block (message_bits O (bit_xor m k))) (fewest_small O short) h))
