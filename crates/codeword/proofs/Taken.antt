-- The stretches of the codeword, clause 5.1.5: the code blocks' bits stand one after the other, each as long as its share.
-- Assumes nothing.
use mathlib.Core.Path.{◌≡◌, sym, ◌∙◌, ap, ap₂}
use mathlib.Core.List.{List, ◌++◌}
use Prim.Native.Nat.{ℕ, zero, suc, ◌+◌, ◌-◌, ◌<◌}
use native.Mathlib.Nat.{zero-add, suc-add, add-suc}
use native.Mathlib.Omega.{arith}
use lib.ListN.{length, take, drop, length-append}
use lib.Seq.{take_at, drop_at, drop-drop}
use Rattle.laws.proofs.Bits.{length_bits_of}
use Rattle.check_bits.specs.CheckBits.{check_bits}
use Rattle.segmentation.specs.Segmentation.{blocks}
use Rattle.segmentation.specs.CodeBlocks.{with_check}
use Rattle.rate_matching.proofs.Walk.{length_selected}
use Rattle.codeword.specs.declared.Grant.{Grant}
use Rattle.codeword.specs.Shares.{shares_before, granted, granted_before}
use Rattle.codeword.specs.Codeword.{sent_bits, block_bits, bits_from, codeword_in}

module _ (soft : ℕ) (b : List ℕ) (g : Grant) where
  -- E_r bits
  pub length_block_bits : (r : ℕ) → length (block_bits soft b g r) ≡ granted (blocks (length b)) g r
  unfolding block_bits sent_bits
  length_block_bits r = length_selected _ _ _

  -- past the stretches of r code blocks stand the bits of those from r on
  past : (r n : ℕ) → drop (granted_before (blocks (length b)) g r) (bits_from soft b g 0 (r + n)) ≡ bits_from soft b g r n
  unfolding bits_from shares_before
  past zero n = rw zero-add
  past (suc r) n =
      let E : ℕ = granted (blocks (length b)) g r in
      let S : ℕ = granted_before (blocks (length b)) g r in
      ap (λ (m : ℕ). drop (S + E) (bits_from soft b g 0 m)) (suc-add r n ∙ sym (add-suc r n))
      ∙ sym (drop-drop E S (bits_from soft b g 0 (r + suc n)))
      ∙ ap (drop E) (past r (suc n))
      ∙ drop_at (block_bits soft b g r) (bits_from soft b g (suc r) n) E (length_block_bits r)

-- b has the transport check's 24 bits more
pub length_with_check : (a : List ℕ) → length (with_check a) ≡ length a + 24
unfolding with_check check_bits
length_with_check a = rw (length-append, length_bits_of)

module _ (soft : ℕ) (a : List ℕ) (g : Grant) where
  -- the stretch of code block r, and what follows it
  pub stretch_is : (r : ℕ) → r < blocks (length a + 24)
      → drop (granted_before (blocks (length a + 24)) g r) (codeword_in soft a g)
      ≡ block_bits soft (with_check a) g r ++ bits_from soft (with_check a) g (suc r) (blocks (length a + 24) - suc r)
  unfolding codeword_in bits_from
  stretch_is r h =
      let whole : blocks (length a + 24) ≡ r + suc (blocks (length a + 24) - suc r) = omega arith in
      ap₂ (λ (n m : ℕ). drop (granted_before (blocks n) g r) (bits_from soft (with_check a) g 0 m)) (sym (length_with_check a)) whole
      ∙ past soft (with_check a) g r (suc (blocks (length a + 24) - suc r))

  -- the stretch of code block r alone
  pub stretch : (r : ℕ) → r < blocks (length a + 24)
      → take (granted (blocks (length a + 24)) g r) (drop (granted_before (blocks (length a + 24)) g r) (codeword_in soft a g))
      ≡ block_bits soft (with_check a) g r
  stretch r h =
      rw (stretch_is r h)
      (take_at (block_bits soft (with_check a) g r) _ (granted (blocks (length a + 24)) g r)
      (length_block_bits soft (with_check a) g r ∙ ap (λ (n : ℕ). granted (blocks n) g r) (length_with_check a)))
