-- The definition of the code blocks is the loop of clause 5.1.2.
-- Assumes nothing.
use mathlib.Core.Path.{◌≡◌, refl, sym, ◌∙◌, ap, ap₂}
use mathlib.Core.Bool.{cond}
use mathlib.Core.List.{List, [], ◌∷◌, ◌++◌}
use Prim.Native.Nat.{ℕ, zero, suc, ◌+◌, ◌-◌, ◌≤◌, ◌<◌}
use native.Mathlib.Nat.{add-zero, zero-add, suc-add, add-suc, sub-zero}
use native.Mathlib.Omega.{arith}
use lib.Dec.{eqb}
use lib.ListN.{length, get_or, take, drop, replicate, length-replicate}
use lib.Seq.{drop-cons, take-append-add, drop-append-add}
use borrow.Author.Tests.{ne_eqb}
use Rattle.check_bits.specs.CheckBits.{check_bits, g_crc24b}
use Rattle.segmentation.specs.Segmentation.{check_length, blocks, filler, size_of, filler_of}
use Rattle.segmentation.specs.CodeBlocks.{taken_before, payload, code_block}
use Rattle.segmentation.proofs.CodeBlocks.{filler_within, taken_within}
use Rattle.codeword.proofs.Data.{filler_over}
use Rattle.demands.specs.Filling.{copied, times, front, filled, filled_from, filled_blocks}

-- n bits from s on
copied_is : (b : List ℕ) (s n : ℕ) → s + n ≤ length b → copied b s n ≡ take n (drop s b)
unfolding copied
copied_is b s zero h = refl
copied_is b s (suc n) h =
    ap (λ (l : List ℕ). get_or b s 0 ∷ l) (copied_is b (suc s) n (omega arith)) ∙ ap (take (suc n)) (sym (drop-cons b s 0 (omega arith)))

no_filler : (B r : ℕ) → filler_of B (suc r) ≡ 0
unfolding filler_of
no_filler B r = simp (ne_eqb (suc r) 0 (λ e. omega arith))

module _ (b : List ℕ) (low : 24 ≤ length b) (high : length b ≤ 30600) where
  abbrev B : ℕ
  B = length b

  abbrev zeros : List ℕ
  zeros = replicate {A = ℕ} (filler B) 0

  -- where the bits of code block r begin in b
  abbrev from : ℕ → ℕ
  from r = taken_before B r + filler_of B r - filler B

  within : (r : ℕ) → r < blocks B → from r + times b r (filler_of B r) ≤ length b
  unfolding times
  within r below = omega (arith, filler_over B low high r, filler_within B high low r, taken_within B high r below)

  -- the filler and what follows it
  front_is : (r : ℕ) → r < blocks B → front b r (filler_of B r) (from r) ≡ payload b r
  unfolding front payload times filler_of taken_before
  front_is zero below =
      let n : ℕ = times b 0 (filler B) in
      let whole : length zeros + n ≡ size_of B 0 - check_length B = rw (length-replicate {A = ℕ} (filler B) 0) (omega (arith, filler_within B high low 0)) in
      let none : 0 + filler B - filler B ≡ 0 = omega arith in
      ap (λ (s : ℕ). zeros ++ copied b s n) none
      ∙ ap (λ (l : List ℕ). zeros ++ l) (copied_is b 0 n (rw none at (within 0 below)))
      ∙ sym (take-append-add zeros b n)
      ∙ ap (λ (k : ℕ). take k (zeros ++ b)) whole
  front_is (suc r) below =
      let s : ℕ = taken_before B (suc r) + 0 - filler B in
      let over : length zeros + s ≡ taken_before B (suc r) = rw (length-replicate {A = ℕ} (filler B) 0) (omega (arith, no_filler B r, filler_over B low high (suc r))) in
      let fits : s + (size_of B (suc r) - check_length B - 0) ≤ length b = rw (no_filler B r) at (within (suc r) below) in
      rw (no_filler B r, sub-zero)
      (copied_is b s (size_of B (suc r) - check_length B) (omega arith)
      ∙ ap (take (size_of B (suc r) - check_length B)) (sym (drop-append-add zeros b s) ∙ ap (λ (k : ℕ). drop k (zeros ++ b)) over))

  block_is : (r : ℕ) → r < blocks B → filled b r (filler_of B r) (from r) ≡ code_block b r
  unfolding filled code_block
  block_is r below =
      ap (λ (c : List ℕ). c ++ cond (eqb (blocks B) 1) [] (check_bits 24 g_crc24b c)) (front_is r below)

  -- s and k after code block r are those of the next
  next_from : (r : ℕ) → from r + times b r (filler_of B r) ≡ from (suc r)
  unfolding times filler_of taken_before
  next_from r = omega (arith, no_filler B r, filler_over B low high r, filler_within B high low r)

  blocks_from : (r n i : ℕ) → r + n ≤ blocks B → i < n → get_or (filled_from b r (filler_of B r) (from r) n) i [] ≡ code_block b (r + i)
  unfolding filled_from filler_of
  blocks_from r zero i h l = absurd (omega arith)
  blocks_from r (suc n) zero h l = block_is r (omega arith) ∙ ap (code_block b) (sym (add-zero r))
  blocks_from r (suc n) (suc i) h l = step ∙ blocks_from (suc r) n i (omega arith) (omega arith) ∙ ap (code_block b) (suc-add r i ∙ sym (add-suc r i))
    where
      step : get_or (filled_from b (suc r) 0 (from r + times b r (filler_of B r)) n) i [] ≡ get_or (filled_from b (suc r) (filler_of B (suc r)) (from (suc r)) n) i []
      step = ap₂ (λ (k s : ℕ). get_or (filled_from b (suc r) k s n) i []) (sym (no_filler B r)) (next_from r)

  -- code block r is what the loop leaves in c_r0, c_r1, ..
  pub loop_fills : (r : ℕ) → r < blocks B → get_or (filled_blocks b) r [] ≡ code_block b r
  unfolding filled_blocks filler_of taken_before
  loop_fills r below =
      let none : 0 + filler B - filler B ≡ 0 = omega arith in
      ap (λ (s : ℕ). get_or (filled_from b 0 (filler B) s (blocks B)) r []) (sym none)
      ∙ blocks_from 0 (blocks B) r (omega arith) below
      ∙ ap (code_block b) (zero-add r)
