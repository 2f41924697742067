-- Laws of the code blocks of clause 5.1.2: how much each has taken, that all is taken and nothing twice, and how long each is.
-- Assumes nothing.
use mathlib.Core.Path.{◌≡◌, refl, sym, ◌∙◌, ap}
use mathlib.Core.List.{List, ◌++◌}
use Prim.Native.Nat.{ℕ, zero, suc, ◌+◌, ◌-◌, ◌*◌, ◌≤◌, ◌<◌}
use native.Mathlib.Nat.{add-suc, add-zero, add_comm}
use native.Mathlib.Numerals.{add-one}
use native.Mathlib.Decide.{dec_le, le_ind}
use native.Mathlib.Omega.{arith}
use lib.ListN.{length, take, replicate, length-append, length-take, length-drop, length-replicate}
use lib.Seq.{take-add, take_all}
use borrow.Author.Tests.{ne_eqb}
use Rattle.laws.proofs.Bits.{length_bits_of}
use Rattle.check_bits.specs.CheckBits.{check_bits}
use Rattle.segmentation.specs.Segmentation.{check_length, blocks, with_checks, long, short, shorts, longs, filler, size_of, filler_of}
use Rattle.segmentation.specs.CodeBlocks.{taken_before, payload, payloads_before, code_block}
use Rattle.segmentation.proofs.Segmentation.{single, several, blocks_both, filler_most, size_large, long_checks, sizes_add_up, size_short, size_long, size_checks, short_checks}

-- s short and l long blocks without their check bits
less_checks : (s l k K L F B : ℕ) → L ≤ k → L ≤ K → l * K + s * k ≡ B + (l + s) * L + F → s * (k - L) + l * (K - L) ≡ F + B
less_checks s l k K L F B hk hK e = made (k - L) (K - L) (omega arith) (omega arith)
  where
    sum : (s l k K L F B : ℕ) → l * (K + L) + s * (k + L) ≡ B + (l + s) * L + F → s * k + l * K ≡ F + B
    sum s l k K L F B e = omega arith

    made : (k' K' : ℕ) → k ≡ k' + L → K ≡ K' + L → s * k' + l * K' ≡ F + B
    made k' K' p q = sum s l k' K' L F B (rw (p, q) at e)

module _ (B : ℕ) (high : B ≤ 30600) where
  -- ---- how much is taken

  pub taken_short : (r : ℕ) → r ≤ shorts B → taken_before B r ≡ r * (short B - check_length B)
  unfolding taken_before
  taken_short zero h = omega arith
  taken_short (suc r) h = rw (taken_short r (omega arith), size_short B high r h) (omega arith)

  pub taken_long : (n : ℕ) → taken_before B (shorts B + n) ≡ shorts B * (short B - check_length B) + n * (long B - check_length B)
  unfolding taken_before
  taken_long zero = rw (add-zero (shorts B), taken_short (shorts B) (omega arith)) (omega arith)
  taken_long (suc n) = rw (add-suc (shorts B) n, taken_long n, size_long B high (shorts B + n) (omega arith)) (omega arith)

  -- all is taken: the filler and B bits
  pub taken_all : taken_before B (blocks B) ≡ filler B + B
  unfolding with_checks
  taken_all =
      ap (taken_before B) (blocks_both B high)
      ∙ taken_long (longs B)
      ∙ less_checks (shorts B) (longs B) (short B) (long B) (check_length B) (filler B) B (short_checks B high) (omega (arith, long_checks B high))
      (sizes_add_up B high ∙ ap (λ (C : ℕ). B + C * check_length B + filler B) (blocks_both B high ∙ add_comm (shorts B) (longs B)))

  -- long code blocks come last, so that they count back from the end
  pub taken_back : (r : ℕ) → shorts B ≤ r → r ≤ blocks B → taken_before B r + (blocks B - r) * (long B - check_length B) ≡ filler B + B
  taken_back r h l = ap (λ (k : ℕ). taken_before B k + (blocks B - r) * (long B - check_length B)) here ∙ back (r - shorts B) (blocks B - r) (omega arith)
    where
      here : r ≡ shorts B + (r - shorts B)
      here = omega arith

      back : (n m : ℕ) → shorts B + (n + m) ≡ blocks B → taken_before B (shorts B + n) + m * (long B - check_length B) ≡ filler B + B
      back n m e = omega (arith, taken_long n, taken_long (n + m), taken_all, ap (taken_before B) e)

  -- the code blocks take one after the other
  pub taken_rises : (i j : ℕ) → i ≤ j → taken_before B i ≤ taken_before B j
  unfolding taken_before
  taken_rises i j h = le_ind (λ (m : ℕ). taken_before B i ≤ taken_before B m) (omega arith) (λ m l p. omega arith) j h

  pub taken_within : (r : ℕ) → r < blocks B → taken_before B r + (size_of B r - check_length B) ≤ filler B + B
  unfolding taken_before
  taken_within r h = omega (arith, taken_rises (suc r) (blocks B) h, taken_all)

  -- the last one takes the rest, and those before it leave it 24 bits at least, the transport check
  pub taken_last : (r : ℕ) → r + 1 ≡ blocks B → taken_before B r + (size_of B r - check_length B) ≡ filler B + B
  unfolding taken_before
  taken_last r e = ap (taken_before B) (sym (add-one r) ∙ e) ∙ taken_all

  pub taken_inner : (r : ℕ) → r + 1 < blocks B → taken_before B r + (size_of B r - check_length B) + 24 ≤ filler B + B
  unfolding taken_before
  taken_inner r h = omega (arith, taken_rises (suc r) (blocks B - 1) (omega arith), taken_last (blocks B - 1) (omega arith), size_checks B high (blocks B - 1))

  -- the filler is in block 0, with 24 bits more at least
  pub filler_first : 24 ≤ B → filler B + 24 ≤ size_of B 0 - check_length B
  unfolding taken_before
  filler_first low = elim (dec_le B 6144) [
    | yes h ↦ omega (arith, taken_last 0 (sym (single B h).0))
    | no h ↦ let large : 6144 < B = omega arith in omega (arith, (several B large).1, size_large B high large 0, filler_most B high)
  ]

  pub filler_within : 24 ≤ B → (r : ℕ) → filler_of B r + 24 ≤ size_of B r - check_length B
  unfolding filler_of
  filler_within low zero = filler_first low
  filler_within low (suc r) = rw (ne_eqb (suc r) 0 (λ e. omega arith)) (omega (arith, size_checks B high (suc r)))

  pub filler_taken : 24 ≤ B → (r : ℕ) → 1 ≤ r → filler B ≤ taken_before B r
  unfolding taken_before
  filler_taken low r h = omega (arith, taken_rises 1 r h, filler_first low)

  -- ---- the bits

  module _ (b : List ℕ) (long_is : length b ≡ B) where
    payloads_taken : (r : ℕ) → payloads_before b r ≡ take (taken_before B r) (replicate {A = ℕ} (filler B) 0 ++ b)
    unfolding payloads_before payload taken_before
    payloads_taken zero = refl
    payloads_taken (suc r) =
        rw (payloads_taken r, long_is) (sym (take-add (taken_before B r) (size_of B r - check_length B) (replicate {A = ℕ} (filler B) 0 ++ b)))

    -- all payloads together are the filler and b: nothing is left out, and nothing taken twice
    pub payloads_join : payloads_before b (blocks B) ≡ replicate {A = ℕ} (filler B) 0 ++ b
    payloads_join = payloads_taken (blocks B) ∙ take_all (taken_before B (blocks B)) (replicate {A = ℕ} (filler B) 0 ++ b) long
      where
        long : length (replicate {A = ℕ} (filler B) 0 ++ b) ≤ taken_before B (blocks B)
        long = rw (taken_all, length-append, length-replicate {A = ℕ} (filler B) 0, long_is) (omega arith)

    pub length_payload : (r : ℕ) → r < blocks B → length (payload b r) ≡ size_of B r - check_length B
    unfolding payload
    length_payload r h =
        rw (long_is, length-take, length-drop, length-append, length-replicate, long_is) (omega (arith, taken_within r h))

    -- K_r
    pub length_code_block : (r : ℕ) → r < blocks B → length (code_block b r) ≡ size_of B r
    unfolding code_block check_bits
    length_code_block r h = rw (length-append, length_payload r h, long_is) (elim (dec_le B 6144) [
      | yes s ↦ rw ((single B s).0, (single B s).1) (omega arith)
      | no l ↦ let large : 6144 < B = omega arith in
          rw (ne_eqb (blocks B) 1 (λ e. omega (arith, (several B large).0)), length_bits_of, (several B large).1) (omega (arith, size_large B high large r))
    ])
