-- The rows of both kinds of Build have at most 172,804 bytes: the codeword of an accepted one has as many bits as its grant.
-- Assumes nothing.
use mathlib.Core.Path.{◌≡◌, refl, sym, ◌∙◌, ap}
use mathlib.Core.Bool.{Bool, true, false, cond}
use mathlib.Core.List.{List, []}
use Prim.Native.Nat.{ℕ, zero, suc, ◌+◌, ◌≤◌}
use native.Mathlib.Nat.{zero-add, add-zero, suc-add, add-suc}
use native.Mathlib.Omega.{arith}
use lib.Dec.{eqb}
use borrow.Author.Tests.{eqb-true, eq-eqb}
use lib.ListN.{length, length-append}
use Rattle.segmentation.specs.Segmentation.{blocks}
use Rattle.segmentation.specs.Sizes.{bad_size}
use Rattle.segmentation.specs.CodeBlocks.{with_check}
use Rattle.segmentation.proofs.Segmentation.{in_range, blocks_least}
use Rattle.rate_matching.specs.SoftBuffer.{soft_share, whole_share}
use Rattle.codeword.specs.declared.Grant.{Grant}
use Rattle.codeword.specs.Shares.{shares_before, granted_before}
use Rattle.codeword.specs.Codeword.{block_bits, bits_from, codeword_in, codeword}
use Rattle.codeword.specs.Build.{bad_allocation, build_number}
use Rattle.codeword.specs.Downlink.{build_down_number}
use Rattle.codeword.proofs.Accepted.{allocated}
use Rattle.codeword.proofs.Shares.{shares_all}
use Rattle.codeword.proofs.Numbers.{rest}
use Rattle.codeword.proofs.SoftShares.{accepted_down}
use Rattle.codeword.proofs.Taken.{length_block_bits, length_with_check}
use Rattle.answers.specs.Rows.{run_row, refusal_row}
use Rattle.answers.proofs.Runs.{run_length}
use Rattle.call_rows.specs.Rooms.{build_room}
use Rattle.call_rows.specs.Rows.{built_row, build_row, build_down_row}
use Rattle.row_lengths.proofs.Numbers.{refused_length}
use Rattle.row_lengths.proofs.Refusals.{build_most, build_down_most}

-- ---- the codeword

-- the bits of n code blocks from r on follow those before r
joined : (soft : ℕ) (b : List ℕ) (g : Grant) (r n : ℕ)
    → granted_before (blocks (length b)) g r + length (bits_from soft b g r n) ≡ granted_before (blocks (length b)) g (r + n)
unfolding bits_from shares_before
joined soft b g r zero = simp add-zero
joined soft b g r (suc n) =
    let rest : granted_before (blocks (length b)) g (suc r) + length (bits_from soft b g (suc r) n) ≡ granted_before (blocks (length b)) g (r + suc n) =
    joined soft b g (suc r) n ∙ ap (granted_before (blocks (length b)) g) (suc-add r n ∙ sym (add-suc r n)) in
    omega (arith, rest, length-append (block_bits soft b g r) (bits_from soft b g (suc r) n), length_block_bits soft b g r)

module _ (soft : ℕ) (a : List ℕ) (g : Grant) (size : bad_size (length a) ≡ false)
    (allocation : bad_allocation (blocks (length a + 24)) g.modulation g.layers g.bits ≡ false) where
  codeword_length : length (codeword_in soft a g) ≡ g.bits
  unfolding codeword_in shares_before
  codeword_length =
      let all = rw (length_with_check a, zero-add (blocks (length a + 24))) at (joined soft (with_check a) g 0 (blocks (length a + 24))) in
      omega (
        arith,
        all,
        shares_all (blocks (length a + 24)) g.modulation g.layers g.bits (blocks_least (length a + 24) (omega (arith, (in_range (length a) size).1)))
            (allocated _ _ _ _ allocation).multiple,
      )

  codeword_most : length (codeword_in soft a g) ≤ 172800
  codeword_most = omega (arith, codeword_length, (allocated _ _ _ _ allocation).most)

-- ---- its row, or the refusal's

pub refusal_length : (number : ℕ) → number ≤ 21 → length (refusal_row number) ≤ 50
unfolding refusal_row
refusal_length number most = omega (arith, refused_length number [] (omega arith) tt)

built_length : (number : ℕ) (code : List ℕ) → number ≤ 21 → (number ≡ 0 → length code ≤ 172800) → length (built_row number code) ≤ 172804
unfolding built_row
built_length number code most short = go (eqb number 0) refl
  where
    go : (t : Bool) → eqb number 0 ≡ t → length (cond t (run_row code) (refusal_row number)) ≤ 172804
    go true e = omega (arith, run_length code, short (eqb-true number 0 e))
    go false e = omega (arith, refusal_length number most)

pub build_length : (block : List ℕ) (g : Grant) → length (build_row block g) ≤ 172804
unfolding build_row codeword
build_length block g =
    built_length (build_number block g build_room) (codeword_in whole_share block g) (build_most block g build_room)
    (λ e. let told = rest block g build_room e in codeword_most whole_share block g told.size told.allocation)

pub build_down_length : (block : List ℕ) (release k_mimo processes Nsoft layers : ℕ) (g : Grant) → length (build_down_row block release k_mimo processes Nsoft layers g) ≤ 172804
unfolding build_down_row
build_down_length block release k_mimo processes Nsoft layers g =
    built_length (build_down_number block release k_mimo processes Nsoft layers g build_room) (codeword_in (soft_share (blocks (length block + 24)) release k_mimo processes Nsoft layers) block g)
    (build_down_most block release k_mimo processes Nsoft layers g build_room)
    (λ e.
    let told = (accepted_down block release k_mimo processes Nsoft layers g build_room e).0 in
    codeword_most (soft_share (blocks (length block + 24)) release k_mimo processes Nsoft layers) block g told.size told.allocation)

-- an accepted Build has four bytes more than its grant has bits
pub build_exactly : (block : List ℕ) (g : Grant) → build_number block g build_room ≡ 0 → length (build_row block g) ≡ 4 + g.bits
unfolding build_row built_row codeword
build_exactly block g e =
    let told = rest block g build_room e in
    rw (eq-eqb (build_number block g build_room) 0 e)
    (omega (arith, run_length (codeword_in whole_share block g), codeword_length whole_share block g told.size told.allocation))
