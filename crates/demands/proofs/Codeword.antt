-- Demand 2: the codeword is, bit for bit, what TS 36.212 gives; each promise with all its premises. Where a definition of the code puts a wording of the standard otherwise,
-- the two are equal: bit selection here, and `matrix_read`, `minimum_rows` (5.1.4.1.1), `loop_fills` (5.1.2), `transfer_function` (5.1.3.2.1).
-- Assumes nothing.
use mathlib.Core.Path.{◌≡◌, ◌∙◌, ap, ap₂}
use mathlib.Core.List.{List, map}
use Prim.Native.Nat.{ℕ, ◌+◌, ◌*◌, ◌≤◌, ◌<◌}
use native.Mathlib.Omega.{arith}
use lib.ListN.{length, take, drop}
use lib.Seq.{take_all}
use Rattle.segmentation.specs.Segmentation.{blocks}
use Rattle.segmentation.specs.CodeBlocks.{with_check}
use Rattle.rate_matching.specs.Circle.{circle_length, cut_at, start_in, start_of}
use Rattle.rate_matching.specs.SoftBuffer.{soft_share, whole_share}
use Rattle.rate_matching.specs.Walk.{on_circle, loop}
use Rattle.codeword.specs.declared.Grant.{Grant}
use Rattle.codeword.specs.Shares.{granted, granted_before}
use Rattle.codeword.specs.Codeword.{block_circle, block_rows, block_cut, codeword_in, codeword}
use Rattle.codeword.specs.Build.{build_number}
use Rattle.codeword.specs.Downlink.{build_down_number}
use Rattle.codeword.specs.inner.Accepted.{Accepted}
use Rattle.codeword.proofs.Numbers.{accepted}
use Rattle.codeword.proofs.SoftShares.{accepted_down, share_told}
use Rattle.slots.specs.Reception.{block_places}
use Rattle.demands.proofs.Stretch.{high, circle_long, stretch_by_loop, stretch_by_places, uncut}

-- ---- the two builds

-- For every accepted Build and every code block: the bits of the block's stretch of the codeword are those of the loop over its whole circle, N_cb = 96·R.
pub build_is_the_loop : (a : List ℕ) (g : Grant) (lent : ℕ) → build_number a g lent ≡ 0 → (r : ℕ) → r < blocks (length a + 24)
    → let B : ℕ = length a + 24 in
    let E : ℕ = granted (blocks B) g r in
    (fuel : ℕ) → E * circle_length (block_rows B r) ≤ fuel
    → take E (drop (granted_before (blocks B) g r) (codeword a g)) ≡ loop fuel (block_circle (with_check a) r) (start_of (block_rows B r) g.version) 0 E
unfolding codeword start_of
build_is_the_loop a g lent number r below fuel turns =
    let ok = (accepted a g lent number).0 in
    let whole = uncut (length a + 24) (high whole_share a g ok r below) r in
    stretch_by_loop whole_share a g ok r below fuel (rw whole turns)
    ∙ ap₂ (λ (w : List ℕ) (n : ℕ). loop fuel w (start_in n (block_rows (length a + 24) r) g.version) 0 (granted (blocks (length a + 24)) g r))
    (take_all (block_cut whole_share (length a + 24) r) (block_circle (with_check a) r) (omega (arith, whole, circle_long whole_share a g ok r below)))
    whole

-- For every accepted Build for a downlink likewise, the circle cut at N_cb = min(⌊N_IR / C⌋, K_w).
pub build_down_is_the_loop : (a : List ℕ) (release k_mimo processes Nsoft layers : ℕ) (g : Grant) (lent : ℕ)
    → build_down_number a release k_mimo processes Nsoft layers g lent ≡ 0 → (r : ℕ) → r < blocks (length a + 24)
    → let B : ℕ = length a + 24 in
    let soft : ℕ = soft_share (blocks B) release k_mimo processes Nsoft layers in
    let Ncb : ℕ = cut_at soft (block_rows B r) in
    let E : ℕ = granted (blocks B) g r in
    (fuel : ℕ) → E * Ncb ≤ fuel
    → take E (drop (granted_before (blocks B) g r) (codeword_in soft a g)) ≡ loop fuel (take Ncb (block_circle (with_check a) r)) (start_in Ncb (block_rows B r) g.version) 0 E
unfolding block_cut
build_down_is_the_loop a release k_mimo processes Nsoft layers g lent number r below fuel turns =
    let soft : ℕ = soft_share (blocks (length a + 24)) release k_mimo processes Nsoft layers in
    let ok : Accepted soft a g =
    rw (share_told a release k_mimo processes Nsoft layers g lent number) at (accepted_down a release k_mimo processes Nsoft layers g lent number).0 in
    stretch_by_loop soft a g ok r below fuel turns

-- ---- received bits go back to the places that the same rules name

-- Bit k of a code block's stretch of an accepted Build is what the circle holds at place k of those where a Receive with that grant's Q, N, version and G, of a slot that is open for an
-- uplink, puts the bits of its stretch.
pub receive_takes_back : (a : List ℕ) (g : Grant) (lent : ℕ) → build_number a g lent ≡ 0 → (r : ℕ) → r < blocks (length a + 24)
    → let B : ℕ = length a + 24 in
    take (granted (blocks B) g r) (drop (granted_before (blocks B) g r) (codeword a g))
    ≡ map (on_circle (block_circle (with_check a) r)) (block_places whole_share B g r)
unfolding codeword
receive_takes_back a g lent number r below =
    let ok = (accepted a g lent number).0 in
    let whole = uncut (length a + 24) (high whole_share a g ok r below) r in
    stretch_by_places whole_share a g ok r below
    ∙ ap (λ (w : List ℕ). map (on_circle w) (block_places whole_share (length a + 24) g r))
    (take_all (block_cut whole_share (length a + 24) r) (block_circle (with_check a) r) (omega (arith, whole, circle_long whole_share a g ok r below)))

-- The same of a downlink, with the share that Build for it and the head have.
pub receive_down_takes_back : (a : List ℕ) (release k_mimo processes Nsoft layers : ℕ) (g : Grant) (lent : ℕ)
    → build_down_number a release k_mimo processes Nsoft layers g lent ≡ 0 → (r : ℕ) → r < blocks (length a + 24)
    → let B : ℕ = length a + 24 in
    let soft : ℕ = soft_share (blocks B) release k_mimo processes Nsoft layers in
    take (granted (blocks B) g r) (drop (granted_before (blocks B) g r) (codeword_in soft a g))
    ≡ map (on_circle (take (cut_at soft (block_rows B r)) (block_circle (with_check a) r))) (block_places soft B g r)
unfolding block_cut
receive_down_takes_back a release k_mimo processes Nsoft layers g lent number r below =
    let soft : ℕ = soft_share (blocks (length a + 24)) release k_mimo processes Nsoft layers in
    let ok : Accepted soft a g =
    rw (share_told a release k_mimo processes Nsoft layers g lent number) at (accepted_down a release k_mimo processes Nsoft layers g lent number).0 in
    stretch_by_places soft a g ok r below
