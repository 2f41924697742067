-- A head's share of the soft buffer, 02 E6: what it tells that no N_cb is below 32·R, that an uplink's share is always long enough, and number 21 by the share.
-- Assumes nothing.
use mathlib.Core.Path.{◌≡◌, refl, sym, ◌∙◌}
use mathlib.Core.Bool.{Bool, true, false, ◌||◌}
use Prim.Native.Nat.{ℕ, ◌+◌, ◌*◌, ◌≤◌}
use native.Mathlib.Omega.{arith}
use borrow.Author.Tests.{lt-ltb, le-ltb, ltb-false, ne_eqb}
use Rattle.segmentation.specs.Segmentation.{blocks, long}
use Rattle.segmentation.specs.Sizes.{bad_size}
use Rattle.segmentation.proofs.Segmentation.{in_range, blocks_least, long_most}
use Rattle.rate_matching.specs.SubBlocks.{rows}
use Rattle.rate_matching.specs.SoftBuffer.{soft_share}
use Rattle.codeword.specs.Codeword.{block_rows}
use Rattle.codeword.specs.Downlink.{bad_receiver, too_short, bad_buffer, share_for}
use Rattle.codeword.proofs.SoftShares.{rows_under, short_told}
use Rattle.slots.proofs.Tests.{or_left, or_right}

-- long enough for every code block of a sequence of B bits: 32·R or more
abbrev pub Wide : ℕ → ℕ → Type 0
Wide soft B = (r : ℕ) → 32 * block_rows B r ≤ soft

some_rows : (K : ℕ) → 1 ≤ rows (K + 4)
unfolding rows
some_rows K = omega arith

module _ (A : ℕ) (admitted : bad_size A ≡ false) where
  high : A + 24 ≤ 30600
  high = omega (arith, in_range A admitted)

  pub short_wide : (soft : ℕ) → too_short soft (A + 24) (blocks (A + 24)) ≡ false → Wide soft (A + 24)
  short_wide soft e r =
      omega (arith, rows_under (A + 24) high r, ltb-false soft (32 * rows (long (A + 24) + 4)) (sym (short_told (A + 24) high soft) ∙ e))

  -- no code block has more than 193 rows
  pub long_share : (soft : ℕ) → 6176 ≤ soft → too_short soft (A + 24) (blocks (A + 24)) ≡ false
  unfolding rows
  long_share soft h = short_told (A + 24) high soft ∙ le-ltb soft (32 * rows (long (A + 24) + 4)) (omega (arith, long_most (A + 24) high))

  -- ---- number 21

  module _ (release k_mimo processes Nsoft layers : ℕ) where
    -- the share as it is found
    abbrev pub found : ℕ
    found = share_for (blocks (A + 24)) release k_mimo processes Nsoft layers

    used : bad_receiver release k_mimo processes ≡ false → found ≡ soft_share (blocks (A + 24)) release k_mimo processes Nsoft layers
    unfolding share_for
    used e = simp (ne_eqb (blocks (A + 24)) 0 (λ z. omega (arith, blocks_least (A + 24) high)), e)

    unused : bad_receiver release k_mimo processes ≡ true → found ≡ 0
    unfolding share_for
    unused e = simp (ne_eqb (blocks (A + 24)) 0 (λ z. omega (arith, blocks_least (A + 24) high)), e)

    -- a refused receiver has none, which is too short
    pub buffer_found : too_short found (A + 24) (blocks (A + 24)) ≡ bad_buffer (A + 24) release k_mimo processes Nsoft layers
    unfolding bad_buffer
    buffer_found = go (bad_receiver release k_mimo processes) refl
      where
        go : (t : Bool) → bad_receiver release k_mimo processes ≡ t
            → too_short found (A + 24) (blocks (A + 24)) ≡ (bad_receiver release k_mimo processes || too_short (soft_share (blocks (A + 24)) release k_mimo processes Nsoft layers) (A + 24) (blocks (A + 24)))
        go true e = rw (e, unused e) (short_told (A + 24) high 0 ∙ lt-ltb 0 (32 * rows (long (A + 24) + 4)) (omega (arith, some_rows (long (A + 24)))))
        go false e = rw (e, used e)

    -- an accepted one has the standard's
    pub share_found : bad_buffer (A + 24) release k_mimo processes Nsoft layers ≡ false → found ≡ soft_share (blocks (A + 24)) release k_mimo processes Nsoft layers
    unfolding bad_buffer
    share_found e = used (or_left (bad_receiver release k_mimo processes) _ e)

    pub share_enough : bad_buffer (A + 24) release k_mimo processes Nsoft layers ≡ false
        → too_short (soft_share (blocks (A + 24)) release k_mimo processes Nsoft layers) (A + 24) (blocks (A + 24)) ≡ false
    unfolding bad_buffer
    share_enough e = or_right (bad_receiver release k_mimo processes) _ e
