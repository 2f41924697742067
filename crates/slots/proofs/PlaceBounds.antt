-- Each place that a code block of an admitted size has on its circle is one of the bytes that a room has for it.
-- Assumes nothing.
use mathlib.Core.Path.{◌≡◌}
use mathlib.Core.Bool.{false}
use Prim.Native.Nat.{ℕ, ◌+◌, ◌≤◌, ◌<◌}
use native.Mathlib.Omega.{arith}
use lib.ListN.{length, take}
use borrow.Author.Tests.{ltb-false}
use Rattle.laws.proofs.Tab.{length_tab, get_or_tab}
use Rattle.interleaver.proofs.Rows.{row_keeps}
use Rattle.segmentation.specs.Segmentation.{blocks, size_of, filler_of}
use Rattle.segmentation.specs.Sizes.{bad_size}
use Rattle.segmentation.proofs.Segmentation.{in_range, size_row, row_below, size_most}
use Rattle.segmentation.proofs.CodeBlocks.{filler_within}
use Rattle.rate_matching.specs.SubBlocks.{rows}
use Rattle.rate_matching.specs.Circle.{circle_length, Cut, start_in}
use Rattle.rate_matching.specs.Walk.{turn, turn_after_turn, sent_places}
use Rattle.rate_matching.specs.Places.{place_number, place_of}
use Rattle.rate_matching.specs.Shape.{shape}
use Rattle.rate_matching.proofs.Cut.{sent_before}
use Rattle.rate_matching.proofs.Places.{place_on_circle}
use Rattle.rate_matching.proofs.ShapeTurn as ShapeTurn
use Rattle.codeword.specs.Build.{bad_version}
use Rattle.codeword.specs.Codeword.{block_rows, block_cut}
use Rattle.codeword.specs.declared.Grant.{Grant}
use Rattle.codeword.specs.Shares.{granted}
use Rattle.codeword.proofs.SoftShares.{cut_told}
use Rattle.slots.specs.State.{per_block}
use Rattle.slots.specs.Reception.{block_places}
use Rattle.slots.proofs.Buffers.{Wide}
use Rattle.slots.proofs.RoomLaws.{Places}

module _ (A : ℕ) (admitted : bad_size A ≡ false) where
  -- B is at most 30,600
  high : A + 24 ≤ 30600
  high = omega (arith, in_range A admitted)

  -- the longest circle has 96·193 places
  circle_most : (r : ℕ) → circle_length (rows (size_of (A + 24) r + 4)) ≤ per_block
  unfolding circle_length rows
  circle_most r = omega (arith, size_most (A + 24) high r)

  rows_pos : (r : ℕ) → 0 < rows (size_of (A + 24) r + 4)
  unfolding rows
  rows_pos r = omega arith

  pub length_shape : (r : ℕ) → length (shape (size_of (A + 24) r + 4) (filler_of (A + 24) r)) ≡ circle_length (rows (size_of (A + 24) r + 4))
  length_shape r = ShapeTurn.length_shape (size_of (A + 24) r + 4) (filler_of (A + 24) r) (omega (arith, filler_within (A + 24) high (omega arith) r))

  -- K + 4
  pub streams_least : (r : ℕ) → 44 ≤ size_of (A + 24) r + 4
  streams_least r = omega (arith, (row_keeps _ (row_below (A + 24) high r)).least, size_row (A + 24) high r)

  pub filler_fewer : (r : ℕ) → filler_of (A + 24) r < size_of (A + 24) r + 4
  filler_fewer r = omega (arith, filler_within (A + 24) high (omega arith) r)

  module _ {soft : ℕ} (wide : Wide soft (A + 24)) where
    -- where the circle of a code block is cut
    pub block_cut_lem : (r : ℕ) → Cut (block_cut soft (A + 24) r) (rows (size_of (A + 24) r + 4))
    unfolding block_cut block_rows
    block_cut_lem r = cut_told (rows (size_of (A + 24) r + 4)) (rows_pos r) (wide r)

    -- the places that a code block sends
    pub sent_below : (g : Grant) (r : ℕ) → bad_version g.version ≡ false → Places (block_places soft (A + 24) g r)
    unfolding block_places sent_places block_rows bad_version
    sent_below g r low i l =
        rw (get_or_tab E places i 0 (rw (length_tab E places) at l))
        (omega (arith, sent_before (streams_least r) (filler_fewer r) (block_cut_lem r) (ltb-false 3 g.version low) i, (block_cut_lem r).most, circle_most r))
      where
        E : ℕ
        E = granted (blocks (A + 24)) g r

        places : ℕ → ℕ
        places = turn_after_turn (turn (take (block_cut soft (A + 24) r) (shape (size_of (A + 24) r + 4) (filler_of (A + 24) r))) (start_in (block_cut soft (A + 24) r) (rows (size_of (A + 24) r + 4)) g.version))

  -- the place of a stream's place
  pub place_below : (r s i : ℕ) → s < 3 → i < size_of (A + 24) r + 4 → place_number (size_of (A + 24) r + 4) s i < per_block
  unfolding place_of
  place_below r s i h l = omega (arith, circle_most r, place_on_circle (size_of (A + 24) r + 4) (s, i) (record { stream = h; place = l }))
