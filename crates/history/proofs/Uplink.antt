-- An uplink's circles are not cut, 02 E6: the places that its transmissions send are those of the whole circle from R·(24·v + 2) on.
-- Assumes nothing.
use mathlib.Core.Path.{◌≡◌, ap}
use mathlib.Core.List.{List}
use Prim.Native.Nat.{ℕ, ◌+◌, ◌≤◌}
use native.Mathlib.Omega.{arith}
use lib.Seq.{take_all}
use Rattle.segmentation.specs.Segmentation.{blocks, size_of, filler_of}
use Rattle.segmentation.proofs.Segmentation.{size_most}
use Rattle.segmentation.proofs.CodeBlocks.{filler_within}
use Rattle.rate_matching.specs.SubBlocks.{rows}
use Rattle.rate_matching.specs.Circle.{circle_length, start_in, start_of}
use Rattle.rate_matching.specs.SoftBuffer.{whole_share}
use Rattle.rate_matching.specs.Walk.{sent_places}
use Rattle.rate_matching.specs.Shape.{shape}
use Rattle.rate_matching.proofs.SoftBuffer.{uplink_whole}
use Rattle.rate_matching.proofs.ShapeTurn.{length_shape}
use Rattle.codeword.specs.declared.Grant.{Grant}
use Rattle.codeword.specs.Shares.{granted}
use Rattle.codeword.specs.Codeword.{block_rows, block_cut}
use Rattle.slots.specs.Reception.{block_places}

module _ (A : ℕ) (most : A ≤ 30576) where
  -- N_cb is K_w
  pub uncut : (r : ℕ) → block_cut whole_share (A + 24) r ≡ circle_length (block_rows (A + 24) r)
  unfolding block_cut block_rows rows
  uncut r = uplink_whole (rows (size_of (A + 24) r + 4)) (omega (arith, size_most (A + 24) (omega arith) r))

  pub whole_places : (g : Grant) (r : ℕ)
      → block_places whole_share (A + 24) g r
      ≡ sent_places (shape (size_of (A + 24) r + 4) (filler_of (A + 24) r)) (start_of (block_rows (A + 24) r) g.version) (granted (blocks (A + 24)) g r)
  unfolding block_places start_of block_rows
  whole_places g r =
      rw (uncut r)
      (ap (λ (w : List ℕ). sent_places w (start_in (circle_length (rows (size_of (A + 24) r + 4))) (rows (size_of (A + 24) r + 4)) g.version) (granted (blocks (A + 24)) g r))
      (take_all (circle_length (rows (size_of (A + 24) r + 4))) (shape (size_of (A + 24) r + 4) (filler_of (A + 24) r))
      (omega (arith, length_shape (size_of (A + 24) r + 4) (filler_of (A + 24) r) (omega (arith, filler_within (A + 24) (omega arith) (omega arith) r))))))
