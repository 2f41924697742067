-- An uplink's circles are not cut: what a code block sends is what its whole circle sends from R·(24·v + 2) on.
-- Assumes nothing.
use mathlib.Core.Path.{◌≡◌, ap}
use mathlib.Core.List.{List}
use Prim.Native.Nat.{ℕ, ◌+◌, ◌≤◌, ◌<◌}
use native.Mathlib.Omega.{arith}
use lib.ListN.{length}
use lib.Seq.{take_all}
use Rattle.laws.specs.Bits.{AreBits}
use Rattle.segmentation.specs.Segmentation.{blocks, size_of}
use Rattle.segmentation.proofs.Segmentation.{size_most}
use Rattle.rate_matching.specs.SubBlocks.{rows}
use Rattle.rate_matching.specs.Circle.{circle_length, cut_at, start_in, start_of}
use Rattle.rate_matching.specs.SoftBuffer.{whole_share}
use Rattle.rate_matching.specs.Walk.{selected}
use Rattle.rate_matching.proofs.Circle.{length_circle}
use Rattle.codeword.specs.declared.Grant.{Grant}
use Rattle.codeword.specs.Shares.{granted}
use Rattle.codeword.specs.Codeword.{block_circle, block_rows, block_cut, sent_bits, block_bits}
use Rattle.codeword.proofs.Data.{block_filled}

module _ (b : List ℕ) (B : ℕ) (low : 24 ≤ B) (high : B ≤ 30600) (long : length b ≡ B) (bits : AreBits b) (r : ℕ) (below : r < blocks B) where
  -- N_cb is K_w
  uncut : block_cut whole_share B r ≡ circle_length (block_rows B r)
  unfolding block_cut cut_at circle_length block_rows rows
  uncut = omega (arith, size_most B high r)

  whole_circle : length (block_circle b r) ≡ circle_length (block_rows B r)
  unfolding block_circle block_rows
  whole_circle = let f = block_filled B low high b long r below bits in rw long (length_circle (size_of B r + 4) _ _ _ f.long0 f.long1 f.long2)

  pub uplink_sent : (g : Grant) → block_bits whole_share b g r ≡ selected (block_circle b r) (start_of (block_rows B r) g.version) (granted (blocks B) g r)
  unfolding block_bits sent_bits start_of
  uplink_sent g =
      rw (long, uncut)
      (ap (λ (w : List ℕ). selected w (start_in (circle_length (block_rows B r)) (block_rows B r) g.version) (granted (blocks B) g r))
      (take_all (circle_length (block_rows B r)) (block_circle b r) (omega (arith, whole_circle))))
