-- What the parts of Build may take for granted: a code block that is sent.
-- Assumes nothing.
use Rattle.std.specs.Prelude.{◌≡◌, false, cond, List, ℕ, ◌+◌, ◌*◌, ◌≤◌, ◌<◌, ltb, length}
use Rattle.segmentation.specs.declared.Segments.{Segments}
use Rattle.segmentation.specs.Segmentation.{blocks, long}
use Rattle.segmentation.specs.Sizes.{bad_size, segments_of}
use Rattle.rate_matching.specs.SubBlocks.{rows}
use Rattle.codeword.specs.declared.Grant.{Grant}
use Rattle.codeword.specs.Codeword.{block_rows}
use Rattle.codeword.specs.Build.{bad_bits, build_number}

-- code block r of a block a, whose segmentation is s, in redundancy version v
pub record Sending (soft : ℕ) (a : List ℕ) (s : Segments) (r v : ℕ) : Type 0 where
  pub size : bad_size (length a) ≡ false
  pub buffer : 32 * block_rows (length a + 24) r ≤ soft
  pub segments : s ≡ segments_of (length a + 24)
  pub below : r < blocks (length a + 24)
  pub version : v ≤ 3
  pub bits : bad_bits a ≡ false

-- rooms for the three streams of a code block of K bits
pub record Roomy (K d0 d1 d2 : ℕ) : Type 0 where
  pub first : d0 ≡ K + 4
  pub second : d1 ≡ K + 4
  pub third : d2 ≡ K + 4

-- the number of a Build for a downlink whose code blocks have the share `soft`, 0 where the receiver is refused: the longest code block has the most rows
unfoldable pub number_with : List ℕ → ℕ → Grant → ℕ → ℕ
number_with a soft g size =
    cond (bad_size (length a)) 1 (cond (ltb soft (32 * rows (long (length a + 24) + 4))) 21 (build_number a g size))
