-- What an accepted Build has: the size, the share of the soft buffer, the allocation, the version and the bits of a block that can be sent.
-- Assumes nothing.
use Rattle.std.specs.Prelude.{◌≡◌, false, List, ℕ, ◌+◌, ◌*◌, ◌≤◌, ◌<◌, length}
use Rattle.segmentation.specs.Segmentation.{blocks}
use Rattle.segmentation.specs.Sizes.{bad_size}
use Rattle.codeword.specs.declared.Grant.{Grant}
use Rattle.codeword.specs.Codeword.{block_rows}
use Rattle.codeword.specs.Build.{bad_allocation, bad_bits}

-- an accepted Build for a grant, each code block having a share `soft` of the soft buffer
pub record Accepted (soft : ℕ) (a : List ℕ) (g : Grant) : Type 0 where
  pub size : bad_size (length a) ≡ false
  pub buffer : (r : ℕ) → r < blocks (length a + 24) → 32 * block_rows (length a + 24) r ≤ soft
  pub allocation : bad_allocation (blocks (length a + 24)) g.modulation g.layers g.bits ≡ false
  pub version : g.version ≤ 3
  pub bits : bad_bits a ≡ false
