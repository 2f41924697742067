-- `matcher::match_block` meets its contract: the ring that is chosen is long enough, and no block needs a longer one than the last.
-- Assumes nothing.
use native.Mathlib.Omega.{arith}
use Rattle.bit_selection.proofs.Block.{ring_most}
use Rattle.bit_selection.proofs.matcher.match_block.Goals as goal

pub match_in-requires-2 : goal.match_in-requires-2
match_in-requires-2 c = (c.requires.0, ring_most _ _ c.args.of.fits.most, omega arith, c.requires.1)
