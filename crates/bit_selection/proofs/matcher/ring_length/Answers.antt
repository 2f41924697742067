-- `matcher::ring_length` meets its contract: the smaller of both counts.
-- Assumes nothing.
use mathlib.Core.Path.{◌∙◌}
use native.Mathlib.Omega.{arith}
use Rattle.rate_matching.specs.SubBlocks.{rows}
use Rattle.bit_selection.proofs.Block.{ring_least}
use Rattle.bit_selection.proofs.matcher.ring_length.Goals as goal

pub overflow_mul-rows : goal.overflow_mul-rows
unfolding rows
overflow_mul-rows c = omega arith

pub overflow_add-e : goal.overflow_add-e
unfolding rows
overflow_add-e c = omega arith

pub overflow_mul-rows-2 : goal.overflow_mul-rows-2
unfolding rows
overflow_mul-rows-2 c = omega arith

pub returns : goal.returns
returns c = c.min.ensures ∙ rw c.rows_of-rows.ensures (ring_least _ _)
