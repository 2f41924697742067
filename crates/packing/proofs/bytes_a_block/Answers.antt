-- `bytes_a_block` meets its contract: each form by the test on the way.
-- Assumes nothing.
use Rattle.packing.specs.Store.{bytes_a_block}
use Rattle.packing.proofs.bytes_a_block.Goals as goal

pub returns-then-four : goal.returns-then-four
unfolding bytes_a_block
returns-then-four c = simp c.if-four.true

pub returns-else-four : goal.returns-else-four
unfolding bytes_a_block
returns-else-four c = simp c.if-four.false
