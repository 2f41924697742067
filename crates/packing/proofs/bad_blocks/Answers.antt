-- `bad_blocks` meets its contract: one case for each side of the `||`.
-- Assumes nothing.
use borrow.Author.Tests.{eq-eqb, ne_eqb}
use Rattle.packing.specs.Change.{bad_blocks}
use Rattle.packing.proofs.bad_blocks.Goals as goal

pub returns-then-m-eq0 : goal.returns-then-m-eq0
unfolding bad_blocks
returns-then-m-eq0 c = simp (eq-eqb _ _ c.if-m-eq0.true)

pub returns-else-m-eq0 : goal.returns-else-m-eq0
unfolding bad_blocks
returns-else-m-eq0 c = simp (ne_eqb _ _ c.if-m-eq0.false)
