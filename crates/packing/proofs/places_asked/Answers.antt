-- `places_asked` meets its contract: each form by the test on the way.
-- Assumes nothing.
use Rattle.packing.specs.Store.{places_asked}
use Rattle.packing.proofs.places_asked.Goals as goal

pub returns-then-four : goal.returns-then-four
unfolding places_asked
returns-then-four c = rw (c.if-four.true, c.min.ensures)

pub returns-else-four : goal.returns-else-four
unfolding places_asked
returns-else-four c = simp c.if-four.false
