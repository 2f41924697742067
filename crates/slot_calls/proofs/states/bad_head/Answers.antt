-- `states::bad_head` meets its contract: the definition's tests in its order.
-- Assumes nothing.
use mathlib.Core.Path.{sym, ◌∙◌}
use Rattle.slots.specs.State.{broken}
use Rattle.slot_calls.proofs.states.bad_head.Goals as goal

pub too_short-requires : goal.too_short-requires
too_short-requires c = sym c.bad_size.ensures ∙ c.if-bad_size.false

pub returns-then-bad_size : goal.returns-then-bad_size
unfolding broken
returns-then-bad_size c = simp (c.if-head.true, ← c.bad_size.ensures, c.if-bad_size.true)

pub returns-then-too_many : goal.returns-then-too_many
unfolding broken
returns-then-too_many c =
    simp (c.if-head.true, ← c.bad_size.ensures, c.if-bad_size.false, ← c.too_many.ensures, c.if-too_many.true)

pub returns-else-too_many : goal.returns-else-too_many
unfolding broken
returns-else-too_many c =
    simp (c.if-head.true, ← c.bad_size.ensures, c.if-bad_size.false, ← c.too_many.ensures, c.if-too_many.false, c.too_short.ensures)

pub returns-else-head : goal.returns-else-head
unfolding broken
returns-else-head c = simp c.if-head.false
