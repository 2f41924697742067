-- `matcher::turn_after_turn` meets its contract: an empty ring leaves `out` as it is, else it is filled.
-- Assumes nothing.
use mathlib.Core.Path.{◌∙◌}
use borrow.Author.Tests.{eq-eqb, ne_eqb}
use Rattle.bit_selection.specs.Matcher.{repeated_into}
use Rattle.bit_selection.proofs.matcher.turn_after_turn.Goals as goal

pub returns-then-ring-eq0 : goal.returns-then-ring-eq0
unfolding repeated_into
returns-then-ring-eq0 c = simp (eq-eqb _ _ c.if-ring-eq0.true)

pub returns : goal.returns
unfolding repeated_into
returns c = c.fill.ensures ∙ simp (ne_eqb _ _ c.if-ring-eq0.false)
