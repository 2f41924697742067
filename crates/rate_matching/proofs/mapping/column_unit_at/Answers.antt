-- `mapping::column_unit_at` meets its contract: the test is that of the definition.
-- Assumes nothing.
use mathlib.Core.Path.{ap}
use Rattle.std.specs.declared.option.Option.TheVariants.{Some}
use Rattle.rate_matching.specs.Units.{column_within}
use Rattle.rate_matching.proofs.mapping.column_unit_at.Goals.{Else-not-there}
use Rattle.rate_matching.proofs.mapping.column_unit_at.Goals as goal

pub returns-then-not-there : goal.returns-then-not-there
unfolding column_within
returns-then-not-there c = let e = c.args in rw (c.if-not-there.true)

pub returns : goal.returns
unfolding column_within
returns c = let e = c.args in rw (c.if-not-there.false) (ap Some c.column_unit.ensures)
