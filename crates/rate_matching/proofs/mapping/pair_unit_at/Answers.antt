-- `mapping::pair_unit_at` meets its contract: the test is that of the definition.
-- Assumes nothing.
use mathlib.Core.Path.{ap}
use Rattle.std.specs.declared.option.Option.TheVariants.{Some}
use Rattle.rate_matching.specs.Units.{pair_within}
use Rattle.rate_matching.proofs.mapping.pair_unit_at.Goals.{Else-not-there}
use Rattle.rate_matching.proofs.mapping.pair_unit_at.Goals as goal

pub returns-then-not-there : goal.returns-then-not-there
unfolding pair_within
returns-then-not-there c = let e = c.args in rw (c.if-not-there.true)

pub returns : goal.returns
unfolding pair_within
returns c = let e = c.args in rw (c.if-not-there.false) (ap Some c.pair_unit.ensures)
