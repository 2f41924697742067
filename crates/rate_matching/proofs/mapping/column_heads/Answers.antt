-- `mapping::column_heads` meets its contract: the test is that of the definition.
-- Assumes nothing.
use mathlib.Core.Path.{ap}
use Rattle.std.specs.declared.option.Option.TheVariants.{Some}
use Rattle.rate_matching.specs.Matrix.{heads_within}
use Rattle.rate_matching.proofs.mapping.column_heads.Goals.{Else-not-there}
use Rattle.rate_matching.proofs.mapping.column_heads.Goals as goal

pub returns-then-not-there : goal.returns-then-not-there
unfolding heads_within
returns-then-not-there c = let e = c.args in rw (c.if-not-there.true)

pub returns : goal.returns
unfolding heads_within
returns c = rw (c.if-not-there.false) (ap Some c.heads_of.ensures)
