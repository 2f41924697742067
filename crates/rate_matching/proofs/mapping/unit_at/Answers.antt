-- `mapping::unit_at` meets its contract: a unit is of one of the two kinds.
-- Assumes nothing.
use mathlib.Core.Path.{◌∙◌}
use Rattle.rate_matching.proofs.UnitPlaces.{column_is, pair_is}
use Rattle.rate_matching.proofs.mapping.unit_at.Goals as goal

pub returns-then-u-lt32 : goal.returns-then-u-lt32
returns-then-u-lt32 c = c.column_unit_at.ensures ∙ column_is _ _ c.if-u-lt32.true

pub returns : goal.returns
returns c = c.pair_unit_at.ensures ∙ pair_is _ _ c.if-u-lt32.false
