-- `table::turned` meets its contract: the five bits stand where the rule puts them.
-- Assumes nothing.
use mathlib.Core.Path.{sym}
use Rattle.rate_matching.proofs.Columns.{rule_is}
use Rattle.rate_matching.proofs.table.turned.Goals as goal

pub returns : goal.returns
returns c = sym (rule_is _)
