-- `table::column_at` meets its contract: the 32 columns by the rule, and 0 past them.
-- Assumes nothing.
use mathlib.Core.Path.{sym, ◌∙◌}
use native.Mathlib.Omega.{arith}
use Rattle.rate_matching.proofs.Columns.{column_turned, column_past}
use Rattle.rate_matching.proofs.table.column_at.Goals as goal

pub returns-then-c-lt32 : goal.returns-then-c-lt32
returns-then-c-lt32 c = c.from.ensures ∙ c.turned.ensures ∙ sym (column_turned _ (omega arith))

pub returns-else-c-lt32 : goal.returns-else-c-lt32
returns-else-c-lt32 c = sym (column_past _ (omega arith))
