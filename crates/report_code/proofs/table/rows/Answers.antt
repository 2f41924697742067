-- `table::rows` meets its contract: the constant is the definition's table of masks, entry for entry.
-- Assumes nothing.
use mathlib.Core.Path.{refl}
use Rattle.report_code.specs.Basis.{basis}
use Rattle.report_code.specs.Words.{number_of, row_masks}
use Rattle.report_code.proofs.table.rows.Goals as goal

pub returns : goal.returns
unfolding row_masks number_of basis
returns c = refl
