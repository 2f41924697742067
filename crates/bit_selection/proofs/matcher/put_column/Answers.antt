-- `matcher::put_column` meets its contract: a column of stream 0 (`Ring`).
-- Assumes nothing.
use native.Mathlib.Omega.{arith}
use Rattle.rate_matching.specs.Units.{both_count}
use Rattle.bit_selection.proofs.Ring.{column_lent, put_column}
use Rattle.bit_selection.proofs.matcher.put_column.Goals as goal

pub slice_bounds-read_column-end : goal.slice_bounds-read_column-end
unfolding both_count
slice_bounds-read_column-end c = omega (arith, c.requires.2)

pub read_column-requires : goal.read_column-requires
read_column-requires c = rw (column_lent c.requires.0.lies _ _ c.requires.2) (c.requires.0.column c.requires.1)

pub returns : goal.returns
returns c = put_column c.requires.0.lies _ _ c.requires.2 _ _ c.read_column.ensures
