-- `units::put_units` meets its contract: columns, pairs, or columns and then pairs (`Walking`).
-- Assumes nothing.
use native.Mathlib.Omega.{arith}
use Rattle.bit_placement.proofs.Walking.{columns_pairs}
use Rattle.bit_placement.proofs.units.put_units.Goals as goal

pub returns : goal.returns
returns c = columns_pairs _ _ _ _ (omega arith) (omega arith) c.put_columns-mid.ensures c.put_pairs-2.ensures
