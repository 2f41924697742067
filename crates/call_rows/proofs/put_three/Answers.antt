-- `call_rows::put_three` meets its contract: three parts of the runs.
-- Assumes nothing.
use native.Mathlib.Omega.{arith}
use Rattle.laws.proofs.Parts.{front_count}
use Rattle.call_rows.proofs.put_three.Goals as goal

pub slice_bounds-put_runs-end : goal.slice_bounds-put_runs-end
slice_bounds-put_runs-end c = front_count _ _ (omega arith)
