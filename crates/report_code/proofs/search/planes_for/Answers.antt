-- `search::planes_for` meets its contract: 32 less the leading zeros is the length of the number of turns.
-- Assumes nothing.
use Prim.Native.Nat.{◌+◌, ◌/◌}
use native.Mathlib.Omega.{arith}
use Rattle.report_code.proofs.Planes.{plane_count}
use Rattle.report_code.proofs.search.planes_for.Goals as goal

pub returns : goal.returns
returns c = plane_count ((c.args.length + 31) / 32) (omega (arith, c.requires))
