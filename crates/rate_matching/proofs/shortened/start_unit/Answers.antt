-- `shortened::start_unit` meets its contract: the number that it hands on is the definition's, and small.
-- Assumes nothing.
use Prim.Native.Nat.{◌*◌, ◌≤◌}
use native.Mathlib.Nat.{mul-le-mul_left}
use native.Mathlib.Omega.{arith}
use Rattle.rate_matching.specs.Circle.{circle_length}
use Rattle.rate_matching.specs.Units.{start_unit}
use Rattle.rate_matching.proofs.Circle.{eighths, eighths_told}
use Rattle.rate_matching.proofs.shortened.start_unit.Goals.{Start}
use Rattle.rate_matching.proofs.shortened.start_unit.Goals as goal

-- ⌈N_cb / 8R⌉·v is small
few : (c : Start) → eighths c.args.ncb c.args.rows * c.args.version ≤ 36
few c =
    let n = eighths c.args.ncb c.args.rows in
    omega (arith, (eighths_told c.requires.0).high, mul-le-mul_left n c.requires.2)

pub overflow_add-ncb : goal.overflow_add-ncb
unfolding circle_length
overflow_add-ncb c = omega (arith, c.requires.0.most, c.requires.1)

pub unit_of-requires : goal.unit_of-requires
unit_of-requires c = few (goal.at.unit_of-requires c).Start

pub returns : goal.returns
unfolding start_unit
returns c = c.unit_of.ensures
