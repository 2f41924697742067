-- `numbers::number_at` meets its contract: the eight terms of the sum.
-- Assumes nothing.
use native.Mathlib.Omega.{arith}
use Rattle.state_bytes.proofs.Bytes.{eight_from}
use Rattle.state_bytes.proofs.numbers.number_at.Goals as goal

pub returns : goal.returns
returns c = omega (arith, eight_from c.args.bytes.now c.args.at, c.from_le_bytes.ensures)
