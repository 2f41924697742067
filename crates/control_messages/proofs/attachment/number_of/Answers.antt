use Prim.Native.Nat.{◌<◌}
use native.Mathlib.Omega.{arith}
use Rattle.rate_matching.specs.Columns.{number_of}
use Rattle.control_messages.proofs.Attached.{number_lt, numbering_few, numbering_next, numbering_ends}
use Rattle.control_messages.proofs.attachment.number_of.Goals.{Start}
use Rattle.control_messages.proofs.attachment.number_of.Goals as goal

-- the number of all 16 bits
below : (c : Start) → number_of c.args.bits.now < 65536
below c = rw c.requires.0 at (number_lt c.args.bits.now c.requires.1)

pub loop-bit-preserved : goal.loop-bit-preserved
loop-bit-preserved c =
    let next = numbering_next _ c.loop-bit-test.true c.loop-bit.invariant.1 in
    rw c.from.ensures (omega (arith, numbering_few _ next, below (goal.at.loop-bit-preserved c).Start), next)

pub returns : goal.returns
returns c = numbering_ends _ (omega arith) c.loop-bit.invariant.1
