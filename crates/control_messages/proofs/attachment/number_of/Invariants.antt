-- `attachment::number_of` meets its contract: each bit doubles the number and is added.
-- Assumes nothing.
use Prim.Native.Nat.{◌<◌}
use Rattle.control_messages.proofs.Attached.{Numbering}
use Rattle.control_messages.proofs.attachment.number_of.Given as goal

abbrev pub invariant-loop-bit : goal.invariant-loop-bit
invariant-loop-bit l = (l.n < 65536) × Numbering l.bits l.n l.bit-index
