-- `parting::put_message` meets its contract: what is left of the message gives the bits still to come.
-- Assumes nothing.
use Prim.Native.Nat.{◌-◌}
use lib.ListN.{length}
use Rattle.laws.proofs.Writing.{Writing}
use Rattle.report_code.specs.Words.{message_bits}
use Rattle.reports.proofs.parting.put_message.Given as goal

abbrev pub invariant-loop-bit : goal.invariant-loop-bit
invariant-loop-bit l =
    Writing l.initial.out l.out l.bit-index (message_bits (length l.initial.out - l.bit-index) l.rest) (message_bits (length l.initial.out) l.message)
