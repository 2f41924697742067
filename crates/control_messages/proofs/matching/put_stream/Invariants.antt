-- `matching::put_stream` meets its contract: one bit a turn.
-- Assumes nothing.
use Rattle.control_messages.specs.Working.{bit_at}
use Rattle.control_messages.proofs.Tabbing.{Tabbing}
use Rattle.control_messages.proofs.matching.put_stream.Given as goal

abbrev pub invariant-loop-i : goal.invariant-loop-i
invariant-loop-i l = Tabbing (bit_at l.taken l.s) 80 l.initial.part l.part l.i
