-- `block::control_bits` meets its contract: the coded block turn after turn, the last turn cut.
-- Assumes nothing.
use Prim.Native.Nat.{min, ◌*◌}
use lib.ListN.{length}
use Rattle.report_code.specs.Code.{block}
use Rattle.report_code.specs.Words.{message_bits}
use Rattle.report_code.proofs.Repeating.{Repeating}
use Rattle.report_code.proofs.block.control_bits.Given as goal

abbrev pub invariant-loop-turn : goal.invariant-loop-turn
invariant-loop-turn l = Repeating (block (message_bits 11 l.message)) l.initial.out l.out (min (32 * l.turn) (length l.initial.out))
