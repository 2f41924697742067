-- `block::coded_block` meets its contract: each bit is the parity of the ones that message and row share.
-- Assumes nothing.
use mathlib.Core.Path.{◌≡◌}
use Prim.Native.Nat.{◌-◌, ◌≤◌}
use lib.ListN.{length}
use Rattle.laws.specs.Lists.{tab, tab_from}
use Rattle.laws.proofs.Writing.{Writing}
use Rattle.report_code.specs.Code.{coded_bit}
use Rattle.report_code.specs.Words.{message_bits}
use Rattle.report_code.proofs.block.coded_block.Given as goal

abbrev pub invariant-loop-i : goal.invariant-loop-i
invariant-loop-i l =
    (l.i ≤ 32) × (length l.bits ≡ 32)
    × Writing l.initial.bits l.bits l.i (tab_from l.i (32 - l.i) (coded_bit (message_bits 11 l.message))) (tab 32 (coded_bit (message_bits 11 l.message)))
