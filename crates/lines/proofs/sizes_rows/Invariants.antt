-- `lines::sizes_rows` meets its contract: a loop over the lines, with the laws of `Rows`.
-- Assumes nothing.
use Prim.Native.Nat.{◌-◌}
use lib.ListN.{length}
use Rattle.lines.proofs.Rows.{Answering}
use Rattle.lines.proofs.sizes_rows.Given as goal

abbrev pub invariant-loop-next : goal.invariant-loop-next
invariant-loop-next l = Answering l.text l.from l.initial.out l.out l.next l.written

abbrev pub decreases-loop-next : goal.decreases-loop-next
decreases-loop-next l = length l.text - l.next
