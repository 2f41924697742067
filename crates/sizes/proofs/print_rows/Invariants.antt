-- Each call of sizes_rows answers a line, so that the loop ends.
use Rattle.std.proofs.Common.{length, ◌-◌}
use Rattle.sizes.proofs.print_rows.Given as goal

abbrev pub decreases-loop-next : goal.decreases-loop-next
decreases-loop-next l = length l.text - l.next
