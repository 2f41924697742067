-- `matcher::read_column` meets its contract: the place read is that of the row counted.
-- Assumes nothing.
use mathlib.Core.Path.{◌≡◌}
use Prim.Native.Nat.{◌≤◌, ◌-◌, ◌*◌}
use lib.ListN.{length}
use Rattle.laws.specs.Lists.{tab, tab_from}
use Rattle.laws.proofs.Writing.{Writing}
use Rattle.bit_selection.specs.inner.Bits.{every_row}
use Rattle.bit_selection.proofs.matcher.read_column.Given as goal

abbrev pub invariant-loop-q : goal.invariant-loop-q
invariant-loop-q l =
    (l.below ≡ 32 * l.q) × (l.q ≤ length l.initial.part)
    × Writing l.initial.part l.part l.q (tab_from l.q (length l.initial.part - l.q) (every_row l.d l.from.1)) (tab (length l.initial.part) (every_row l.d l.from.1))

abbrev pub decreases-loop-q : goal.decreases-loop-q
decreases-loop-q l = length l.initial.part - l.q
