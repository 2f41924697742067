-- `counts::digits_of` meets its contract: the digit of each count at its place.
-- Assumes nothing.
use mathlib.Core.Path.{◌≡◌}
use Prim.Native.Nat.{◌-◌, ◌≤◌}
use lib.ListN.{length}
use Rattle.laws.specs.Lists.{tab, tab_from}
use Rattle.laws.proofs.Writing.{Writing}
use Rattle.report_code.proofs.Planes.{digit_at}
use Rattle.report_code.proofs.counts.digits_of.Given as goal

abbrev pub invariant-loop-i : goal.invariant-loop-i
invariant-loop-i l =
    (l.i ≤ 32) × (length l.bits ≡ 32) × Writing l.initial.bits l.bits l.i (tab_from l.i (32 - l.i) (digit_at l.counts l.p)) (tab 32 (digit_at l.counts l.p))
