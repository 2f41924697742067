-- `counts::planes_of` meets its contract: the planes one after another, the others left 0.
-- Assumes nothing.
use mathlib.Core.Path.{◌≡◌}
use Prim.Native.Nat.{◌-◌, ◌≤◌}
use lib.ListN.{length}
use Rattle.laws.specs.Lists.{tab, tab_from}
use Rattle.laws.proofs.Writing.{Writing}
use Rattle.report_code.specs.inner.Counts.{plane}
use Rattle.report_code.proofs.counts.planes_of.Given as goal

abbrev pub invariant-loop-p : goal.invariant-loop-p
invariant-loop-p l =
    (l.p ≤ l.count) × (length l.planes ≡ 10) × Writing l.initial.planes l.planes l.p (tab_from l.p (l.count - l.p) (plane l.counts)) (tab l.count (plane l.counts))
