-- `counts::plane_distance` meets its contract: what the planes above gave, and that the distance fits.
-- Assumes nothing.
use mathlib.Core.Path.{◌≡◌}
use Prim.Native.Nat.{◌+◌, ◌-◌, ◌*◌, ◌^◌, ◌≤◌}
use Rattle.report_code.specs.inner.Counts.{plane_distance}
use Rattle.report_code.proofs.counts.plane_distance.Given as goal

abbrev pub invariant-loop-p : goal.invariant-loop-p
invariant-loop-p l =
    (l.p ≤ l.count) × (plane_distance l.word l.ones l.zeros l.p l.above ≡ plane_distance l.word l.ones l.zeros l.count 0) × (l.above + 64 ≤ 64 * 2 ^ (l.count - l.p))
