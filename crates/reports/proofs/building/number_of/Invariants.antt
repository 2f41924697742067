-- `building::number_of` meets its contract: from the last bit down, the number is that of the bits from here on.
-- Assumes nothing.
use mathlib.Core.Path.{◌≡◌}
use Prim.Native.Nat.{◌≤◌}
use lib.ListN.{length, drop}
use Rattle.report_code.specs.Words.{number_of}
use Rattle.reports.proofs.building.number_of.Given as goal

abbrev pub invariant-loop-i : goal.invariant-loop-i
invariant-loop-i l = (l.i ≤ length l.report) × (l.number ≡ number_of (drop l.i l.report))
