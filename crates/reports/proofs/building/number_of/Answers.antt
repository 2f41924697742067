use mathlib.Core.Path.{◌≡◌, sym, ap}
use Prim.Native.Nat.{◌+◌, ◌-◌, ◌*◌, ◌<◌}
use native.Mathlib.Omega.{arith}
use lib.ListN.{get_or, drop}
use lib.Seq.{drop-length}
use Rattle.report_code.specs.Words.{number_of}
use Rattle.report_code.proofs.Words.{packed_more}
use Rattle.reports.proofs.building.number_of.Goals.{In-loop-i}
use Rattle.reports.proofs.building.number_of.Goals as goal

-- what one more bit gives, and that it fits
turn : (c : In-loop-i)
    → (2 * c.loop-i.number + get_or c.args.report.now (c.loop-i.i - 1) 0 ≡ number_of (drop (c.loop-i.i - 1) c.args.report.now))
    × (2 * c.loop-i.number + get_or c.args.report.now (c.loop-i.i - 1) 0 < 4294967296)
turn c = packed_more c.args.report.now c.requires.0 (omega (arith, c.requires.1)) c.loop-i.i c.loop-i.number (omega arith) c.loop-i.invariant.0 c.loop-i.invariant.1

pub loop-i-init : goal.loop-i-init
unfolding number_of
loop-i-init c = (omega arith, ap number_of (sym (drop-length c.args.report.now)))

pub overflow_mul-number : goal.overflow_mul-number
overflow_mul-number c = omega (arith, (turn (goal.at.overflow_mul-number c).In-loop-i).1)

pub overflow_add-number : goal.overflow_add-number
overflow_add-number c = omega (arith, (turn (goal.at.overflow_add-number c).In-loop-i).1)

pub loop-i-preserved : goal.loop-i-preserved
loop-i-preserved c = rw c.from.ensures (omega arith, (turn (goal.at.loop-i-preserved c).In-loop-i).0)
