use Prim.Native.Nat.{◌+◌, ◌-◌, ◌*◌, ◌<◌}
use native.Mathlib.Omega.{arith}
use mathlib.Core.Path.{◌≡◌, sym, ap}
use lib.ListN.{get_or, drop, drop_of_length-le}
use Rattle.report_code.specs.Words.{number_of}
use Rattle.report_code.proofs.Words.{packed_more}
use Rattle.report_code.proofs.block.packed.Goals.{In-loop-i}
use Rattle.report_code.proofs.block.packed.Goals as goal

-- what one more bit gives, and that it fits
turn : (c : In-loop-i)
    → (2 * c.loop-i.word + get_or c.args.bits.now (c.loop-i.i - 1) 0 ≡ number_of (drop (c.loop-i.i - 1) c.args.bits.now))
    × (2 * c.loop-i.word + get_or c.args.bits.now (c.loop-i.i - 1) 0 < 4294967296)
turn c = packed_more c.args.bits.now c.requires.0 (omega (arith, c.requires.1)) c.loop-i.i c.loop-i.word (omega arith) (omega (arith, c.requires.1)) c.loop-i.invariant.1

pub loop-i-init : goal.loop-i-init
unfolding number_of
loop-i-init c = (omega arith, ap number_of (sym (drop_of_length-le c.args.bits.now {i = 32} (omega (arith, c.requires.1)))))

pub overflow_mul-word : goal.overflow_mul-word
overflow_mul-word c = omega (arith, (turn (goal.at.overflow_mul-word c).In-loop-i).1)

pub overflow_add-word : goal.overflow_add-word
overflow_add-word c = omega (arith, (turn (goal.at.overflow_add-word c).In-loop-i).1)

pub loop-i-preserved : goal.loop-i-preserved
loop-i-preserved c = rw c.from.ensures (omega arith, (turn (goal.at.loop-i-preserved c).In-loop-i).0)
