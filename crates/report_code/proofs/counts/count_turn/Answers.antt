use native.Mathlib.Omega.{arith}
use Rattle.report_code.proofs.Folding.{counting_start, ones_fit, zeros_fit, counting_next, counting_finish}
use Rattle.report_code.proofs.counts.count_turn.Goals as goal

pub loop-i-init : goal.loop-i-init
loop-i-init c = counting_start

pub overflow_cast-bit : goal.overflow_cast-bit
overflow_cast-bit c = omega (arith, c.type_inv.turn c.loop-i.i)

pub offset_bounds-ones-i : goal.offset_bounds-ones-i
offset_bounds-ones-i c = omega (arith, c.requires.turn_len_bound.0)

pub overflow_add-ones : goal.overflow_add-ones
overflow_add-ones c = omega (arith, ones_fit c.loop-i.invariant c.requires.each_below.0, c.requires.turn_len_bound.1 c.loop-i.i)

pub offset_bounds-zeros-i : goal.offset_bounds-zeros-i
offset_bounds-zeros-i c = omega (arith, c.requires.turn_len_bound.0)

pub overflow_sub-zeros : goal.overflow_sub-zeros
overflow_sub-zeros c = omega (arith, c.requires.turn_len_bound.1 c.loop-i.i)

pub overflow_add-zeros : goal.overflow_add-zeros
overflow_add-zeros c = omega (arith, zeros_fit c.loop-i.invariant c.requires.each_below.1)

pub loop-i-preserved : goal.loop-i-preserved
loop-i-preserved c = let given = c.requires in counting_next c.loop-i.invariant (omega arith) given.turn_len_bound.0 given.ones_len.0 given.ones_len.1

pub returns : goal.returns
returns c = let told = counting_finish c.loop-i.invariant (omega arith) in record { ones_after = told.0; zeros_after = told.1 }
