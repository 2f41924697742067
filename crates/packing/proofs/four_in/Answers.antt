-- `four_in` meets its contract: what two bits keep is below 4, so that nothing is lost.
-- Assumes nothing.
use native.Mathlib.Omega.{arith}
use Rattle.packing.specs.Packing.{four_in}
use Rattle.packing.proofs.Places.{two_bits_lt}
use Rattle.packing.proofs.four_in.Goals as goal

pub overflow_mul-result : goal.overflow_mul-result
overflow_mul-result c = omega (arith, c.in_two_bits.ensures, two_bits_lt c.args.a)

pub overflow_mul-result-2 : goal.overflow_mul-result-2
overflow_mul-result-2 c = omega (arith, c.in_two_bits-2.ensures, two_bits_lt c.args.b)

pub overflow_add-result : goal.overflow_add-result
overflow_add-result c = omega (arith, c.in_two_bits.ensures, two_bits_lt c.args.a, c.in_two_bits-2.ensures, two_bits_lt c.args.b)

pub overflow_mul-result-3 : goal.overflow_mul-result-3
overflow_mul-result-3 c = omega (arith, c.in_two_bits-3.ensures, two_bits_lt c.args.c)

pub overflow_add-result-2 : goal.overflow_add-result-2
overflow_add-result-2 c = omega (arith, c.in_two_bits.ensures, two_bits_lt c.args.a, c.in_two_bits-2.ensures, two_bits_lt c.args.b, c.in_two_bits-3.ensures, two_bits_lt c.args.c)

pub overflow_add-result-3 : goal.overflow_add-result-3
overflow_add-result-3 c = omega (arith, c.in_two_bits.ensures, two_bits_lt c.args.a, c.in_two_bits-2.ensures, two_bits_lt c.args.b, c.in_two_bits-3.ensures, two_bits_lt c.args.c, c.in_two_bits-4.ensures, two_bits_lt c.args.d)

pub returns : goal.returns
unfolding four_in
returns c = rw (← c.in_two_bits.ensures, ← c.in_two_bits-2.ensures, ← c.in_two_bits-3.ensures, ← c.in_two_bits-4.ensures)
