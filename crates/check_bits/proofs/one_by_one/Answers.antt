-- A turn is a step, and no product overflows.
use Prim.Native.Nat.{◌-◌}
use native.Mathlib.Omega.{arith}
use Rattle.check_bits.proofs.Running.{product_fits, masked, next, finish}
use Rattle.check_bits.proofs.one_by_one.Goals as goal

pub overflow_mul-s : goal.overflow_mul-s
overflow_mul-s c = record {
  fits = product_fits (c.args.length - 1) c.ranges.generator.fits c.loop-bit.invariant.small
      (c.type_inv.bits c.loop-bit.bit-index).fits;
}

pub loop-bit-preserved : goal.loop-bit-preserved
loop-bit-preserved c = let limit = c.requires.1 in next limit (masked limit) (omega arith) c.loop-bit.invariant

pub returns : goal.returns
returns c = finish c.loop-bit-test.false c.loop-bit.invariant
