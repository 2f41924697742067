use Rattle.std.proofs.Common.{get_or, arith, below_more}
use lib.Bits.{or_add_and, and_le_l, and_le_r}
use Rattle.interleaver.proofs.fours.all_bits.Goals as goal

pub loop-bit-preserved : goal.loop-bit-preserved
loop-bit-preserved c =
    let seen = c.loop-bit.seen in
    let x = get_or c.args.c.now c.loop-bit.bit-index 0 in
    below_more _ _ (λ k h. omega (arith, or_add_and seen x, and_le_r seen x, c.loop-bit.invariant k h)) (omega (arith, or_add_and seen x, and_le_l seen x))
