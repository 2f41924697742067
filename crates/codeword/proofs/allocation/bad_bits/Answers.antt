use native.Mathlib.Omega.{arith}
use Rattle.codeword.proofs.Seen.{nothing, one_more, all}
use Rattle.codeword.proofs.allocation.bad_bits.Goals as goal

pub loop-bit-init : goal.loop-bit-init
loop-bit-init c = nothing _

pub loop-bit-preserved : goal.loop-bit-preserved
loop-bit-preserved c = one_more _ _ _ (omega arith) c.loop-bit.invariant

pub returns : goal.returns
returns c = all _ _ _ (omega arith) c.loop-bit.invariant
