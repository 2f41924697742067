-- The bits over a multiple of 24 first, then the others from the register after these on.
use mathlib.Core.Path.{◌∙◌}
use Prim.Native.Nat.{◌%◌}
use native.Mathlib.Omega.{arith}
use lib.ListN.{length}
use Rattle.check_bits.proofs.Padding.{gone}
use Rattle.check_bits.proofs.Running.{from_on}
use Rattle.check_bits.proofs.generators.Generator.remainder.Goals as goal

pub strides-requires : goal.strides-requires
strides-requires c = (gone c.args.bits.now (omega arith) c.leading-s.ensures).small

pub returns : goal.returns
returns c = let bits = c.args.bits.now in c.strides.ensures ∙ rw (from_on (length bits % 24) bits) (gone bits (omega arith) c.leading-s.ensures).told
