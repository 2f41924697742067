-- The register, gone on with the bits that are left, gives that after all.
use Rattle.std.proofs.Common.{length}
use Rattle.check_bits.proofs.Running.{Running}
use Rattle.check_bits.proofs.generators.Generator.strides.Given as goal

abbrev pub invariant-loop-left : goal.invariant-loop-left
invariant-loop-left l = Running 24 24 l.self.polynomial l.from l.bits l.s l.left

abbrev pub decreases-loop-left : goal.decreases-loop-left
decreases-loop-left l = length l.left
