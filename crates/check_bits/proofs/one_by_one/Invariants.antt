-- The register, gone on with the bits that are left, gives the remainder of all.
use Rattle.std.proofs.Common.{drop}
use Rattle.check_bits.proofs.Running.{Running}
use Rattle.check_bits.proofs.one_by_one.Given as goal

abbrev pub invariant-loop-bit : goal.invariant-loop-bit
invariant-loop-bit l = Running 32 l.length l.g l.from l.bits l.s (drop l.bit-index l.bits)
