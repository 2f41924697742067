-- `Padding`.
use Rattle.check_bits.proofs.Padding.{strode}
use Rattle.check_bits.proofs.generators.Generator.short_stride.Goals as goal

pub returns : goal.returns
returns c = let given = c.requires in rw c.passed.ensures (strode c.args.k c.args.self.now.near_is given.0 given.1 given.2)
