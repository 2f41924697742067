-- A turn takes 48 bits.
use Rattle.check_bits.proofs.Running.{next48, from_on}
use Rattle.check_bits.proofs.generators.Generator.strides.Goals as goal

pub loop-left-preserved : goal.loop-left-preserved
loop-left-preserved c =
    let code = c.args.self.now in
    let read = c.in-Some-Some in
    rw (from_on 48 c.loop-left.left.now, c.passed.ensures, c.passed-in-loop-left.ensures)
    (next48 code.near_is code.far_is read.ensures read.ensures' c.loop-left.invariant)
