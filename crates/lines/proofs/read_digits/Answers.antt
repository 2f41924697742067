use Rattle.std.proofs.Common.{rules}
use Rattle.lines.specs.Line.{is_digit}
use Rattle.lines.proofs.Reading.{next}
use Rattle.lines.proofs.read_digits.Goals as goal

pub loop-byte-preserved : goal.loop-byte-preserved
unfolding is_digit
loop-byte-preserved c = next c.loop-byte.invariant c.loop-byte-test.true (search rules)
