-- The next 24 bits in one stride, and the others from there on.
use mathlib.Core.Path.{◌∙◌}
use Rattle.check_bits.proofs.Running.{start, next24, from_on}
use Rattle.check_bits.proofs.generators.Generator.last_stride.Goals as goal

pub returns : goal.returns
returns c =
    let bits = c.args.bits.now in
    let next = next24 {bits = bits} c.args.self.now.near_is c.in-Some.ensures.0 c.in-Some.ensures.1 (start c.requires) in
    c.one_by_one-2.ensures ∙ rw (c.passed-s.ensures, from_on 24 bits) next.told
