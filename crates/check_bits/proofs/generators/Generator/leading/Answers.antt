-- The first of 24 gathered bits in one stride (`Padding`).
use mathlib.Core.Path.{◌∙◌, ap}
use Rattle.check_bits.specs.CheckBits.{crc_from}
use Rattle.check_bits.proofs.Padding.{highest_lt, highest}
use Rattle.check_bits.proofs.generators.Generator.leading.Goals as goal

pub short_stride-requires : goal.short_stride-requires
short_stride-requires c =
    let given = c.requires in
    (given.0, given.2, highest_lt c.args.bits.now c.args.k given.0 c.in-Some.ensures.0)

pub returns : goal.returns
returns c =
    c.short_stride.ensures
    ∙ ap (crc_from 24 c.args.self.now.polynomial c.args.from)
    (highest c.args.bits.now c.args.k c.requires.0 c.in-Some.ensures.0 c.in-Some.ensures.1)
