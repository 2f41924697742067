-- The tail is put over the last four places, and the filler places are set.
use mathlib.Core.Path.{◌∙◌}
use native.Mathlib.Omega.{arith}
use Rattle.turbo.proofs.Completing.{completing, set_absent}
use Rattle.turbo.proofs.complete.Goals as goal

pub returns : goal.returns
returns c =
    set_absent c.args.filler _ (omega arith) (c.fill.ensures.after (λ y e. e))
    ∙ completing c.args.filler c.args.d.now c.args.tail c.requires (omega (arith, c.well_formed)) c.copy_from_slice.ensures.after
