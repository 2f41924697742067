-- A sum that saturates is out of range, as the sum itself is.
use Rattle.std.proofs.Common.{◌∙◌, ◌+◌, ap, arith}
use native.Mathlib.Decide.{dec_lt}
use Rattle.segmentation.specs.Sizes.{segments_for}
use Rattle.segmentation.proofs.Both.{too_long}
use Rattle.segmentation.proofs.segments_for_both.Goals as goal

pub returns : goal.returns
returns c =
    c.segments_for.ensures
    ∙ elim (dec_lt (c.args.first + c.args.second) 30577) [
      | yes l ↦ ap segments_for (omega (arith, c.saturating_add.ensures))
      | no g ↦ too_long (omega (arith, c.saturating_add.ensures)) (omega arith)
    ]
