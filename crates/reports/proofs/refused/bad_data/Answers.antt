-- `refused::bad_data` meets its contract: C is that of the block, and G alone is left to refuse.
-- Assumes nothing.
use mathlib.Core.Path.{◌∙◌, ap}
use Prim.Native.Nat.{ℕ}
use Rattle.codeword.specs.Build.{bad_allocation}
use Rattle.codeword.proofs.Accepted.{length_left}
use Rattle.codeword.proofs.Segmented.{sized_in}
use Rattle.reports.proofs.refused.bad_data.Goals as goal

pub returns : goal.returns
returns c =
    let l = c.args.layout in
    c.bad_allocation.ensures
    ∙ ap (λ (C : ℕ). bad_allocation C l.modulation l.layers c.args.g) (sized_in _ _ c.requires.0 c.segments_for-s.ensures).count
    ∙ length_left _ _ _ _ c.requires.1
