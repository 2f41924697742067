-- `segments_for` meets its contract: each return is a case of the definition.
-- Assumes nothing.
use mathlib.Core.Path.{sym, ◌∙◌}
use Prim.Native.Nat.{◌≤◌}
use native.Mathlib.Omega.{arith}
use Rattle.segmentation.specs.Sizes.{segments_for, no_segments}
use Rattle.segmentation.proofs.Segmentation.{in_range}
use Rattle.segmentation.proofs.segments_for.Goals.{Else-bad_size}
use Rattle.segmentation.proofs.segments_for.Goals as goal

fine : (c : Else-bad_size) → (1 ≤ c.args.a) × (c.args.a ≤ 30576)
fine c = in_range _ (sym c.bad_size.ensures ∙ c.if-bad_size.false)

pub returns-then-bad_size : goal.returns-then-bad_size
unfolding segments_for no_segments
returns-then-bad_size c = rw (sym c.bad_size.ensures ∙ c.if-bad_size.true)

pub overflow_add-b : goal.overflow_add-b
overflow_add-b c = omega (arith, (fine (goal.at.overflow_add-b c).Else-bad_size).1)

pub several-requires : goal.several-requires
several-requires c = omega (arith, (fine (goal.at.several-requires c).Else-bad_size).1)

pub returns-then-b-le6144 : goal.returns-then-b-le6144
unfolding segments_for
returns-then-b-le6144 c = rw (sym c.bad_size.ensures ∙ c.if-bad_size.false) c.single.ensures

pub returns-else-b-le6144 : goal.returns-else-b-le6144
unfolding segments_for
returns-else-b-le6144 c = rw (sym c.bad_size.ensures ∙ c.if-bad_size.false) c.several.ensures
