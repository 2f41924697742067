use mathlib.Core.Path.{◌≡◌, ◌∙◌}
use mathlib.Core.List.{◌++◌}
use native.Mathlib.Omega.{arith}
use Rattle.std.specs.Slice.Iter.{chunks_rest}
use Rattle.kept_bits.proofs.Lacking.{count_of, count_few, counted_next, counted_few}
use Rattle.kept_bits.proofs.circle.count_missing.Goals.{After-from-n}
use Rattle.kept_bits.proofs.circle.count_missing.Goals as goal

-- the next part comes off the front of what is left, and its bytes are counted
next_part : (c : After-from-n) → chunks_rest c.loop-part.part-iterator ≡ c.in-Some.part.now ++ chunks_rest c.next.new.self
next_part c = c.in-Some.ensures.steps.1.0

said : (c : After-from-n) → c.from-n.result ≡ count_of c.in-Some.part.now
said c = c.from-n.ensures ∙ c.count_few.ensures

pub overflow_add-n : goal.overflow_add-n
overflow_add-n c =
    let at = (goal.at.overflow_add-n c).After-from-n in
    omega (arith, counted_few c.loop-part.invariant.1 _ _ (next_part at) (said at))

pub loop-part-preserved : goal.loop-part-preserved
loop-part-preserved c =
    let at = (goal.at.loop-part-preserved c).After-from-n in
    (c.in-Some.ensures.steps.0 ∙ c.loop-part.invariant.0, counted_next c.loop-part.invariant.1 _ _ (next_part at) (said at))

pub returns : goal.returns
returns c = omega (arith, c.loop-part.invariant.1.told, count_few (chunks_rest c.loop-part.part-iterator), c.in-None.ensures.steps.1.0)
