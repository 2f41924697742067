-- `fours::doublings` meets its contract: each sum is twice the one before it.
-- Assumes nothing.
use Rattle.interleaver.proofs.Starting.{doubled_by}
use Rattle.interleaver.proofs.fours.doublings.Goals as goal

pub returns : goal.returns
returns c =
    let by = doubled_by _ _ c.requires.0 c.plus-two.ensures.0 c.plus-four.ensures.0 c.plus-eight.ensures.0 c.plus-sixteen.ensures.0 c.plus-step.ensures.0 in
    (by, c.plus-four.ensures.1, c.plus-eight.ensures.1, c.plus-sixteen.ensures.1)
