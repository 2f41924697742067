-- The sums are what the definition says (`Starting`).
use Rattle.interleaver.proofs.Starting.{first_by}
use Rattle.interleaver.proofs.fours.first_four.Goals as goal

pub returns : goal.returns
returns c =
    first_by _ _ _ c.requires.f1_below c.requires.f2_below c.doublings-by.ensures.0 c.plus-twice.ensures.0 c.plus-one.ensures.0 c.plus-two.ensures.0 c.plus.ensures.0 c.plus-three.ensures.0 c.plus-2.ensures.0 c.plus-way.ensures.0 c.plus-next.ensures.0 c.plus-3.ensures.0 c.plus-4.ensures.0
