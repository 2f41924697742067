-- `block::code_block` meets its contract: each return is a case of `code_block_into` (`Into`).
-- Assumes nothing.
use mathlib.Core.Path.{◌≡◌, ◌∙◌}
use mathlib.Core.List.{◌++◌}
use lib.ListN.{length}
use Rattle.segmentation.specs.Sizes.{segments_for}
use Rattle.segmentation.proofs.Both.{of_joined}
use Rattle.segmentation.proofs.Into.{Found, Sized, none_such, other_size, single_room, single_put, several_size, several_room, several_put}
use Rattle.segmentation.proofs.block.code_block.Goals.{After-segments_for_both-s, Else-c-size_of, Else-r-s}
use Rattle.segmentation.proofs.block.code_block.Goals as goal

-- the segmentation of the joined slices
told : (c : After-segments_for_both-s) → let a = c.args in
    c.segments_for_both-s.result ≡ segments_for (length (a.first.now ++ a.second.now))
told c = let a = c.args in of_joined a.first.now a.second.now c.segments_for_both-s.ensures

-- past the first test, and past the second
found : (c : Else-r-s) → let a = c.args in
    Found (a.first.now ++ a.second.now) c.segments_for_both-s.result a.r
found c = record { told = (let a = c.args in of_joined a.first.now a.second.now c.segments_for_both-s.ensures); below = c.if-r-s.false }

sized : (c : Else-c-size_of) → let a = c.args in
    Sized (a.first.now ++ a.second.now) a.c.now c.segments_for_both-s.result a.r
sized c = record { found = record { told = (let a = c.args in of_joined a.first.now a.second.now c.segments_for_both-s.ensures); below = c.if-r-s.false }; size = c.if-c-size_of.false ∙ c.size_of.ensures }

pub returns-then-r-s : goal.returns-then-r-s
returns-then-r-s c = none_such _ _ _ _ (told (goal.at.returns-then-r-s c).After-segments_for_both-s) c.if-r-s.true

pub returns-then-c-size_of : goal.returns-then-c-size_of
returns-then-c-size_of c = other_size (found (goal.at.returns-then-c-size_of c).Else-r-s) _ _ c.size_of.ensures c.if-c-size_of.true

pub put_payload-requires : goal.put_payload-requires
put_payload-requires c = single_room (sized (goal.at.put_payload-requires c).Else-c-size_of) c.if-s-eq1.true

pub returns-then-s-eq1 : goal.returns-then-s-eq1
returns-then-s-eq1 c =
    single_put (sized (goal.at.returns-then-s-eq1 c).Else-c-size_of) c.if-s-eq1.true _ c.put_payload.ensures

pub overflow_sub-end : goal.overflow_sub-end
overflow_sub-end c = several_size (sized (goal.at.overflow_sub-end c).Else-c-size_of) c.if-s-eq1.false

pub put_payload-requires-2 : goal.put_payload-requires-2
put_payload-requires-2 c = several_room (sized (goal.at.put_payload-requires-2 c).Else-c-size_of) c.if-s-eq1.false

pub returns : goal.returns
returns c =
    several_put (sized (goal.at.returns c).Else-c-size_of) c.if-s-eq1.false _ c.put_payload-2.ensures c.crc24b-check.ensures
    c.put_check_bits.ensures
