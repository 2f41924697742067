-- `block::interleave` meets its contract: each refusal by its test, and what either walk writes is what the definition says.
-- Assumes nothing.
use mathlib.Core.Path.{refl, sym, ◌∙◌}
use lib.ListN.{length}
use Rattle.interleaver.proofs.Into.{OfRow, sized, into_unsized, into_no_room, walkable, writes, quartered, countable, writes_bits}
use Rattle.interleaver.proofs.block.interleave.Goals.{After-f2_at-f2}
use Rattle.interleaver.proofs.block.interleave.Goals as goal

-- what is known once the row's numbers are read
of_row : (c : After-f2_at-f2)
    → let e = c.args in
    OfRow e.row (length e.c.now) c.f1_at-f1.result c.f2_at-f2.result e.c.now e.out.now
of_row c =
    let fine = sized (sym c.has_size.ensures ∙ c.if-not-has_size.false) in
    record {
      below = fine.0;
      size = fine.1;
      first = c.f1_at-f1.ensures;
      second = c.f2_at-f2.ensures;
      long = refl;
      room = c.if-out-k.false;
    }

pub returns-then-not-has_size : goal.returns-then-not-has_size
returns-then-not-has_size c = sym (into_unsized _ _ _ (sym c.has_size.ensures ∙ c.if-not-has_size.true))

pub returns-then-out-k : goal.returns-then-out-k
returns-then-out-k c = sym (into_no_room _ _ _ (sym c.has_size.ensures ∙ c.if-not-has_size.false) c.if-out-k.true)

pub interleave_bits-requires : goal.interleave_bits-requires
interleave_bits-requires c =
    let row = of_row (goal.at.interleave_bits-requires c).After-f2_at-f2 in
    (quartered row (c.all_bits.ensures c.if-all_bits.true), countable row)

pub walk-requires : goal.walk-requires
walk-requires c = walkable (of_row (goal.at.walk-requires c).After-f2_at-f2)

pub returns-then-all_bits : goal.returns-then-all_bits
returns-then-all_bits c = c.interleave_bits.ensures ∙ writes_bits (of_row (goal.at.returns-then-all_bits c).After-f2_at-f2)

pub returns-else-all_bits : goal.returns-else-all_bits
returns-else-all_bits c = c.walk.ensures ∙ writes (of_row (goal.at.returns-else-all_bits c).After-f2_at-f2)
