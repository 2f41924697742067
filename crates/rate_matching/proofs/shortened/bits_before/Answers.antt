-- `shortened::bits_before` meets its contract: past `both` every place counts, before it every second one.
-- Assumes nothing.
use borrow.Author.Tests.{lt-ltb, le-ltb}
use Rattle.rate_matching.specs.Units.{alone_count, bits_before}
use Rattle.rate_matching.proofs.shortened.bits_before.Goals as goal

pub returns-then-unit-cut : goal.returns-then-unit-cut
unfolding bits_before alone_count
returns-then-unit-cut c = rw (c.min.ensures, lt-ltb _ _ c.if-unit-cut.true)

pub returns : goal.returns
unfolding bits_before
returns c = rw (c.saturating_sub.ensures, le-ltb _ _ c.if-unit-cut.false)
