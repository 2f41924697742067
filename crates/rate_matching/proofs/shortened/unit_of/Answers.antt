-- `shortened::unit_of` meets its contract: it is the definition, case by case.
-- Assumes nothing.
use borrow.Author.Tests.{lt-ltb, le-ltb}
use Rattle.rate_matching.specs.Units.{unit_of}
use Rattle.rate_matching.proofs.shortened.unit_of.Goals as goal

pub returns-then-m-lt15 : goal.returns-then-m-lt15
unfolding unit_of
returns-then-m-lt15 c = simp (lt-ltb _ _ c.if-m-lt15.true)

pub returns : goal.returns
unfolding unit_of
returns c = simp (le-ltb _ _ c.if-m-lt15.false)
