-- `shortened::matchable` meets its contract: it is the definition's test.
-- Assumes nothing.
use native.Mathlib.Omega.{arith}
use borrow.Author.Tests.{le-leb, lt-leb}
use Rattle.rate_matching.specs.SubBlocks.{rows}
use Rattle.rate_matching.specs.Circle.{circle_length}
use Rattle.rate_matching.specs.Turns.{matchable}
use Rattle.rate_matching.proofs.shortened.matchable.Goals as goal

pub returns-then-d-gt-LONGEST : goal.returns-then-d-gt-LONGEST
unfolding matchable
returns-then-d-gt-LONGEST c = simp (lt-leb _ _ c.if-d-gt-LONGEST.true)

pub overflow_mul-result : goal.overflow_mul-result
unfolding rows
overflow_mul-result c = omega arith

pub overflow_mul-result-2 : goal.overflow_mul-result-2
unfolding rows
overflow_mul-result-2 c = omega arith

pub returns : goal.returns
unfolding matchable circle_length
returns c = simp (c.rows_of-rows.ensures, le-leb _ _ c.if-d-gt-LONGEST.false)
