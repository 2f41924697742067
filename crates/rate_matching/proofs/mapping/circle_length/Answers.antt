-- `mapping::circle_length` meets its contract: the test is that of the definition.
-- Assumes nothing.
use native.Mathlib.Omega.{arith}
use borrow.Author.Tests.{le-leb, lt-leb}
use Rattle.rate_matching.specs.SubBlocks.{rows}
use Rattle.rate_matching.specs.Circle.{circle_length}
use Rattle.rate_matching.specs.Matrix.{length_within}
use Rattle.rate_matching.proofs.mapping.circle_length.Goals as goal

pub returns-then-d-gt-LONGEST : goal.returns-then-d-gt-LONGEST
unfolding length_within
returns-then-d-gt-LONGEST c = simp (lt-leb _ _ c.if-d-gt-LONGEST.true)

pub overflow_mul-result : goal.overflow_mul-result
unfolding rows
overflow_mul-result c = omega (arith, c.rows_of.ensures)

pub returns : goal.returns
unfolding length_within circle_length
returns c = simp (le-leb _ _ c.if-d-gt-LONGEST.false, c.rows_of.ensures)
