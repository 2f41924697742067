-- `head_of` meets its contract: two tests, and the numbers as they are.
-- Assumes nothing.
use native.Mathlib.Omega.{arith}
use borrow.Author.Tests.{lt-ltb, le-ltb}
use Rattle.state_bytes.specs.StateBytes.{head_of}
use Rattle.state_bytes.proofs.head_of.Goals as goal

pub returns-then-flag-gt1 : goal.returns-then-flag-gt1
unfolding head_of
returns-then-flag-gt1 c = rw (lt-ltb 1 _ c.if-flag-gt1.true) c.no_head.ensures

pub returns-in-Ok : goal.returns-in-Ok
unfolding head_of
returns-in-Ok c = rw (le-ltb 1 _ c.if-flag-gt1.false, le-ltb 65535 c.args.terminal (omega (arith, c.in-Ok.ensures.0)), c.in-Ok.ensures.1)

pub returns-in-Err : goal.returns-in-Err
unfolding head_of
returns-in-Err c = rw (le-ltb 1 _ c.if-flag-gt1.false, lt-ltb 65535 c.args.terminal (omega (arith, c.in-Err.ensures))) c.no_head-in-Err.ensures
