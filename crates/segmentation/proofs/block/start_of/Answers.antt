-- `block::start_of` meets its contract: each place is that of `start_of`, and no sum wraps (`Payload`).
-- Assumes nothing.
use native.Mathlib.Omega.{arith}
use Rattle.segmentation.proofs.Payload.{Short, Long, start_first, start_short, start_long}
use Rattle.segmentation.proofs.block.start_of.Goals.{Else-s-r, Then-s-r}
use Rattle.segmentation.proofs.block.start_of.Goals as goal

-- at the sums for a long and for a short block
long_here : (c : Then-s-r) → Long c.args.len c.args.s c.args.r
long_here c = start_long c.requires (omega (arith, c.if-r-eq0.false)) c.if-s-r.true

short_here : (c : Else-s-r) → Short c.args.len c.args.s c.args.r
short_here c = start_short c.requires (omega (arith, c.if-r-eq0.false)) c.if-s-r.false

pub returns-then-r-eq0 : goal.returns-then-r-eq0
returns-then-r-eq0 c = start_first c.requires c.if-r-eq0.true

pub overflow_sub-result : goal.overflow_sub-result
overflow_sub-result c = (long_here (goal.at.overflow_sub-result c).Then-s-r).below

pub overflow_sub-result-then-s-r : goal.overflow_sub-result-then-s-r
overflow_sub-result-then-s-r c = (long_here (goal.at.overflow_sub-result-then-s-r c).Then-s-r).checks

pub overflow_mul-result : goal.overflow_mul-result
overflow_mul-result c = record { fits = (long_here (goal.at.overflow_mul-result c).Then-s-r).fits }

pub overflow_sub-result-then-s-r-2 : goal.overflow_sub-result-then-s-r-2
overflow_sub-result-then-s-r-2 c = (long_here (goal.at.overflow_sub-result-then-s-r-2 c).Then-s-r).within

pub returns-then-s-r : goal.returns-then-s-r
returns-then-s-r c = (long_here (goal.at.returns-then-s-r c).Then-s-r).starts

pub overflow_sub-result-2 : goal.overflow_sub-result-2
overflow_sub-result-2 c = (short_here (goal.at.overflow_sub-result-2 c).Else-s-r).checks

pub overflow_mul-result-2 : goal.overflow_mul-result-2
overflow_mul-result-2 c = record { fits = (short_here (goal.at.overflow_mul-result-2 c).Else-s-r).fits }

pub overflow_sub-result-3 : goal.overflow_sub-result-3
overflow_sub-result-3 c = (short_here (goal.at.overflow_sub-result-3 c).Else-s-r).filler_within

pub returns : goal.returns
returns c = (short_here (goal.at.returns c).Else-s-r).starts
