use mathlib.Core.Logic.{inl, inr}
use Prim.Native.Nat.{◌+◌, ◌*◌}
use native.Mathlib.Nat.{zero-mul}
use native.Mathlib.Omega.{arith}
use Rattle.rate_matching.specs.SubBlocks.{rows, dummies}
use Rattle.control_messages.proofs.Interleaving.{Taking, taking_start, taking_ends, index_lt, room_lt, met, next_row, next_column, all_passed}
use Rattle.control_messages.proofs.matching.interleave.Goals.{Joined-dummies-y, then-dummies-y, else-dummies-y}
use Rattle.control_messages.proofs.matching.interleave.Goals as goal

-- where the branches have met again
after : (c : Joined-dummies-y)
    → Taking c.args.d c.args.coded.now c.args.taken.now c.if-dummies-y.taken c.if-dummies-y.n
    (c.loop-c.c * rows c.args.d + c.loop-c.q + 1)
unfolding rows dummies
after c =
    let inv = c.loop-c.invariant in
    met c.requires.0 inv.0 c.loop-c-test.true inv.2 inv.3
    (elim c.if-dummies-y.branch [ then-dummies-y w ↦ inl (w.if-dummies-y.true, w.taken-is, w.n-is) | else-dummies-y w ↦ inr (w.if-dummies-y.false, w.taken-is, w.n-is) ])

pub loop-c-init : goal.loop-c-init
loop-c-init c = (c.columns-columns.ensures, omega arith, omega arith, rw zero-mul (taking_start c.requires.0 c.requires.1))

pub bounds-coded-y : goal.bounds-coded-y
unfolding rows dummies
bounds-coded-y c =
    let inv = c.loop-c.invariant in
    let size = c.requires.0 in
    omega (arith, size.most, index_lt size inv.0 c.loop-c-test.true inv.2 inv.3 c.if-dummies-y.true)

pub bounds-taken-n : goal.bounds-taken-n
unfolding rows dummies
bounds-taken-n c =
    let inv = c.loop-c.invariant in
    let size = c.requires.0 in
    omega (arith, size.most, inv.3.room, room_lt size inv.0 c.loop-c-test.true inv.2 inv.3 c.if-dummies-y.true)

pub loop-c-preserved-then-q-rows : goal.loop-c-preserved-then-q-rows
unfolding rows
loop-c-preserved-then-q-rows c =
    let inv = c.loop-c.invariant in
    (inv.0, omega arith, omega arith, next_column _ _ c.if-q-rows.true (after (goal.at.loop-c-preserved-then-q-rows c).Joined-dummies-y))

pub loop-c-preserved : goal.loop-c-preserved
unfolding rows
loop-c-preserved c =
    let inv = c.loop-c.invariant in
    (inv.0, inv.1, omega arith, next_row _ _ (after (goal.at.loop-c-preserved c).Joined-dummies-y))

pub returns : goal.returns
unfolding rows
returns c = let inv = c.loop-c.invariant in taking_ends c.requires.0 (all_passed _ _ _ c.loop-c-test.false) inv.3
