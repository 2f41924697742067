-- `block::put_payload` meets its contract: both arms write the payload by its pieces (`Payload`).
-- Assumes nothing.
use mathlib.Core.Path.{◌≡◌, sym, ◌∙◌, ap}
use mathlib.Core.List.{◌++◌}
use Prim.Native.Nat.{ℕ, ◌+◌}
use native.Mathlib.Omega.{arith}
use lib.ListN.{length, length-append}
use Rattle.segmentation.specs.Into.{start_of}
use Rattle.segmentation.proofs.Payload.{Pieces, pieces, inner_put, last_starts, last_room, last_put}
use Rattle.segmentation.proofs.block.put_payload.Goals.{After-start_of-from}
use Rattle.segmentation.proofs.block.put_payload.Goals as goal

-- the pieces, where both arms begin
here : (c : After-start_of-from) → let a = c.args in
    Pieces (a.first.now ++ a.second.now) a.c.now a.s.blocks a.r c.filler_of-zeros.result c.start_of-from.result
here c =
    let x = c.args.first.now in
    let y = c.args.second.now in
    pieces c.requires c.filler_of-zeros.ensures (c.start_of-from.ensures ∙ ap (λ (n : ℕ). start_of (n + 24) c.args.r) (sym (length-append x y)))

-- the length of the block
long : (c : After-start_of-from) → let a = c.args in
    length (a.first.now ++ a.second.now) ≡ length a.first.now + length a.second.now
long c = let a = c.args in length-append a.first.now a.second.now

pub overflow_add-r : goal.overflow_add-r
overflow_add-r c = omega (arith, (here (goal.at.overflow_add-r c).After-start_of-from).few)

pub overflow_sub-to : goal.overflow_sub-to
overflow_sub-to c = omega (arith, (here (goal.at.overflow_sub-to c).After-start_of-from).spare)

pub overflow_add-to : goal.overflow_add-to
overflow_add-to c = omega (arith, (here (goal.at.overflow_add-to c).After-start_of-from).inner c.if-r-s.true)

pub fill_both-requires : goal.fill_both-requires
fill_both-requires c =
    let fits = (here (goal.at.fill_both-requires c).After-start_of-from).inner c.if-r-s.true in
    (omega arith, omega (arith, fits, long (goal.at.fill_both-requires c).After-start_of-from), omega (arith, (here (goal.at.fill_both-requires c).After-start_of-from).spare))

pub overflow_sub-end : goal.overflow_sub-end
overflow_sub-end c = omega (arith, (here (goal.at.overflow_sub-end c).After-start_of-from).spare)

pub fill_both-requires-else-r-s : goal.fill_both-requires-else-r-s
fill_both-requires-else-r-s c =
    let last = c.if-r-s.false in
    (omega (arith, last_starts (here (goal.at.fill_both-requires-else-r-s c).After-start_of-from) last, long (goal.at.fill_both-requires-else-r-s c).After-start_of-from), omega arith, omega (arith, last_room (here (goal.at.fill_both-requires-else-r-s c).After-start_of-from) last, long (goal.at.fill_both-requires-else-r-s c).After-start_of-from))

pub returns-then-r-s : goal.returns-then-r-s
returns-then-r-s c =
    inner_put (here (goal.at.returns-then-r-s c).After-start_of-from) c.if-r-s.true _ c.fill_both.ensures

pub returns-else-r-s : goal.returns-else-r-s
returns-else-r-s c =
    last_put (here (goal.at.returns-else-r-s c).After-start_of-from) c.if-r-s.false _ (rw (← long (goal.at.returns-else-r-s c).After-start_of-from) at c.fill_both-else-r-s.ensures) c.put_check_bits.ensures
