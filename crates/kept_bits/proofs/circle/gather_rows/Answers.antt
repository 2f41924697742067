use mathlib.Core.Path.{◌≡◌, sym, ap}
use Prim.Native.Nat.{ℕ, ◌+◌, ◌*◌, ◌/◌}
use native.Mathlib.Nat.{add-zero, mul-le-mul_right}
use native.Mathlib.Omega.{arith}
use lib.ListN.{length}
use Rattle.kept_bits.proofs.Gathering.{rowing_start, next_along, row_lent, last_lent, rowing_next, rowing_last, row_further}
use Rattle.kept_bits.proofs.circle.gather_rows.Goals.{After-loop-r}
use Rattle.kept_bits.proofs.circle.gather_rows.Goals as goal

-- all whole rows are gathered
all : (c : After-loop-r) → length c.args.out.now / 32 ≡ c.loop-r.r
all c = omega arith

pub loop-r-init : goal.loop-r-init
loop-r-init c = (rowing_start, ap (λ (n : ℕ). c.args.of.step * n) (sym (add-zero c.args.row)))

pub gather_row-requires : goal.gather_row-requires
gather_row-requires c =
    let w = c.loop-r.invariant.0 in
    rw (c.loop-r.invariant.1, row_lent w (omega arith)) (next_along w 32 (omega arith) (omega (arith, w.wrote.long)) c.requires)

pub loop-r-preserved : goal.loop-r-preserved
loop-r-preserved c =
    let w = c.loop-r.invariant in
    (rowing_next w.0 (omega arith) (rw w.1 at c.gather_row.ensures), row_further c.args.of.step c.args.row c.loop-r.r w.1)

pub gather_row-requires-2 : goal.gather_row-requires-2
gather_row-requires-2 c =
    let w = c.loop-r.invariant.0 in
    rw (all (goal.at.gather_row-requires-2 c).After-loop-r, c.loop-r.invariant.1, last_lent w (omega arith)) (next_along w _ (omega (arith, w.wrote.long)) (omega (arith, w.wrote.long)) c.requires)

pub returns : goal.returns
returns c =
    let same = all (goal.at.returns c).After-loop-r in
    rw same (rowing_last c.loop-r.invariant.0 (omega arith) (omega arith) (rw (same, c.loop-r.invariant.1) at c.gather_row-2.ensures))
