-- `states::head_at` meets its contract: each arm reads one of the eight heads, and past them `get_or` gives the closed one.
-- Assumes nothing.
use mathlib.Core.Path.{◌≡◌, sym, ◌∙◌, ap}
use Prim.Native.Nat.{ℕ, ◌≤◌}
use native.Mathlib.Omega.{arith}
use lib.ListN.{length, get_or, get_or-eq_default}
use Rattle.std.proofs.Common.{rules}
use Rattle.slots.specs.declared.Head.{Head}
use Rattle.slots.specs.declared.State.{State}
use Rattle.slots.specs.State.{closed_head, head_at}
use Rattle.slot_calls.proofs.Closed.{closed}
use Rattle.slot_calls.proofs.states.head_at.Goals as goal

-- the head at a place
abbrev read : State → ℕ → Head
read state i = get_or state.heads i closed_head

pub returns-in-0 : goal.returns-in-0
unfolding head_at closed_head
returns-in-0 c = ap (read c.args.state) (sym c.in-0.is)

pub returns-in-1 : goal.returns-in-1
unfolding head_at closed_head
returns-in-1 c = ap (read c.args.state) (sym c.in-1.is)

pub returns-in-2 : goal.returns-in-2
unfolding head_at closed_head
returns-in-2 c = ap (read c.args.state) (sym c.in-2.is)

pub returns-in-3 : goal.returns-in-3
unfolding head_at closed_head
returns-in-3 c = ap (read c.args.state) (sym c.in-3.is)

pub returns-in-4 : goal.returns-in-4
unfolding head_at closed_head
returns-in-4 c = ap (read c.args.state) (sym c.in-4.is)

pub returns-in-5 : goal.returns-in-5
unfolding head_at closed_head
returns-in-5 c = ap (read c.args.state) (sym c.in-5.is)

pub returns-in-6 : goal.returns-in-6
unfolding head_at closed_head
returns-in-6 c = ap (read c.args.state) (sym c.in-6.is)

pub returns-in-7 : goal.returns-in-7
unfolding head_at closed_head
returns-in-7 c = ap (read c.args.state) (sym c.in-7.is)

pub returns-in_default : goal.returns-in_default
unfolding head_at
returns-in_default c =
    let past : 8 ≤ c.args.slot = omega (arith, c.in_default) in
    let eight : length c.args.state.heads ≡ 8 = search rules in
    closed c.default.ensures ∙ sym (get_or-eq_default c.args.state.heads closed_head (omega (arith, past, eight)))
