-- `states::look` meets its contract: the loop keeps `Looking`, over the heads below S.
-- Assumes nothing.
use Prim.Native.Nat.{◌≤◌}
use Rattle.slots.proofs.Heads.{Looking}
use Rattle.slot_calls.proofs.states.look.Given as goal

abbrev pub invariant-loop-i : goal.invariant-loop-i
invariant-loop-i l = (l.s ≤ 8) × Looking l.m l.s l.state.heads l.i
