-- `form_changes::change_rooms` meets its contract: a loop over the rooms, with the laws of `Changed`.
-- Assumes nothing.
use Prim.Native.Nat.{◌-◌}
use Rattle.form_changes.proofs.Changed.{Changing}
use Rattle.form_changes.proofs.change_rooms.Given as goal

abbrev pub invariant-loop-room : goal.invariant-loop-room
invariant-loop-room l = Changing l.four l.m l.n l.from l.initial.to l.read l.written l.to (l.n - l.room) l.i l.j
