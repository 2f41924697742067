-- `circle::gather_rows` meets its contract: a row a turn, and the begin of one at the end (`Gathering`).
-- Assumes nothing.
use Rattle.std.proofs.Common.{◌≡◌, ◌+◌, ◌*◌}
use Rattle.kept_bits.proofs.Gathering.{Rowing}
use Rattle.kept_bits.proofs.circle.gather_rows.Given as goal

abbrev pub invariant-loop-r : goal.invariant-loop-r
invariant-loop-r l = Rowing l.of.circle.now l.of.heads.now l.of.step l.row l.initial.out l.out l.r × (l.below ≡ l.of.step * (l.row + l.r))
