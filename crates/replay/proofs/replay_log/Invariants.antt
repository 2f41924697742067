-- The line to go on with ends within the text.
use Rattle.std.proofs.Common.{length, ◌≤◌}
use Rattle.replay.proofs.replay_log.Given as goal

abbrev pub invariant-loop-turn : goal.invariant-loop-turn
invariant-loop-turn l = l.log.line.end ≤ length l.text
