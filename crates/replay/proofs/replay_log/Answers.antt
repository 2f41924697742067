-- Before the first read the line ends at 0.
use Rattle.std.proofs.Common.{ap, arith}
use Rattle.log_answers.specs.declared.Log.{Log}
use Rattle.log_answers.specs.Turn.{first_log}
use Rattle.replay.proofs.replay_log.Goals as goal

pub loop-turn-init : goal.loop-turn-init
unfolding first_log
loop-turn-init c = omega (arith, ap (λ (l : Log). l.line.end) c.begun-log.ensures)
