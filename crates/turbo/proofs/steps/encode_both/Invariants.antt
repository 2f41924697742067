-- `InEights` of both streams.
use Rattle.std.proofs.Common.{◌*◌}
use Rattle.turbo.proofs.InEights.{InEights}
use Rattle.turbo.proofs.steps.encode_both.Given as goal

abbrev pub invariant-loop-turn : goal.invariant-loop-turn
invariant-loop-turn l = InEights l.initial.first l.first l.s (8 * l.turn) × InEights l.initial.second l.second l.t (8 * l.turn)
