-- `turns::meet_turns` meets its contract: the turns passed have met in the ring, and the others are left (`Left`).
-- Assumes nothing.
use mathlib.Core.Path.{◌≡◌}
use Rattle.std.specs.Slice.Iter.{chunks_rest, chunks_size}
use Rattle.reception.proofs.Left.{Left}
use Rattle.reception.proofs.turns.meet_turns.Given as goal

abbrev pub invariant-loop-turn : goal.invariant-loop-turn
invariant-loop-turn l = (chunks_size l.turn-iterator ≡ l.n) × Left l.n l.bits l.ring (chunks_rest l.turn-iterator)
