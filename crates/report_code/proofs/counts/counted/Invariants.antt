-- `counts::counted` meets its contract: the whole turns passed are counted, and the others are left (`Left`).
-- Assumes nothing.
use mathlib.Core.Path.{◌≡◌}
use Rattle.std.specs.Slice.Iter.{chunks_exact_rest, chunks_exact_size}
use Rattle.report_code.proofs.Folding.{Left}
use Rattle.report_code.proofs.counts.counted.Given as goal

abbrev pub invariant-loop-turn : goal.invariant-loop-turn
invariant-loop-turn l = (chunks_exact_size l.turn-iterator ≡ 32) × Left l.control l.ones l.zeros (chunks_exact_rest l.turn-iterator)
