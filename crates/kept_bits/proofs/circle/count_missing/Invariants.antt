-- `circle::count_missing` meets its contract: the bytes are added up part by part (`Lacking`).
-- Assumes nothing.
use mathlib.Core.Path.{◌≡◌}
use Rattle.std.specs.Slice.Iter.{chunks_rest, chunks_size}
use Rattle.kept_bits.proofs.Lacking.{Counted}
use Rattle.kept_bits.proofs.circle.count_missing.Given as goal

abbrev pub invariant-loop-part : goal.invariant-loop-part
invariant-loop-part l = (chunks_size l.part-iterator ≡ 192) × Counted l.bytes l.n (chunks_rest l.part-iterator)
