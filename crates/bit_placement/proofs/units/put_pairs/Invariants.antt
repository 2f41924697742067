-- `units::put_pairs` meets its contract: one pair of columns a turn (`Walking`).
-- Assumes nothing.
use Rattle.bit_placement.proofs.Walking.{Units}
use Rattle.bit_placement.proofs.units.put_pairs.Given as goal

abbrev pub invariant-loop-u : goal.invariant-loop-u
invariant-loop-u l = Units l.of.d l.of.filler l.from l.to l.bits l.initial.part l.part l.n l.u
