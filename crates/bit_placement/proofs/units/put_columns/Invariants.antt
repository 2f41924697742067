-- `units::put_columns` meets its contract: one column a turn (`Walking`).
-- Assumes nothing.
use Rattle.bit_placement.proofs.Walking.{Units}
use Rattle.bit_placement.proofs.units.put_columns.Given as goal

abbrev pub invariant-loop-u : goal.invariant-loop-u
invariant-loop-u l = Units l.of.d l.of.filler l.from l.to l.bits l.initial.part l.part l.n l.u
