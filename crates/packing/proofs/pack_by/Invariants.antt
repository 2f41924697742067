-- `pack_by` meets its contract: the bytes passed are packed (`Changing`).
-- Assumes nothing.
use Rattle.packing.proofs.Changing.{Packing}
use Rattle.packing.proofs.pack_by.Given as goal

abbrev pub invariant-loop-i : goal.invariant-loop-i
invariant-loop-i g l = Packing l.from l.initial.to l.n l.to l.i
