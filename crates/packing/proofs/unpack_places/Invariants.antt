-- `unpack_places` meets its contract: the places of the bytes passed are unpacked (`Changing`).
-- Assumes nothing.
use Rattle.packing.proofs.Changing.{Unpacking}
use Rattle.packing.proofs.unpack_places.Given as goal

abbrev pub invariant-loop-i : goal.invariant-loop-i
invariant-loop-i l = Unpacking l.from l.initial.to l.n l.to l.i
