-- `room::collect` meets its contract: the bits of the code blocks before r are written, and their data places counted (`Sequence`).
-- Assumes nothing.
use Rattle.packing.specs.Store.{places_in}
use Rattle.reading.proofs.Sequence.{Hearing}
use Rattle.reading.proofs.room.collect.Given as goal

abbrev pub invariant-loop-r : goal.invariant-loop-r
invariant-loop-r l = Hearing l.a (places_in l.four l.room) l.initial.b l.b l.lacking l.right l.at l.r
