-- `small::all_small` meets its contract: no place passed is above the largest found.
-- Assumes nothing.
use Rattle.packing.proofs.SmallPlaces.{NoneAbove}
use Rattle.packing.proofs.small.all_small.Given as goal

abbrev pub invariant-loop-place : goal.invariant-loop-place
invariant-loop-place l = NoneAbove l.places l.most l.place-index
