-- `units::put_unit` meets its contract: the places of stream 2 alone, then those that all hold a bit (`Walking`).
-- Assumes nothing.
use Rattle.bit_placement.proofs.Walking.{unit_put}
use Rattle.bit_placement.proofs.units.put_unit.Goals as goal

pub returns : goal.returns
returns c = unit_put _ c.put_alone-n.ensures c.put_places.ensures
