-- `units::put_rest` meets its contract: no more bits are lent than the places before the cut take (`Along`).
-- Assumes nothing.
use Rattle.bit_placement.proofs.Along.{put_first_lem}
use Rattle.bit_placement.proofs.units.put_rest.Goals as goal

pub returns : goal.returns
returns c = put_first_lem _ c.min-n.ensures c.put_unit.ensures
