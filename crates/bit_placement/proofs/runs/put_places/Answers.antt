-- `runs::put_places` meets its contract: what is lent is that part of the circle (`Along`).
-- Assumes nothing.
use Rattle.bit_placement.proofs.Along.{run_lent}
use Rattle.bit_placement.proofs.runs.put_places.Goals as goal

pub returns : goal.returns
returns c = run_lent c.args.part.now _ _ c.requires.0 c.requires.1 c.put_run.ensures
