-- `runs::put_run` meets its contract: as many bits meet the run as there are, and as the run has places (`Along`).
-- Assumes nothing.
use Rattle.bit_placement.proofs.Along.{run_met}
use Rattle.bit_placement.proofs.runs.put_run.Goals as goal

pub returns : goal.returns
returns c = run_met _ _ c.min-n.ensures c.meet_run.ensures
