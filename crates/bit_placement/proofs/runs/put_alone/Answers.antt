use Rattle.bit_placement.proofs.Walking.{alone_start, alone_next}
use Rattle.bit_placement.proofs.runs.put_alone.Goals as goal

pub loop-k-init : goal.loop-k-init
loop-k-init c = alone_start

pub loop-k-preserved : goal.loop-k-preserved
loop-k-preserved c = alone_next c.loop-k.invariant c.put_places-n.ensures
