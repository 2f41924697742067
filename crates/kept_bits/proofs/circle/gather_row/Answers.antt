use mathlib.Core.Path.{refl}
use native.Mathlib.Omega.{arith}
use Rattle.kept_bits.specs.inner.Rows.{kept_below}
use Rattle.kept_bits.proofs.Gathering.{gathering_next, gathering_finish}
use Rattle.kept_bits.proofs.circle.gather_row.Goals.{In-loop-k}
use Rattle.kept_bits.proofs.circle.gather_row.Goals as goal

pub loop-k-preserved : goal.loop-k-preserved
unfolding kept_below
loop-k-preserved c = gathering_next (omega arith) refl c.loop-k.invariant

pub returns : goal.returns
returns c = gathering_finish (omega arith) c.loop-k.invariant
