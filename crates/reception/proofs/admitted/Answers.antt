-- `admitted` meets its contract: 3, 4 and 2, one after the other.
-- Assumes nothing.
use Rattle.refusals.specs.Refusals.{or_else}
use Rattle.refusals.proofs.Refusals.{done, next, chained}
use Rattle.codeword.specs.Build.{bad_version}
use Rattle.reception.specs.inner.Parts.{grant_rules}
use Rattle.reception.proofs.admitted.Goals as goal

pub returns : goal.returns
unfolding grant_rules bad_version or_else
returns c =
    chained (next (rw (c.bad_allocation-misfits.ensures, c.block_count-blocks.ensures) at c.applied-allocated.ensures)
    (next c.or_else-versioned.ensures (next c.or_else.ensures done))) tt
