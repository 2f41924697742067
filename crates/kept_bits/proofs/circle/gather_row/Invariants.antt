-- `circle::gather_row` meets its contract: one byte a turn (`Gathering`).
-- Assumes nothing.
use Rattle.kept_bits.specs.inner.Rows.{kept_below}
use Rattle.kept_bits.proofs.Gathering.{Gathering}
use Rattle.kept_bits.proofs.circle.gather_row.Given as goal

abbrev pub invariant-loop-k : goal.invariant-loop-k
invariant-loop-k l = Gathering (kept_below l.of.circle.now l.of.heads.now l.below) l.from l.initial.out l.out l.k
