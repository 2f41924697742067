-- `matcher::put_columns` meets its contract: column after column, until there are enough bits or no more columns.
-- Assumes nothing.
use lib.ListN.{length}
use Rattle.bit_selection.proofs.Ring.{Filling}
use Rattle.bit_selection.proofs.matcher.put_columns.Given as goal

abbrev pub invariant-loop-u : goal.invariant-loop-u
invariant-loop-u l = Filling (length l.of.d0.now) l.of.d0.now l.of.d1.now l.of.d2.now l.of.filler l.from l.to l.initial.ring l.n l.ring l.end l.u
