-- `turns::agree_run` meets its contract: after i turns the first i bits have met the run (`bit_placement/proofs/Along`), and what was heard stays heard.
-- Assumes nothing.
use Rattle.reception.specs.inner.Ring.{AllKnown}
use Rattle.bit_placement.proofs.Along.{Meeting}
use Rattle.reception.proofs.turns.agree_run.Given as goal

abbrev pub invariant-loop-i : goal.invariant-loop-i
invariant-loop-i l = Meeting l.bits l.initial.run l.run l.i × AllKnown l.run
