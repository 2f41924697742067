-- `code_blocks::put_blocks` meets its contract: the code blocks passed have their bits and are counted (`Filling`).
-- Assumes nothing.
use Rattle.reception.proofs.Filling.{Filling}
use Rattle.reception.proofs.code_blocks.put_blocks.Given as goal

abbrev pub invariant-loop-r : goal.invariant-loop-r
invariant-loop-r l = Filling l.four l.a l.soft l.grant l.bits l.initial.room l.room l.lacking l.at l.from l.r
