-- `search::search` meets its contract: the words count up with the messages, and the nearest so far is that of the definition.
-- Assumes nothing.
use Rattle.report_code.proofs.CountingUp.{Searching}
use Rattle.report_code.proofs.search.search.Given as goal

abbrev pub invariant-loop-m : goal.invariant-loop-m
invariant-loop-m l = Searching l.o l.ones l.zeros l.count l.word l.found l.m
