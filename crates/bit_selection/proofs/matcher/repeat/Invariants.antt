-- `matcher::repeat` meets its contract: a whole number of turns is written, and the rest is the begin of one.
-- Assumes nothing.
use Rattle.bit_selection.proofs.Turns.{Turning}
use Rattle.bit_selection.proofs.matcher.repeat.Given as goal

abbrev pub invariant-loop-turn : goal.invariant-loop-turn
invariant-loop-turn l = Turning l.ring l.initial.out l.out l.turn
