use mathlib.Core.Path.{◌∙◌}
use native.Mathlib.Omega.{arith}
use lib.ListN.{length-set}
use Rattle.laws.proofs.Tab.{rest_none}
use Rattle.laws.proofs.Writing.{finish_all}
use Rattle.bit_selection.proofs.Ring.{pairing_start, pair_one, pair_next}
use Rattle.bit_selection.proofs.matcher.read_pairs.Goals as goal

pub loop-k-init : goal.loop-k-init
loop-k-init c = pairing_start

pub bounds-part-k-in-loop-k : goal.bounds-part-k-in-loop-k
bounds-part-k-in-loop-k c = simp length-set (omega arith)

pub loop-k-preserved : goal.loop-k-preserved
loop-k-preserved c = pair_next c.loop-k.invariant (omega arith)

pub shape_of-part-then-k-part : goal.shape_of-part-then-k-part
shape_of-part-then-k-part c = let l = c.loop-k in length-set l.part l.k _ ∙ l.invariant.wrote.long

pub returns-then-k-part : goal.returns-then-k-part
returns-then-k-part c = let l = c.loop-k in finish_all (simp length-set (omega arith)) (rest_none _ _ _ (omega (arith, l.invariant.wrote.long))) (pair_one l.invariant (omega arith))

pub shape_of-part-else-k-part : goal.shape_of-part-else-k-part
shape_of-part-else-k-part c = c.loop-k.invariant.wrote.long

pub returns-else-k-part : goal.returns-else-k-part
returns-else-k-part c = finish_all (omega arith) (rest_none _ _ _ (omega (arith, c.loop-k.invariant.wrote.long))) c.loop-k.invariant.wrote
