use mathlib.Core.Path.{sym}
use native.Mathlib.Omega.{arith}
use Rattle.laws.proofs.Tab.{tab_rest, rest_none}
use Rattle.laws.proofs.Writing.{start, same, finish_all}
use Rattle.bit_selection.proofs.Ring.{column_next}
use Rattle.bit_selection.proofs.matcher.read_column.Goals as goal

pub loop-q-init : goal.loop-q-init
loop-q-init c = (omega arith, omega arith, same (sym (tab_rest _ _)) start)

pub loop-q-preserved : goal.loop-q-preserved
loop-q-preserved c = let l = c.loop-q in (omega (arith, l.invariant.0), omega arith, column_next _ _ l.invariant.0 (omega arith) (omega arith) l.invariant.2)

pub shape_of-part : goal.shape_of-part
shape_of-part c = c.loop-q.invariant.2.long

pub returns : goal.returns
returns c = finish_all (omega arith) (rest_none _ _ _ (omega arith)) c.loop-q.invariant.2
