use mathlib.Core.Path.{refl, sym, ap, ◌∙◌}
use mathlib.Core.List.{◌∷◌}
use Prim.Native.Nat.{ℕ, ◌+◌, ◌-◌}
use native.Mathlib.Omega.{arith}
use Rattle.laws.specs.Lists.{tab_from}
use Rattle.laws.proofs.Tab.{tab_rest, rest_more, rest_none}
use Rattle.laws.proofs.Writing.{start, same, push, finish_all}
use Rattle.rate_matching.specs.Columns.{column_table, column}
use Rattle.rate_matching.proofs.Columns.{column_turned}
use Rattle.rate_matching.proofs.table.columns.Goals as goal

pub loop-c-init : goal.loop-c-init
unfolding column_table
loop-c-init c = (omega arith, refl, same (sym (tab_rest 32 column)) start)

pub loop-c-preserved : goal.loop-c-preserved
loop-c-preserved c =
    let l = c.loop-c in
    let w = push (omega arith) (same (rest_more l.c 32 column (omega arith) ∙ ap (λ (x : ℕ). x ∷ tab_from (l.c + 1) (32 - (l.c + 1)) column) (column_turned l.c (omega arith) ∙ sym c.turned.ensures)) l.invariant.2) in
    (omega arith, w.long ∙ sym l.invariant.2.long ∙ l.invariant.1, w)

pub returns : goal.returns
returns c = finish_all (omega arith) (rest_none _ 32 column (omega arith)) c.loop-c.invariant.2
