-- `search::steps_for` meets its contract: the words of 1, 3, 7, .. one after another, the others left 0.
-- Assumes nothing.
use mathlib.Core.Path.{◌≡◌}
use Prim.Native.Nat.{suc, ◌-◌, ◌^◌, ◌≤◌}
use lib.ListN.{length}
use Rattle.laws.specs.Lists.{tab, tab_from}
use Rattle.laws.proofs.Writing.{Writing}
use Rattle.report_code.specs.inner.Search.{step_word}
use Rattle.report_code.proofs.search.steps_for.Given as goal

abbrev pub invariant-loop-k : goal.invariant-loop-k
invariant-loop-k l =
    (l.k ≤ l.o) × (length l.steps ≡ 11) × (l.last ≡ 2 ^ suc l.k - 1) × Writing l.initial.steps l.steps l.k (tab_from l.k (l.o - l.k) step_word) (tab l.o step_word)
