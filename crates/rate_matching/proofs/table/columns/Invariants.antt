-- `table::columns` meets its contract: one number a turn, by the rule.
-- Assumes nothing.
use mathlib.Core.Path.{◌≡◌}
use Prim.Native.Nat.{◌-◌, ◌≤◌}
use lib.ListN.{length}
use Rattle.laws.specs.Lists.{tab_from}
use Rattle.laws.proofs.Writing.{Writing}
use Rattle.rate_matching.specs.Columns.{column_table, column}
use Rattle.rate_matching.proofs.table.columns.Given as goal

abbrev pub invariant-loop-c : goal.invariant-loop-c
invariant-loop-c l = (l.c ≤ 32) × (length l.p ≡ 32) × Writing l.initial.p l.p l.c (tab_from l.c (32 - l.c) column) column_table
