-- `matching::interleave` meets its contract: row after row of column after column, dummies passed over.
-- Assumes nothing.
use mathlib.Core.Path.{◌≡◌}
use Prim.Native.Nat.{◌+◌, ◌-◌, ◌*◌, ◌≤◌, ◌<◌}
use Rattle.rate_matching.specs.Columns.{column_table}
use Rattle.control_messages.proofs.Interleaving.{Taking}
use Rattle.control_messages.proofs.matching.interleave.Given as goal

abbrev pub invariant-loop-c : goal.invariant-loop-c
invariant-loop-c l =
    (l.columns ≡ column_table) × (l.c ≤ 32) × (l.q < l.rows) × Taking l.d l.coded l.initial.taken l.taken l.n (l.c * l.rows + l.q)

abbrev pub decreases-loop-c : goal.decreases-loop-c
decreases-loop-c l = 32 * l.rows - (l.c * l.rows + l.q)
