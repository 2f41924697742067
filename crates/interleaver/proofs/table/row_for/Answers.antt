-- The sizes rise, so that the search by halves ends at the first that is enough.
use Rattle.std.proofs.Common.{◌≡◌, rules, ltb}
use Rattle.std.proofs.lemmas.List.Sorted.{IsPartitionPoint-from_clause, IsPartitionedBy-ltb}
use Rattle.interleaver.specs.declared.table.Row.{Row}
use Rattle.interleaver.specs.declared.table.TheConstants.{TABLE}
use Rattle.interleaver.specs.Table.{row_for}
use Rattle.interleaver.proofs.Columns.{size_of, rising_rows}
use Rattle.interleaver.proofs.Search.{point_is, found_some, found_none}
use Rattle.interleaver.proofs.table.row_for.Goals.{After-partition_point-row}
use Rattle.interleaver.proofs.table.row_for.Goals as goal

first : (c : After-partition_point-row) → c.partition_point-row.result ≡ row_for c.args.least
first c =
    let parted = IsPartitionedBy-ltb size_of TABLE c.args.least rising_rows in
    point_is c.args.least c.partition_point-row.ensures.bound
    (IsPartitionPoint-from_clause (λ (r : Row). ltb (size_of r) c.args.least) TABLE _ c.partition_point-row.ensures.partitioned parted (λ a r q k. search rules))

pub returns-then-row-lt-ROWS : goal.returns-then-row-lt-ROWS
returns-then-row-lt-ROWS c = found_some c.args.least (first (goal.at.returns-then-row-lt-ROWS c).After-partition_point-row) c.if-row-lt-ROWS.true

pub returns-else-row-lt-ROWS : goal.returns-else-row-lt-ROWS
returns-else-row-lt-ROWS c = found_none c.args.least (first (goal.at.returns-else-row-lt-ROWS c).After-partition_point-row) c.if-row-lt-ROWS.false
