-- The column's entry at the row, and 0 past the table.
use Rattle.interleaver.proofs.Columns.{size_told, no_size}
use Rattle.interleaver.proofs.table.size_at.Goals as goal

pub returns-then-row-lt-ROWS : goal.returns-then-row-lt-ROWS
returns-then-row-lt-ROWS c = size_told c.args.row

pub returns-else-row-lt-ROWS : goal.returns-else-row-lt-ROWS
returns-else-row-lt-ROWS c = no_size c.args.row c.if-row-lt-ROWS.false
