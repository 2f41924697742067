-- The column's entry at the row, and 0 past the table.
use Rattle.interleaver.proofs.Columns.{f1_told, no_f1}
use Rattle.interleaver.proofs.table.f1_at.Goals as goal

pub returns-then-row-lt-ROWS : goal.returns-then-row-lt-ROWS
returns-then-row-lt-ROWS c = f1_told c.args.row

pub returns-else-row-lt-ROWS : goal.returns-else-row-lt-ROWS
returns-else-row-lt-ROWS c = no_f1 c.args.row c.if-row-lt-ROWS.false
