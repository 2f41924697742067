-- The column's entry at the row, and 0 past the table.
use Rattle.interleaver.proofs.Columns.{f2_told, no_f2}
use Rattle.interleaver.proofs.table.f2_at.Goals as goal

pub returns-then-row-lt-ROWS : goal.returns-then-row-lt-ROWS
returns-then-row-lt-ROWS c = f2_told c.args.row

pub returns-else-row-lt-ROWS : goal.returns-else-row-lt-ROWS
returns-else-row-lt-ROWS c = no_f2 c.args.row c.if-row-lt-ROWS.false
