-- The ceiling of need / blocks is the least K that serves, and the table has one.
use Rattle.std.proofs.Common.{◌∙◌, sym, ap}
use Rattle.interleaver.specs.Table.{found_for}
use Rattle.segmentation.proofs.FirstRow.{found_told, found_some}
use Rattle.segmentation.proofs.first_row.Goals as goal

pub unwrap-requires : goal.unwrap-requires
unwrap-requires c = rw (c.row_for.ensures, c.div_ceil.ensures) (found_some c.args.blocks c.args.need c.requires.0 c.requires.2)

pub returns : goal.returns
returns c =
    found_told c.args.blocks c.args.need c.requires.0 c.requires.2 (ap found_for (sym c.div_ceil.ensures) ∙ sym c.row_for.ensures ∙ c.unwrap.ensures)
