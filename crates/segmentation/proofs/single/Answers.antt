-- The numbers are those of the segmentation (`Worked`), and the table has a row.
use Rattle.std.proofs.Common.{◌≡◌, ◌∙◌, sym}
use Rattle.interleaver.specs.Table.{row_count, size_at}
use Rattle.segmentation.specs.Segmentation.{first_row}
use Rattle.segmentation.proofs.Worked.{single_serves, single_worked}
use Rattle.segmentation.proofs.FirstRow.{found_one, one_some}
use Rattle.segmentation.proofs.single.Goals.{After-unwrap-found}
use Rattle.segmentation.proofs.single.Goals as goal

found : (c : After-unwrap-found) → let r = c.unwrap-found.result in
    (r.row ≡ first_row 1 c.args.b 0 row_count) × (r.size ≡ size_at r.row)
found c = found_one c.args.b c.requires (sym c.row_for.ensures ∙ c.unwrap-found.ensures)

pub unwrap-found-requires : goal.unwrap-found-requires
unwrap-found-requires c = rw c.row_for.ensures (one_some c.args.b c.requires)

pub overflow_sub-result : goal.overflow_sub-result
overflow_sub-result c =
    let row = found (goal.at.overflow_sub-result c).After-unwrap-found in
    single_serves c.requires row.0 row.1

pub returns : goal.returns
returns c =
    let row = found (goal.at.returns c).After-unwrap-found in
    single_worked c.requires row.0 row.1
