-- What was written stands within the output.
use Rattle.std.proofs.Common.{rules, sym}
use Rattle.std.proofs.lemmas.List.{length-take-le}
use Rattle.lines.specs.Text.{progress_of}
use Rattle.lines.proofs.Calls.{written_within}
use Rattle.sizes.proofs.print_rows.Goals as goal

pub slice_bounds-write_all-end-in-loop-next : goal.slice_bounds-write_all-end-in-loop-next
unfolding progress_of
slice_bounds-write_all-end-in-loop-next c = sym (length-take-le _ _ (search (rules, written_within)))
