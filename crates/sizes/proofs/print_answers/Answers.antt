-- The header stands within its buffer.
use Rattle.std.proofs.Common.{rules, sym}
use Rattle.std.proofs.lemmas.List.{length-take-le}
use Rattle.lines.proofs.Putting.{end_within}
use Rattle.sizes.proofs.print_answers.Goals as goal

pub slice_bounds-write_all-end : goal.slice_bounds-write_all-end
slice_bounds-write_all-end c = sym (length-take-le _ _ (search (rules, end_within)))
