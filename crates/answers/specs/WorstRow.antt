-- The row that answers `worst A Q N`: `ok`, the least G of three transmissions and that of one alone, or the refusal.
-- Assumes nothing.
use Rattle.std.specs.Prelude.{Result, Ok, Err, List, ℕ}
use Rattle.refusals.specs.declared.Refusal.{Refusal}
use Rattle.refusals.specs.Refusals.{number_of}
use Rattle.planning.specs.declared.Worst.{Worst}
use Rattle.planning.specs.Worst.{values_of}
use Rattle.answers.specs.Rows.{accepted_row, refusal_row}

unfoldable pub worst_row : Result Worst Refusal → List ℕ
worst_row (Ok w) = accepted_row (values_of (Ok w))
worst_row (Err refusal) = refusal_row (number_of refusal)
