-- The row that answers `sizes A`: `ok` and the six numbers of 01's sizes program, or the refusal.
-- Assumes nothing.
use Rattle.std.specs.Prelude.{Result, Ok, Err, List, ℕ}
use Rattle.refusals.specs.declared.Refusal.{Refusal}
use Rattle.segmentation.specs.declared.Sizes.{Sizes}
use Rattle.segmentation.specs.Sizes.{number_of, values_of}
use Rattle.answers.specs.Rows.{accepted_row, refused_row}

unfoldable pub sizes_row : Result Sizes Refusal → List ℕ
sizes_row (Ok s) = accepted_row (values_of (Ok s))
sizes_row (Err refusal) = refused_row (number_of (Err refusal)) (values_of (Err refusal))
