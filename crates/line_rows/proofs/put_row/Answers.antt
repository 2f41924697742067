-- `line_rows::put_row` meets its contract: a line that asks for no call has no row.
-- Assumes nothing.
use mathlib.Core.Logic.{inl, inr}
use Rattle.line_rows.specs.Row.{row_by}
use Rattle.line_rows.proofs.Nothing.{nothing}
use Rattle.line_rows.proofs.put_row.Goals as goal

pub returns-in-Pack-clause-out_after : goal.returns-in-Pack-clause-out_after
unfolding row_by
returns-in-Pack-clause-out_after c =
    elim c.in-Pack.is [
      | inl e ↦ rw e (nothing _).1
      | inr other ↦ elim other [ inl e ↦ rw e (nothing _).1 | inr e ↦ rw e (nothing _).1 ]
    ]
