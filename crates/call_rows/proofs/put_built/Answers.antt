-- `call_rows::put_built` meets its contract: the refusal decides.
-- Assumes nothing.
use mathlib.Core.Path.{ap}
use Rattle.laws.proofs.Parts.{front_count}
use Rattle.refusals.specs.Refusals.{number_in}
use Rattle.refusals.proofs.Numbers.{refusal_ne0}
use Rattle.call_rows.specs.Rows.{built_row}
use Rattle.call_rows.proofs.put_built.Goals as goal

pub slice_bounds-put_run-end : goal.slice_bounds-put_run-end
slice_bounds-put_run-end c = front_count _ _ (c.requires (ap number_in c.in-Ok.is))

pub returns-in-Ok : goal.returns-in-Ok
unfolding built_row
returns-in-Ok c = record { value = rw c.in-Ok.is c.put_run.ensures.value; out_after = rw c.in-Ok.is c.put_run.ensures.out_after }

pub returns-in-Err : goal.returns-in-Err
unfolding built_row
returns-in-Err c =
    record {
      value = rw (c.in-Err.is, refusal_ne0 c.in-Err.refusal) c.put_refused.ensures.value;
      out_after = rw (c.in-Err.is, refusal_ne0 c.in-Err.refusal) c.put_refused.ensures.out_after;
    }
