-- `lines::put_answer` meets its contract: the row of the answer's case.
-- Assumes nothing.
use native.Mathlib.Omega.{arith}
use Rattle.segmentation.specs.Sizes.{values_of, number_of}
use Rattle.lines.specs.Row.{decimal_of, answer_fields}
use Rattle.lines.proofs.Decimal.{decimal_length}
use Rattle.lines.proofs.Putting.{looked}
use Rattle.lines.proofs.Refusals.{row_put}
use Rattle.lines.proofs.put_answer.Goals as goal

pub put_refusal-requires : goal.put_refusal-requires
put_refusal-requires c =
    let args = c.args in
    let short = decimal_length args.a c.ranges.a.fits in
    let is_put = looked args.at (decimal_of args.a) args.out.now (omega (arith, short)) (c.put_decimal-end.ensures.value, c.put_decimal-end.ensures.out_after) in
    omega (arith, short, is_put.0, c.put_decimal-end.auto.out)

pub returns-in-Ok : goal.returns-in-Ok
unfolding answer_fields values_of
returns-in-Ok c = record { value = rw c.in-Ok.is c.put_numbers.ensures.value; out_after = rw c.in-Ok.is c.put_numbers.ensures.out_after }

pub returns-in-Err : goal.returns-in-Err
unfolding answer_fields number_of
returns-in-Err c =
    let args = c.args in
    let short = decimal_length args.a c.ranges.a.fits in
    let told = row_put args.at (decimal_of args.a) _ args.out.now (omega (arith, short)) (c.put_decimal-end.ensures.value, c.put_decimal-end.ensures.out_after) (c.put_refusal.ensures.value, c.put_refusal.ensures.out_after) c.put_refusal.auto.out in
    record { value = rw c.in-Err.is told.0; out_after = rw c.in-Err.is told.1 }
