-- `log_input::line_after` meets its contract, by the laws of `Lines`.
-- Assumes nothing.
use Rattle.log_input.proofs.Lines.{after_none, after_settled}
use Rattle.log_input.proofs.line_after.Goals as goal

pub returns-then-text-line : goal.returns-then-text-line
returns-then-text-line c =
    let told = after_none c.args.text.now c.args.line c.if-text-line.true c.nothing_left.ensures in
    record { value = told.0; text_after = told.1.0; stands = told.1.1 }

pub returns : goal.returns
returns c =
    let told = after_settled c.args.text.now c.args.line c.if-text-line.false c.following-next.ensures (c.settle.ensures.value, c.settle.ensures.text_after) c.settle.auto.text in
    record { value = told.0; text_after = told.1.0; stands = told.1.1 }
