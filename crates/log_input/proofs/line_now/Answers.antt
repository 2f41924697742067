-- `log_input::line_now` meets its contract, by the laws of `Lines`.
-- Assumes nothing.
use Rattle.log_input.proofs.Lines.{now_none, now_read, now_same}
use Rattle.log_input.proofs.line_now.Goals as goal

pub returns-then-outside : goal.returns-then-outside
returns-then-outside c =
    let args = c.args in
    let told = now_none args.text.now args.line args.count c.outside.ensures c.if-outside.true c.nothing_left.ensures in
    record { value = told.0; text_after = told.1.0; stands = told.1.1 }

pub returns-then-goes_on : goal.returns-then-goes_on
returns-then-goes_on c =
    let args = c.args in
    let told = now_read args.text.now args.line args.count c.outside.ensures c.if-outside.false c.goes_on.ensures c.if-goes_on.true (c.line_read.ensures.value, (c.line_read.ensures.text_after, c.line_read.ensures.stands)) in
    record { value = told.0; text_after = told.1.0; stands = told.1.1 }

pub returns : goal.returns
returns c =
    let args = c.args in
    let told = now_same args.text.now args.line args.count c.outside.ensures c.if-outside.false c.goes_on.ensures c.if-goes_on.false in
    record { value = told.0; text_after = told.1.0; stands = told.1.1 }
