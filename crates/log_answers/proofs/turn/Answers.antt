-- `log_answers::turn` meets its contract, by the law of `Turns`.
-- Assumes nothing.
use Rattle.log_answers.proofs.Turns.{turned}
use Rattle.log_answers.proofs.turn.Goals as goal

pub answer_line-step-requires : goal.answer_line-step-requires
answer_line-step-requires c = c.line_now-line.ensures.stands

pub returns : goal.returns
returns c =
    let args = c.args in
    let told = turned args.log args.count args.text.now args.plain.now args.packed.now args.out.now c.line_now-line.ensures.value c.line_now-line.ensures.text_after
    (c.answer_line-step.ensures.value, (c.answer_line-step.ensures.plain_after, (c.answer_line-step.ensures.packed_after, (c.answer_line-step.ensures.out_after, c.answer_line-step.ensures.written_in_bounds)))) (c.line_after-next.ensures.value, (c.line_after-next.ensures.text_after, c.line_after-next.ensures.stands)) in
    record { value = told.0; text_after = told.1.0; plain_after = told.1.1.0; packed_after = told.1.1.1.0; out_after = told.1.1.1.1.0; stands = told.1.1.1.1.1.0; written_in_bounds = told.1.1.1.1.1.1 }
