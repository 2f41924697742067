-- `log_input::line_read` meets its contract, by the laws of `Lines`.
-- Assumes nothing.
use Rattle.log_input.proofs.Lines.{Read, read_full, read_beyond, read_last, read_some}
use Rattle.log_input.proofs.line_read.Goals.{then-text-kept-via-then-text-kept, then-text-kept-via-else-text-kept+then-text-kept-2}
use Rattle.log_input.proofs.line_read.Goals as goal

pub returns-then-text-kept : goal.returns-then-text-kept
returns-then-text-kept c =
    let args = c.args in
    let none = c.nothing_left.ensures in
    let told : Read args.text.now args.kept args.count c.nothing_left.result args.text.now =
    elim c.then-text-kept.branch [
      | then-text-kept-via-then-text-kept w ↦ read_full args.text.now args.kept args.count w.if-text-kept.true none
      | then-text-kept-via-else-text-kept+then-text-kept-2 w ↦ read_beyond args.text.now args.kept args.count w.if-text-kept.false w.if-text-kept-2.true none
    ] in
    record { value = told.0; text_after = told.1.0; stands = told.1.1 }

pub returns-then-count-eq0 : goal.returns-then-count-eq0
returns-then-count-eq0 c =
    let args = c.args in
    let told = read_last args.text.now args.kept args.count c.if-text-kept.false c.if-text-kept-2.false c.if-count-eq0.true (c.last_line.ensures.value, c.last_line.ensures.text_after) c.last_line.auto.text in
    record { value = told.0; text_after = told.1.0; stands = told.1.1 }

pub returns : goal.returns
returns c =
    let args = c.args in
    let told = read_some args.text.now args.kept args.count c.if-text-kept.false c.if-text-kept-2.false c.if-count-eq0.false c.line_in.ensures in
    record { value = told.0; text_after = told.1.0; stands = told.1.1 }
