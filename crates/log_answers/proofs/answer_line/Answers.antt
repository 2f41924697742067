-- `log_answers::answer_line` meets its contract: the line waits, or its answer is made, by the laws of `Answers`.
-- Assumes nothing.
use native.Mathlib.Omega.{arith}
use Rattle.log_answers.specs.Turn.{bytes_of}
use Rattle.log_answers.proofs.Answers.{waits, answered}
use Rattle.log_answers.proofs.answer_line.Goals as goal

pub returns-then-to-line : goal.returns-then-to-line
returns-then-to-line c =
    let args = c.args in
    let told = waits args.before args.line args.text.now args.plain.now args.packed.now args.out.now c.if-to-line.true in
    record { value = told.0; plain_after = told.1.0; packed_after = told.1.1.0; out_after = told.1.1.1.0; written_in_bounds = told.1.1.1.1 }

pub slice_bounds-replay_line-count : goal.slice_bounds-replay_line-count
slice_bounds-replay_line-count c = c.requires.starts

pub slice_bounds-replay_line-start : goal.slice_bounds-replay_line-start
slice_bounds-replay_line-start c = c.requires.starts

pub slice_bounds-replay_line-end : goal.slice_bounds-replay_line-end
slice_bounds-replay_line-end c = let stands = c.requires in omega (arith, stands.ends, stands.fits)

pub returns : goal.returns
unfolding bytes_of
returns c =
    let args = c.args in
    let told = answered args.before args.line args.text.now args.plain.now args.packed.now args.out.now c.if-to-line.false
    _ _ _ _ (c.replay_line.ensures.value, (c.replay_line.ensures.plain_after, (c.replay_line.ensures.packed_after, c.replay_line.ensures.out_after))) c.replay_line.auto.out in
    record { value = told.0; plain_after = told.1.0; packed_after = told.1.1.0; out_after = told.1.1.1.0; written_in_bounds = told.1.1.1.1 }
