-- `yard::replay_line` meets its contract: nothing is done, or the line is made, by the laws of `Lines`.
-- Assumes nothing.
use Rattle.yard.proofs.Lines.{nothing_done, line_made}
use Rattle.yard.proofs.replay_line.Goals as goal

pub returns-then-out-lt-LONGEST_ROW : goal.returns-then-out-lt-LONGEST_ROW
returns-then-out-lt-LONGEST_ROW c =
    let args = c.args in
    let told = nothing_done args.state args.four args.plain.now args.packed.now args.line.now args.out.now c.if-out-lt-LONGEST_ROW.true in
    record { value = told.0; plain_after = told.1.0; packed_after = told.1.1.0; out_after = told.1.1.1 }

pub returns : goal.returns
returns c =
    let args = c.args in
    let told = line_made args.state args.four args.plain.now args.packed.now args.line.now args.out.now c.if-out-lt-LONGEST_ROW.false _ _ _ _ (c.line_on.ensures.value, (c.line_on.ensures.plain_after, (c.line_on.ensures.packed_after, c.line_on.ensures.out_after))) in
    record { value = told.0; plain_after = told.1.0; packed_after = told.1.1.0; out_after = told.1.1.1 }
