-- `yard::line_on` meets its contract: a change of form, or a call on the store that has the rooms, by the laws of `Lines`.
-- Assumes nothing.
use Rattle.yard.proofs.Lines.{by_change, by_packed_call, by_plain_call}
use Rattle.yard.proofs.line_on.Goals as goal

pub returns-in-Some : goal.returns-in-Some
returns-in-Some c =
    let args = c.args in
    let told = by_change args.state args.four args.plain.now args.packed.now args.line.now args.out.now c.read_request-request.ensures c.change_of.ensures
    c.in-Some.is _ _ _ (c.change_line-changed.ensures.value, (c.change_line-changed.ensures.plain_after, (c.change_line-changed.ensures.packed_after, c.change_line-changed.ensures.out_after))) in
    record { value = told.0; plain_after = told.1.0; packed_after = told.1.1.0; out_after = told.1.1.1 }

pub returns-then-four : goal.returns-then-four
returns-then-four c =
    let args = c.args in
    let told = by_packed_call args.state args.four args.plain.now args.packed.now args.line.now args.out.now c.read_request-request.ensures c.change_of.ensures
    c.in-None.is c.if-four.true _ _ _ (c.call_line.ensures.value, (c.call_line.ensures.store_after, c.call_line.ensures.out_after)) in
    record { value = told.0; plain_after = told.1.0; packed_after = told.1.1.0; out_after = told.1.1.1 }

pub returns-else-four : goal.returns-else-four
returns-else-four c =
    let args = c.args in
    let told = by_plain_call args.state args.four args.plain.now args.packed.now args.line.now args.out.now c.read_request-request.ensures c.change_of.ensures
    c.in-None.is c.if-four.false _ _ _ (c.call_line-else-four.ensures.value, (c.call_line-else-four.ensures.store_after, c.call_line-else-four.ensures.out_after)) in
    record { value = told.0; plain_after = told.1.0; packed_after = told.1.1.0; out_after = told.1.1.1 }
