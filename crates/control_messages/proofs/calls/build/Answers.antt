-- `calls::build` meets its contract: a refusal leaves the output as it was, else its first E bytes are lent to be the message.
-- Assumes nothing.
use mathlib.Core.Path.{sym, ◌∙◌, ap}
use lib.ListN.{length}
use lib.Seq.{length-take-le}
use Rattle.laws.proofs.Parts.{front_count}
use Rattle.control_messages.specs.Message.{message}
use Rattle.control_messages.proofs.Numbers.{Accepted, accepted, refused_output, built_output}
use Rattle.control_messages.proofs.calls.build.Goals.{In_ok-accept_payload}
use Rattle.control_messages.proofs.calls.build.Goals as goal

-- past the `?` the number is 0
told : (c : In_ok-accept_payload) → Accepted c.args.payload.now c.args.e (length c.args.out.now)
told c = accepted _ _ _ (sym c.in_ok-accept_payload.ensures)

pub returns-in_err-accept_payload-clause-output : goal.returns-in_err-accept_payload-clause-output
returns-in_err-accept_payload-clause-output c = refused_output _ _ _ _ _ c.in_err-accept_payload.ensures

pub slice_bounds-write_message-end : goal.slice_bounds-write_message-end
slice_bounds-write_message-end c = (told (goal.at.slice_bounds-write_message-end c).In_ok-accept_payload).fits

pub slice_bounds-write_message-end-2 : goal.slice_bounds-write_message-end-2
slice_bounds-write_message-end-2 c = front_count _ _ (told (goal.at.slice_bounds-write_message-end-2 c).In_ok-accept_payload).fits

pub write_message-requires-clause-sized : goal.write_message-requires-clause-sized
write_message-requires-clause-sized c = (told (goal.at.write_message-requires-clause-sized c).In_ok-accept_payload).size

pub write_message-requires-clause-are_bits : goal.write_message-requires-clause-are_bits
write_message-requires-clause-are_bits c = (told (goal.at.write_message-requires-clause-are_bits c).In_ok-accept_payload).bits

pub returns-clause-output : goal.returns-clause-output
returns-clause-output c =
    built_output _ _ _ _ (sym c.in_ok-accept_payload.ensures)
    (c.write_message.ensures
    ∙ ap (message c.args.payload.now c.args.terminal) (length-take-le _ _ (told (goal.at.returns-clause-output c).In_ok-accept_payload).fits))
