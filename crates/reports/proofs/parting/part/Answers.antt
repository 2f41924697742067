-- `parting::part` meets its contract: a refusal leaves the output as it was, else its front is lent for the bits of the message.
-- Assumes nothing.
use mathlib.Core.Path.{sym, ◌∙◌, ap₂}
use Prim.Native.Nat.{◌≤◌}
use lib.ListN.{length}
use lib.Seq.{length-take-le}
use Rattle.laws.proofs.Parts.{front_count}
use Rattle.report_code.specs.Words.{message_bits}
use Rattle.reports.specs.Calls.{nearest_report}
use Rattle.reports.proofs.Parted.{run_accepted, refused_output, read_output_lem}
use Rattle.reports.proofs.parting.part.Goals.{In_ok-message}
use Rattle.reports.proofs.parting.part.Goals as goal

fits : (c : In_ok-message) → c.args.layout.report ≤ length c.args.out.now
fits c = (run_accepted _ _ _ _ _ _ _ (sym c.in_ok-message.ensures.number)).enough

pub returns-in_err-message-clause-output : goal.returns-in_err-message-clause-output
returns-in_err-message-clause-output c = refused_output _ _ _ _ _ _ _ _ c.in_err-message.ensures.number

pub slice_bounds-put_message-end : goal.slice_bounds-put_message-end
slice_bounds-put_message-end c = fits (goal.at.slice_bounds-put_message-end c).In_ok-message

pub slice_bounds-put_message-end-2 : goal.slice_bounds-put_message-end-2
slice_bounds-put_message-end-2 c = front_count _ _ (fits (goal.at.slice_bounds-put_message-end-2 c).In_ok-message)

pub returns-clause-output : goal.returns-clause-output
unfolding nearest_report
returns-clause-output c =
    read_output_lem _ _ _ _ _ _ _ (sym c.in_ok-message.ensures.number)
    (c.put_message.ensures ∙ ap₂ message_bits (length-take-le _ _ (fits (goal.at.returns-clause-output c).In_ok-message)) c.in_ok-message.ensures.message)
