-- `attachment::with_lead` meets its contract: the last six bits are copied to the front, and all of them behind.
-- Assumes nothing.
use mathlib.Core.Path.{◌∙◌}
use lib.ListN.{drop}
use Rattle.control_messages.proofs.Attaching.{led_put, last_part}
use Rattle.control_messages.proofs.attachment.with_lead.Goals as goal

pub returns : goal.returns
returns c =
    led_put c.args.bits.now (drop 6 c.args.led.now) _ c.requires.0 (c.copy_from_slice.ensures.after ∙ last_part c.args.bits.now) c.copy_from_slice-2.ensures.after
