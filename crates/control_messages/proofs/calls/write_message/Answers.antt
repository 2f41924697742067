-- `calls::write_message` meets its contract: attached, coded and rate matched.
-- Assumes nothing.
use Rattle.control_messages.proofs.Whole.{message_is}
use Rattle.control_messages.proofs.calls.write_message.Goals as goal

pub returns : goal.returns
returns c =
    message_is c.args.payload.now c.args.terminal _ _ c.requires.sized c.requires.are_bits c.led_bits.ensures c.channel_coding.ensures c.rate_matching.ensures
