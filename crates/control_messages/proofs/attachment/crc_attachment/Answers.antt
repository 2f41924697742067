-- `attachment::crc_attachment` meets its contract: the payload is copied to the front, and the mixed check put behind it.
-- Assumes nothing.
use mathlib.Core.Path.{ap₂}
use Rattle.laws.specs.Bits.{◌⊕◌}
use Rattle.check_bits.specs.CheckBits.{crc}
use Rattle.control_messages.proofs.Attaching.{attached_put}
use Rattle.control_messages.proofs.attachment.crc_attachment.Goals as goal

pub returns : goal.returns
unfolding crc
returns c =
    attached_put c.args.payload.now c.args.bits.now c.args.terminal c.copy_from_slice.ensures.after c.requires
    (ap₂ ◌⊕◌ c.crc16.ensures c.from.ensures)
    c.put_check_bits_16.ensures
