-- A downlink control message, clause 5.3.3 from the attached check onward: CRC attachment (5.3.3.2), channel coding (5.3.3.3), rate matching (5.3.3.4).
-- Assumes nothing.
use Rattle.std.specs.Prelude.{List, ℕ}
use Rattle.control_messages.specs.Attachment.{attached}
use Rattle.control_messages.specs.TailBiting.{generator0, generator1, generator2, parity_stream}
use Rattle.control_messages.specs.RateMatching.{matched}

-- the E bits that payload and check c are sent as
unfoldable pub coded : List ℕ → ℕ → List ℕ
coded c E = matched (parity_stream generator0 c) (parity_stream generator1 c) (parity_stream generator2 c) E

-- the E bits of the message with payload a for terminal t
unfoldable pub message : List ℕ → ℕ → ℕ → List ℕ
message a t E = coded (attached a t) E
