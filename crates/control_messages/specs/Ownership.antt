-- Whose a received run of payload and check bits is: which terminal numbers fit it, and the one that is worked out.
-- Assumes nothing.
use Rattle.std.specs.Prelude.{◌≡◌, List, ℕ, ◌-◌, ◌<◌, length, take, drop}
use Rattle.laws.specs.Bits.{◌⊕◌}
use Rattle.check_bits.specs.CheckBits.{g_crc16, crc}
use Rattle.rate_matching.specs.Columns.{number_of}
use Rattle.control_messages.specs.Attachment.{attached}

-- the payload of a run: all but its last 16 bits
unfoldable pub payload_of : List ℕ → List ℕ
payload_of run = take (length run - 16) run

-- the mixed check of a run: its last 16 bits
unfoldable pub check_of : List ℕ → List ℕ
check_of run = drop (length run - 16) run

-- the terminal number t fits the run: it is what clause 5.3.3.2 makes of its payload for t
pub record Fits (run : List ℕ) (t : ℕ) : Type 0 where
  pub terminal : t < 65536
  pub made : run ≡ attached (payload_of run) t

-- the terminal number that is worked out: what the mixed check differs from the payload's own check by
unfoldable pub owner_of : List ℕ → ℕ
owner_of run = crc 16 g_crc16 (payload_of run) ⊕ number_of (check_of run)
