-- Right checks of what a slot has heard, clauses 5.1.1 and 5.1.2 and 02, E1, in the words of the clauses.
-- Assumes nothing.
use Rattle.std.specs.Prelude.{◌≡◌, List, ℕ, ◌+◌, ◌-◌, length, take, drop}
use Rattle.check_bits.specs.CheckBits.{check_bits, g_crc24b}
use Rattle.segmentation.specs.Segmentation.{blocks}
use Rattle.segmentation.specs.CodeBlocks.{with_check}
use Rattle.slots.specs.declared.State.{State}
use Rattle.slots.specs.Room.{room_at}
use Rattle.slots.specs.Reading.{heard_code_block, heard_sequence, heard_block}
use Rattle.slots.specs.Calls.{size_at_head}

-- the last 24 bits are the check bits of those before them
abbrev pub EndsInCheck : ℕ → List ℕ → Type 0
EndsInCheck g bits = drop (length bits - 24) bits ≡ check_bits 24 g (take (length bits - 24) bits)

-- C of a slot's block
unfoldable pub blocks_at : State → ℕ → ℕ
blocks_at state slot = blocks (size_at_head state slot + 24)

-- code block r as it was heard ends in its CRC24B, filler counted as 0
unfoldable pub RightBlock : State → List ℕ → ℕ → ℕ → Type 0
RightBlock state store slot r =
    EndsInCheck g_crc24b (heard_code_block (size_at_head state slot + 24) (room_at state.blocks slot store) r)

-- what was heard of the block is followed by its transport check
unfoldable pub RightTransport : State → List ℕ → ℕ → Type 0
RightTransport state store slot =
    heard_sequence (size_at_head state slot) (room_at state.blocks slot store)
    ≡ with_check (heard_block (size_at_head state slot) (room_at state.blocks slot store))
