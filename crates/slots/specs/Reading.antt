-- Reading a room, 01 'Read' and 'Streams' and 02, E1: how many data places of the block lack a bit, the code blocks that were heard and the first wrong one,
-- the block that was heard and its transport check, what Read answers, the three streams of a code block.
-- Assumes nothing.
use Rattle.std.specs.Prelude.{Bool, cond, not, ◌&&◌, List, [], ◌++◌, ℕ, zero, suc, ◌+◌, ◌-◌, eqb, ltb, take}
use Rattle.check_bits.specs.CheckBits.{crc, g_crc24a, g_crc24b}
use Rattle.segmentation.specs.Segmentation.{check_length, blocks, size_of, filler_of}
use Rattle.slots.specs.Outcome.{Answer}
use Rattle.slots.specs.Outcome.{Done, Refused}
use Rattle.slots.specs.Room.{circle_at}
use Rattle.slots.specs.Circle.{sum_from, lacking_on, heard_on, code_block_on, streams_on}
use Rattle.slots.specs.Answers.{Lacking, WrongBlock}

-- how many data places of code block r lack a bit, for a sequence of B bits
unfoldable pub lacking_in : ℕ → List ℕ → ℕ → ℕ
lacking_in B room r = lacking_on (circle_at r room) (size_of B r) (filler_of B r)

-- how many data places of the block lack a bit
unfoldable pub lacking : ℕ → List ℕ → ℕ
lacking A room = sum_from (lacking_in (A + 24) room) 0 (blocks (A + 24))

-- code block r as it was heard
unfoldable pub heard_code_block : ℕ → List ℕ → ℕ → List ℕ
heard_code_block B room r = code_block_on (circle_at r room) (size_of B r) (filler_of B r)

-- the check of code block r is wrong: the code block with its CRC24B leaves a remainder (clause 5.1.1); a single code block has none
unfoldable pub wrong_block : ℕ → List ℕ → ℕ → Bool
wrong_block B room r = not (eqb (blocks B) 1) && not (eqb (crc 24 g_crc24b (heard_code_block B room r)) 0)

-- the first of n numbers from i on of which f is true, and i + n where there is none
unfoldable pub first_from : (ℕ → Bool) → ℕ → ℕ → ℕ
first_from f i zero = i
first_from f i (suc n) = cond (f i) i (first_from f (suc i) n)

-- the first code block, counted from 0, whose check is wrong, and C where there is none
unfoldable pub first_wrong : ℕ → List ℕ → ℕ
first_wrong A room = first_from (wrong_block (A + 24) room) 0 (blocks (A + 24))

-- number 16: there is one
unfoldable pub some_wrong : ℕ → List ℕ → Bool
some_wrong A room = ltb (first_wrong A room) (blocks (A + 24))

-- the bits of b that code block r carries: filler and CRC24B left out
unfoldable pub heard_in : ℕ → List ℕ → ℕ → List ℕ
heard_in B room r = heard_on (circle_at r room) (size_of B r) (filler_of B r) (size_of B r - check_length B - filler_of B r)

-- the bits of n code blocks from r on
unfoldable pub heard_from : ℕ → List ℕ → ℕ → ℕ → List ℕ
heard_from B room r zero = []
heard_from B room r (suc n) = heard_in B room r ++ heard_from B room (suc r) n

-- b as it was heard: the block and its transport check
unfoldable pub heard_sequence : ℕ → List ℕ → List ℕ
heard_sequence A room = heard_from (A + 24) room 0 (blocks (A + 24))

-- number 12: the transport check is wrong
unfoldable pub wrong_check : ℕ → List ℕ → Bool
wrong_check A room = not (eqb (crc 24 g_crc24a (heard_sequence A room)) 0)

-- what Read answers where nothing is lacking: 16 with the code block, then 12
abbrev pub checked_answer : ℕ → List ℕ → Answer
checked_answer A room =
    cond (some_wrong A room) (WrongBlock (first_wrong A room)) (cond (wrong_check A room) (Refused 12) Done)

-- what Read answers from the room: 11 with the count, then 16 and 12
unfoldable pub heard_answer : ℕ → List ℕ → Answer
heard_answer A room = cond (eqb (lacking A room) 0) (checked_answer A room) (Lacking (lacking A room))

-- the A bits that a read gives
unfoldable pub heard_block : ℕ → List ℕ → List ℕ
heard_block A room = take A (heard_sequence A room)

-- the three streams of code block r
unfoldable pub three_streams : ℕ → List ℕ → ℕ → List ℕ
three_streams B room r = streams_on (circle_at r room) (size_of B r + 4) (filler_of B r)
