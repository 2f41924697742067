-- What was sent of one code block, its circle and the part of a room that has it.
-- Assumes nothing.
use Rattle.std.specs.Prelude.{List, ℕ, ◌+◌, ◌≤◌, length}
use Rattle.rate_matching.specs.SubBlocks.{rows}
use Rattle.rate_matching.specs.Circle.{circle_length, cut_at}
use Rattle.bit_placement.specs.Placement.{turn_in}
use Rattle.reception.specs.declared.sent.Sent.{Sent}
use Rattle.reception.specs.inner.Parts.{part_after}

-- a list that has the places of the code block's circle
pub record OnCircle (sent : Sent) (places : List ℕ) : Type 0 where
  pub fits : circle_length (rows (sent.k + 4)) ≤ length places

-- the places of a whole turn
abbrev pub turn_of : Sent → List ℕ
turn_of sent = turn_in (sent.k + 4) sent.filler sent.soft sent.version

-- the part of a room for it after its bits
abbrev pub part_with : Sent → List ℕ → List ℕ → List ℕ
part_with sent bits part = part_after (sent.k + 4) sent.filler (cut_at sent.soft (rows (sent.k + 4))) sent.version bits part
