-- What the room of an open slot holds, demand 3 in the words of 02 E2: for each place the bit on which all bits accepted since the opening agree, disputed or unheard.
-- Assumes nothing.
use Rattle.std.specs.Prelude.{◌≡◌, List, ℕ, ◌+◌, ◌≤◌, ◌<◌, get_or}
use Rattle.segmentation.specs.Segmentation.{blocks}
use Rattle.slots.specs.State.{per_block}
use Rattle.slots.specs.Room.{unheard, room_at, circle_at}
use Rattle.history.specs.Calls.{Reception}
use Rattle.history.specs.Accepted.{arrivals}
use Rattle.history.specs.Agreed.{holding}

-- the room of a slot for M code blocks that is open for a block of A bits, each code block having a share `soft` of the soft buffer, after the receptions xs
pub record Holds (soft M slot A : ℕ) (xs : List Reception) (rooms : List ℕ) : Type 0 where
  -- a place of one of its code blocks
  pub place : (r j : ℕ) → r < blocks (A + 24) → j < per_block
      → get_or (circle_at r (room_at M slot rooms)) j 0 ≡ holding (arrivals soft A xs r j)
  -- the rest of the room
  pub rest : (r j : ℕ) → blocks (A + 24) ≤ r → r < M → j < per_block
      → get_or (circle_at r (room_at M slot rooms)) j 0 ≡ unheard
