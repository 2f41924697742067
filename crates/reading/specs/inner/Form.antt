-- What the parts of Read and Streams may take for granted of a room that keeps a place a byte, or four, 02 E7.
-- Assumes nothing.
use Rattle.std.specs.Prelude.{Bool, List, ℕ, ◌+◌, ◌*◌, ◌≤◌, length}
use Rattle.slots.specs.State.{per_block}
use Rattle.packing.specs.Store.{places_in}

-- a room, or a store, that has a code block r
pub record HasCircle (four : Bool) (r : ℕ) (room : List ℕ) : Type 0 where
  pub enough : r * per_block + per_block ≤ length (places_in four room)
