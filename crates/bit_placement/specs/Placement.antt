-- The bits of one turn of a code block put at their places, clause 5.1.4.1.2 from the receiver's side and 01 'Receive': which places they are, in what order, and
-- what is kept there afterwards.
-- Assumes nothing.
use Rattle.std.specs.Prelude.{Bool, cond, ◌&&◌, List, ℕ, min, leb, length, take}
use Rattle.rate_matching.specs.SubBlocks.{rows}
use Rattle.rate_matching.specs.Circle.{circle_length, cut_at, start_in}
use Rattle.rate_matching.specs.Walk.{turn}
use Rattle.rate_matching.specs.Shape.{shape}
use Rattle.rate_matching.specs.Turns.{matchable}
use Rattle.slots.specs.Putting.{put_along}
use Rattle.slots.specs.Room.{agreeing}

-- bits at the first of some places, as many as there are of both
unfoldable pub put_first : List ℕ → List ℕ → List ℕ → List ℕ
put_first places bits list = put_along agreeing (take (length bits) places) bits list

-- one turn of version v along the circle of a code block with D places a stream and F filler bits, cut at the N_cb of its share `soft` of the soft buffer
unfoldable pub turn_in : ℕ → ℕ → ℕ → ℕ → List ℕ
turn_in D F soft v = turn (take (cut_at soft (rows D)) (shape D F)) (start_in (cut_at soft (rows D)) (rows D) v)

-- there is such a code block and version, and a list of `long` entries has its circle
unfoldable pub placeable : ℕ → ℕ → ℕ → ℕ → ℕ → Bool
placeable D F soft v long = matchable D D D F (cut_at soft (rows D)) v && leb (circle_length (rows D)) long

-- the part of a room that begins with its circle, after the bits of one turn
unfoldable pub part_after_turn : ℕ → ℕ → ℕ → ℕ → List ℕ → List ℕ → List ℕ
part_after_turn D F soft v bits part = cond (placeable D F soft v (length part)) (put_first (turn_in D F soft v) bits part) part

-- how many of E bits it took, where it has `long` entries
unfoldable pub bits_put : ℕ → ℕ → ℕ → ℕ → ℕ → ℕ → ℕ
bits_put D F soft v E long = cond (placeable D F soft v long) (min (length (turn_in D F soft v)) E) 0
