-- Turns of a code block's bits brought together in a ring, 02 E2.
-- Assumes nothing.
use Rattle.std.specs.Prelude.{◌≡◌, true, List, ℕ, ◌-◌, length, get_or, take, drop}
use Rattle.laws.specs.Lists.{tab, tab_from}
use Rattle.rate_matching.specs.Walk.{itself, turn_after_turn}
use Rattle.slots.specs.Putting.{put_along}
use Rattle.slots.specs.Room.{has_value, agreeing}

-- something was heard for each entry
abbrev pub AllKnown : List ℕ → Type 0
AllKnown l = (i : ℕ) → has_value (get_or l i 0) ≡ true

-- the turns of n bits, brought together place by place: the first, and what comes after it meets what is there
unfoldable pub ring_of : ℕ → List ℕ → List ℕ
ring_of n bits = put_along agreeing (tab_from n (length bits - n) (turn_after_turn (tab n itself))) (drop n bits) (take n bits)
