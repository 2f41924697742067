-- What a place of a room keeps, 01 'Slots' and 02 E2: 0 and 1 are heard bits, 3 means disputed, every other value unheard; how a new bit meets what is kept;
-- and the one place where a store enters: the room of a slot, and in it the circle of a code block.
-- Assumes nothing.
use Rattle.std.specs.Prelude.{Bool, cond, not, ◌||◌, List, ◌++◌, ℕ, ◌+◌, ◌*◌, eqb, ltb, take, drop, replicate}
use Rattle.slots.specs.State.{per_block, room_length, room_start}
use Rattle.slots.specs.Putting.{Keeping}

-- what Open writes: unheard
abbrev pub unheard : ℕ
unheard = 2

-- both a 0 and a 1 were heard since the opening
abbrev pub disputed : ℕ
disputed = 3

-- a place with this value has a value: something was heard for it, that is neither 2 nor above 3
unfoldable pub has_value : ℕ → Bool
has_value x = not (eqb x unheard || ltb disputed x)

-- and is decided: one bit was heard, and none that differs; what is not decided is lacking
unfoldable pub is_decided : ℕ → Bool
is_decided x = ltb x 2

-- what a place that kept `old` keeps after the bit `new`: the bit, if nothing was heard before or the same; else it is disputed, and stays so
unfoldable pub meet : ℕ → ℕ → ℕ
meet old new = cond (not (has_value old) || eqb old new) new disputed

-- so bits meet what rooms keep
unfoldable pub agreeing : Keeping ℕ ℕ
agreeing = record { none = 0; nothing = 0; meets = meet }

-- the room of a slot, for M code blocks: what stands in the store from the room's start on
unfoldable pub room_at : {X : Type 0} → ℕ → ℕ → List X → List X
room_at M slot store = drop (room_start M slot) store

-- the circle of code block r: what stands in a room from the circle's first place on
unfoldable pub circle_at : {X : Type 0} → ℕ → List X → List X
circle_at r room = drop (r * per_block) room

-- the store with another room for a slot, whatever stands behind it included
unfoldable pub with_room : {X : Type 0} → ℕ → ℕ → List X → List X → List X
with_room M slot room store = take (room_start M slot) store ++ room

-- the room with another circle for code block r, whatever stands behind it included
unfoldable pub with_circle : {X : Type 0} → ℕ → List X → List X → List X
with_circle r circle room = take (r * per_block) room ++ circle

-- the store with the slot's whole room unheard
unfoldable pub cleared : ℕ → ℕ → List ℕ → List ℕ
cleared M slot store =
    take (room_start M slot) store
    ++ (replicate {A = ℕ} (room_length M) unheard ++ drop (room_start M slot + room_length M) store)
