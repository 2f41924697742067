-- Changing every room of a store, 02 E7: each room by the change of form of one room, from the store into another buffer.
-- Assumes nothing.
use Rattle.std.specs.Prelude.{Bool, cond, not, List, ◌++◌, ℕ, zero, suc, ◌*◌, take, drop}
use Rattle.packing.specs.Change.{change_number, pack_output, unpack_output}
use Rattle.packing.specs.Store.{bytes_a_block}

-- the bytes of a room for M code blocks, in either form
unfoldable pub room_in : Bool → ℕ → ℕ
room_in four M = M * bytes_a_block four

-- one room brought into the form, from the other one
unfoldable pub room_changed : Bool → ℕ → List ℕ → List ℕ → List ℕ
room_changed four M from to = cond four (pack_output M from to) (unpack_output M from to)

-- n rooms, one after another
unfoldable pub rooms_changed : Bool → ℕ → ℕ → List ℕ → List ℕ → List ℕ
rooms_changed four M zero from to = to
rooms_changed four M (suc n) from to =
    room_changed four M (take (room_in (not four) M) from) (take (room_in four M) to)
    ++ rooms_changed four M n (drop (room_in (not four) M) from) (drop (room_in four M) to)

-- 13, 5 (from), 5 (to), for n rooms
unfoldable pub rooms_number : Bool → ℕ → ℕ → ℕ → ℕ → ℕ
rooms_number four M n from to = change_number M from to (n * room_in (not four) M) (n * room_in four M)
