-- The change of form of one room, both ways, 02 E7: a room of 18,528·M bytes and one of 4,632·M; M out of range is 13, then short buffers are 5.
-- Assumes nothing.
use Rattle.std.specs.Prelude.{Bool, cond, ◌||◌, List, [], ◌∷◌, ℕ, ◌*◌, eqb, ltb, length}
use Rattle.refusals.specs.Refusals.{Rule, rule, first_of}
use Rattle.slots.specs.State.{room_length}
use Rattle.packing.specs.Packing.{packed_over, unpacked_over}

-- the length of a packed room for M code blocks: a quarter
unfoldable pub packed_length : ℕ → ℕ
packed_length M = M * 4632

-- M out of range
unfoldable pub bad_blocks : ℕ → Bool
bad_blocks M = eqb M 0 || ltb 5 M

-- the rules by their names: M, and a buffer of `size` bytes that must have `needed`
abbrev pub blocks_rule : ℕ → Rule
blocks_rule M = rule (bad_blocks M) 13

abbrev pub bytes_rule : ℕ → ℕ → Rule
bytes_rule needed size = rule (ltb size needed) 5

-- 13, 5 (from), 5 (to): buffers of `from` and `to` bytes that must have `needed` and `written`
unfoldable pub change_number : ℕ → ℕ → ℕ → ℕ → ℕ → ℕ
change_number M from to needed written =
    first_of (blocks_rule M ∷ bytes_rule needed from ∷ bytes_rule written to ∷ [])

-- to the packed form
unfoldable pub pack_number : ℕ → ℕ → ℕ → ℕ
pack_number M from to = change_number M from to (room_length M) (packed_length M)

unfoldable pub pack_output : ℕ → List ℕ → List ℕ → List ℕ
pack_output M from to =
    cond (eqb (pack_number M (length from) (length to)) 0)
    (packed_over (packed_length M) from to)
    to

-- and back
unfoldable pub unpack_number : ℕ → ℕ → ℕ → ℕ
unpack_number M from to = change_number M from to (packed_length M) (room_length M)

unfoldable pub unpack_output : ℕ → List ℕ → List ℕ → List ℕ
unpack_output M from to =
    cond (eqb (unpack_number M (length from) (length to)) 0)
    (unpacked_over (packed_length M) from to)
    to
