-- A store in one of two forms, 02 E7: a place a byte, or four places a byte. A call on either says what it does by the places that the store keeps.
-- Assumes nothing.
use Rattle.std.specs.Prelude.{Bool, cond, List, ℕ, ◌*◌, ◌/◌, min, length}
use Rattle.packing.specs.Packing.{packed, unpacked}

-- how many places a byte keeps, and how many bytes a code block has
unfoldable pub places_a_byte : Bool → ℕ
places_a_byte four = cond four 4 1

unfoldable pub bytes_a_block : Bool → ℕ
bytes_a_block four = cond four 4632 18528

-- the places that a store keeps
unfoldable pub places_in : Bool → List ℕ → List ℕ
places_in four store = cond four (unpacked (length store) store) store

-- the store that keeps these places
unfoldable pub in_form : Bool → List ℕ → List ℕ
in_form four places = cond four (packed (length places / 4) places) places

-- the places of a store of so many bytes, as far as a call asks: no store needs more than 8 rooms of 5 code blocks
unfoldable pub places_asked : Bool → ℕ → ℕ
places_asked four bytes = cond four (4 * min bytes 185280) bytes

-- what Open writes: unheard four times
abbrev pub unheard_byte : ℕ
unheard_byte = 170
