-- The packed form of places, 02 E7: four places in a byte, the first in the top two bits; old values above 3 become 2.
-- Assumes nothing.
use Rattle.std.specs.Prelude.{cond, List, ◌++◌, ℕ, zero, suc, ◌+◌, ◌*◌, ◌/◌, ◌%◌, ltb, get_or, drop}
use Rattle.laws.specs.Lists.{tab}

-- what two bits keep of a place: a value above 3 becomes 2, unheard
unfoldable pub in_two_bits : ℕ → ℕ
in_two_bits x = cond (ltb 3 x) 2 x

-- the byte of four successive places, the first in the top two bits
unfoldable pub four_in : ℕ → ℕ → ℕ → ℕ → ℕ
four_in a b c d = in_two_bits a * 64 + in_two_bits b * 16 + in_two_bits c * 4 + in_two_bits d

-- byte i of a packed list: places 4·i to 4·i + 3
unfoldable pub packed_at : List ℕ → ℕ → ℕ
packed_at places i =
    four_in
    (get_or places (4 * i) 0)
    (get_or places (4 * i + 1) 0)
    (get_or places (4 * i + 2) 0)
    (get_or places (4 * i + 3) 0)

-- the first n bytes of a packed list: its first 4·n places
unfoldable pub packed : ℕ → List ℕ → List ℕ
packed n places = tab n (packed_at places)

-- a list with the packed bytes over its first n
unfoldable pub packed_over : ℕ → List ℕ → List ℕ → List ℕ
packed_over n places to = packed n places ++ drop n to

-- the place that stands at k, 0 to 3 from the top, in a byte
unfoldable pub standing_at : ℕ → ℕ → ℕ
standing_at zero b = b / 64 % 4
standing_at (suc zero) b = b / 16 % 4
standing_at (suc (suc zero)) b = b / 4 % 4
standing_at (suc (suc (suc k))) b = b % 4

-- the four places of a byte, each in a byte of one word, the first in the lowest
unfoldable pub four_apart : ℕ → ℕ
four_apart b = standing_at 0 b + 256 * standing_at 1 b + 65536 * standing_at 2 b + 16777216 * standing_at 3 b

-- place j of a list that is kept packed
unfoldable pub place_in : List ℕ → ℕ → ℕ
place_in bytes j = standing_at (j % 4) (get_or bytes (j / 4) 0)

-- the places of the first n bytes
unfoldable pub unpacked : ℕ → List ℕ → List ℕ
unpacked n bytes = tab (4 * n) (place_in bytes)

-- a list with those places over its first 4·n
unfoldable pub unpacked_over : ℕ → List ℕ → List ℕ → List ℕ
unpacked_over n bytes to = unpacked n bytes ++ drop (4 * n) to
