-- Numbers in bytes, the lowest byte first: how C finds them in what it lends.
-- Assumes nothing.
use Rattle.std.specs.Prelude.{List, [], ◌∷◌, ◌++◌, ℕ, zero, suc, ◌+◌, ◌*◌, ◌/◌, ◌%◌, length, drop, get_or}

-- n bytes of a number
unfoldable pub low_bytes : ℕ → ℕ → List ℕ
low_bytes zero x = []
low_bytes (suc n) x = x % 256 ∷ low_bytes n (x / 256)

-- numbers one after another, n bytes each
unfoldable pub in_bytes : ℕ → List ℕ → List ℕ
in_bytes n [] = []
in_bytes n (x ∷ xs) = low_bytes n x ++ in_bytes n xs

-- numbers one after another over the front of a list, each in as many bytes as there are for it
unfoldable pub numbers_over : List ℕ → List ℕ → List ℕ
numbers_over xs out =
    in_bytes (length out / length xs) xs ++ drop (length xs * (length out / length xs)) out

-- the number that n bytes are, from a place on
unfoldable pub number_from : ℕ → List ℕ → ℕ → ℕ
number_from zero bytes at = 0
number_from (suc n) bytes at = get_or bytes at 0 + 256 * number_from n bytes (at + 1)
