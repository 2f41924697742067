-- How often each of the 32 coded bits came as a 1 and as a 0, the counts' binary digits as words (bit planes), and the distance that the planes give.
-- Assumes nothing.
use Rattle.std.specs.Prelude.{List, [], ◌∷◌, ℕ, zero, suc, ◌+◌, ◌-◌, ◌*◌, ◌/◌, ◌%◌, ◌^◌, get_or}
use Rattle.std.specs.Int.Bits.{bit_and, bit_xor}
use Rattle.std.specs.Int.Count.{ones}
use Rattle.report_code.specs.Code.{shared}
use Rattle.report_code.specs.Words.{number_of}

-- 1 for 0 and 0 for 1
unfoldable pub inverted : List ℕ → List ℕ
inverted [] = []
inverted (x ∷ xs) = (1 - x) ∷ inverted xs

-- the entries of ys added to the first of xs
unfoldable pub plus : List ℕ → List ℕ → List ℕ
plus [] ys = []
plus (x ∷ xs) [] = x ∷ xs
plus (x ∷ xs) (y ∷ ys) = (x + y) ∷ plus xs ys

-- how many received bits the block b differs from, where its bits came so often as a 1 and so often as a 0
unfoldable pub cost : List ℕ → List ℕ → List ℕ → ℕ
cost b heard_ones heard_zeros = shared b heard_zeros + shared (inverted b) heard_ones

-- binary digit p of each count
unfoldable pub digits : List ℕ → ℕ → List ℕ
digits [] p = []
digits (x ∷ xs) p = (x / 2 ^ p % 2) ∷ digits xs p

-- plane p: those digits as a word
unfoldable pub plane : List ℕ → ℕ → ℕ
plane counts p = number_of (digits counts p)

-- the distance of a word by the first n planes of the ones and the zeros, highest first from what the planes above gave
unfoldable pub plane_distance : ℕ → List ℕ → List ℕ → ℕ → ℕ → ℕ
plane_distance word onesPlanes zerosPlanes zero above = above
plane_distance word onesPlanes zerosPlanes (suc p) above =
    plane_distance word onesPlanes zerosPlanes p
    (2 * above + ones (bit_and (get_or zerosPlanes p 0) word) + ones (bit_and (get_or onesPlanes p 0) (bit_xor word 4294967295)))
