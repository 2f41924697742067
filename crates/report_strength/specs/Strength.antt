-- How strong the (32, O) code is: the least weight of a word, and from how many control bits on the words are apart, for O = 1, .., 11.
-- Assumes nothing.
use Rattle.std.specs.Prelude.{List, [], ◌∷◌, ℕ, ◌+◌, ◌-◌, get_or}

-- how many ones a run has
unfoldable pub weight : List ℕ → ℕ
weight [] = 0
weight (x ∷ xs) = x + weight xs

-- d(O): the least weight of the coded block of a report of O bits that are not all 0
unfoldable pub least_weights : List ℕ
least_weights = 32 ∷ 16 ∷ 16 ∷ 16 ∷ 16 ∷ 16 ∷ 12 ∷ 12 ∷ 12 ∷ 12 ∷ 10 ∷ []

unfoldable pub least_weight : ℕ → ℕ
least_weight O = get_or least_weights (O - 1) 0

-- the fewest control bits that tell every two reports of O bits apart
unfoldable pub fewest_table : List ℕ
fewest_table = 1 ∷ 3 ∷ 3 ∷ 5 ∷ 6 ∷ 11 ∷ 11 ∷ 11 ∷ 11 ∷ 11 ∷ 17 ∷ []

unfoldable pub fewest : ℕ → ℕ
fewest O = get_or fewest_table (O - 1) 0
