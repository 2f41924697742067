-- Bytes over the start of others, and where a byte stands in a list of bytes.
use Rattle.std.specs.Prelude.{Bool, true, false, cond, List, [], ◌∷◌, ◌++◌, ℕ, suc, eqb, leb, length, drop}

-- bytes over the start of others; where they are more than those are, the others as they were
unfoldable pub copied_over : List ℕ → List ℕ → List ℕ
copied_over from to = cond (leb (length from) (length to)) (from ++ drop (length from) to) to

-- the place in a list whose head is looked at first: 0 where the head is the one, else one behind its place in the rest
unfoldable pub index_after : Bool → ℕ → ℕ
index_after true k = 0
index_after false k = suc k

-- the place of the first b, or the list's length where it has none
unfoldable pub index_of : ℕ → List ℕ → ℕ
index_of b [] = 0
index_of b (x ∷ t) = index_after (eqb x b) (index_of b t)
