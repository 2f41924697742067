-- Lists by rule: the entries f i, f (i + 1), .. as a list, and the entries that pass a test.
-- Assumes nothing.
use Rattle.std.specs.Prelude.{Bool, true, false, List, [], ◌∷◌, ℕ, zero, suc}

-- f i, f (i + 1), .., n entries
unfoldable pub tab_from : ℕ → ℕ → (ℕ → ℕ) → List ℕ
tab_from i zero f = []
tab_from i (suc n) f = f i ∷ tab_from (suc i) n f

-- f 0, f 1, .., n entries
unfoldable pub tab : ℕ → (ℕ → ℕ) → List ℕ
unfolding tab_from
tab n f = tab_from 0 n f

-- the entries that pass the test, in their order
unfoldable pub keep : (ℕ → Bool) → List ℕ → List ℕ
keep p [] = []
keep p (x ∷ xs) = elim (p x) [ true ↦ x ∷ keep p xs | false ↦ keep p xs ]
