-- What the bits that came for a place say together, 02 E2: a reading of the list of bits, and of nothing else.
-- Assumes nothing.
use Rattle.std.specs.Prelude.{Bool, true, false, cond, ◌&&◌, List, [], ◌∷◌, ℕ, eqb}
use Rattle.slots.specs.Room.{unheard, disputed}

-- each of the bits is b
unfoldable pub all_are : ℕ → List ℕ → Bool
all_are b [] = true
all_are b (c ∷ cs) = eqb c b && all_are b cs

-- what a place holds: the bit on which all bits that came agree, disputed if they differ, unheard if none came
unfoldable pub holding : List ℕ → ℕ
holding [] = unheard
holding (b ∷ bs) = cond (all_are b bs) b disputed

-- a bit came, and all that came agree
unfoldable pub decided : List ℕ → Bool
decided [] = false
decided (b ∷ bs) = all_are b bs
