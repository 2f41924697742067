-- The shape of a code block's circle: which places hold a bit, the same for every block, and how they lie in its columns (clauses 5.1.4.1.1 and 5.1.4.1.2).
-- Assumes nothing.
use Rattle.std.specs.Prelude.{List, ◌++◌, ℕ, ◌+◌, ◌-◌, ◌*◌, ◌/◌, replicate}
use Rattle.laws.specs.Lists.{tab_from, keep}
use Rattle.turbo.specs.Streams.{without_filler}
use Rattle.rate_matching.specs.Circle.{circle}
use Rattle.rate_matching.specs.Walk.{holds_bit, itself}

-- D places of 0
unfoldable pub blank : ℕ → List ℕ
blank D = replicate {A = ℕ} D 0

-- the circle of a code block with D places a stream and F filler bits, its bits all 0: which places hold a bit is the same for every block
unfoldable pub shape : ℕ → ℕ → List ℕ
shape D F = circle (without_filler F (blank D)) (without_filler F (blank D)) (blank D)

-- the places from j to `end` that hold a bit
unfoldable pub bit_places : List ℕ → ℕ → ℕ → List ℕ
bit_places w j end = keep (holds_bit w) (tab_from j (end - j) itself)

-- the place of stream 2 in row q of a column of streams 1 and 2
unfoldable pub second : ℕ → ℕ
second q = 2 * q + 1

-- the places of a column of streams 1 and 2 where stream 2 has a bit from row `alone` on and both have one from row `first` on, up to place `last`
unfoldable pub pair_places : ℕ → ℕ → ℕ → List ℕ
pair_places alone first last = tab_from alone (first - alone) second ++ tab_from (2 * first) (last - 2 * first) itself

-- where the bits of a column of streams 1 and 2 of R rows end, u being its original position: the last place of column 31 is the dummy that the shift brings there
unfoldable pub last_place : ℕ → ℕ → ℕ
last_place R u = 2 * R - u / 31
