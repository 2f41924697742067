-- Where the places of a code block's streams lie on its circle, row by row (clause 5.1.4.1.1), what stands there, and what the parts of Read and Streams may take
-- for granted of a circle.
-- Assumes nothing.
use Rattle.std.specs.Prelude.{◌≡◌, List, ℕ, ◌+◌, ◌*◌, ◌/◌, ◌%◌, ◌≤◌, ◌<◌, get_or}
use Rattle.rate_matching.specs.declared.CirclePlace.{CirclePlace}
use Rattle.rate_matching.specs.Places.{circle_place, longest}
use Rattle.slots.specs.Circle.{missing, shown}
use Rattle.kept_bits.specs.Circle.{reach_of}

-- entry k of a list as Streams shows it
unfoldable pub shown_at : List ℕ → ℕ → ℕ
shown_at bytes k = shown (get_or bytes k 0)

-- where entry y of a matrix, which is written row by row, lies from where its columns begin: y / 32 rows further
unfoldable pub place_by : List CirclePlace → ℕ → ℕ → ℕ
place_by heads step y = (get_or heads (y % 32) (circle_place 0)).0 + step * (y / 32)

-- the byte so far below the head of column p
unfoldable pub kept_below : List ℕ → List CirclePlace → ℕ → ℕ → ℕ
kept_below circle heads below p = get_or circle ((get_or heads p (circle_place 0)).0 + below) 0

-- the byte where entry y lies
unfoldable pub kept_by : List ℕ → List CirclePlace → ℕ → ℕ → ℕ
kept_by circle heads step y = get_or circle (place_by heads step y) 0

-- 1 where it lacks a bit; of stream 0, whose rows are one place apart
unfoldable pub missing_below : List ℕ → List CirclePlace → ℕ → ℕ → ℕ
missing_below circle heads row p = missing (kept_below circle heads row p)

unfoldable pub missing_by : List ℕ → List CirclePlace → ℕ → ℕ
missing_by circle heads y = missing (kept_by circle heads 1 y)

-- n columns from column c on have a place so far below their heads on a circle of the length
pub record AlongRow (long : ℕ) (heads : List CirclePlace) (below c n : ℕ) : Type 0 where
  pub most : c + n ≤ 32
  pub places : (k : ℕ) → c ≤ k → k < c + n → (get_or heads k (circle_place 0)).0 + below < long

-- these n entries from entry y on lie on a circle of the length
pub record Along (long : ℕ) (heads : List CirclePlace) (step y n : ℕ) : Type 0 where
  pub most : y + n ≤ 32 * 193
  pub places : (k : ℕ) → y ≤ k → k < y + n → place_by heads step k < long

-- D = K + 4 for a K of table 5.1.3-3: the sizes are multiples of 8
pub record Streams (D : ℕ) : Type 0 where
  pub least : 44 ≤ D
  pub most : D ≤ longest
  pub bytes : D % 8 ≡ 4

-- stream s has the n places from place i on, and a list of `long` entries has them
pub record Stretch (long D s i n : ℕ) : Type 0 where
  pub sized : Streams D
  pub stream : s < 3
  pub begin : i < D
  pub within : i + n ≤ D
  pub room : reach_of D s ≤ long
