-- What a circle keeps for the places of a code block's streams, 01 'Read' and 'Streams': which places it has, and which of a list of bytes lack a bit.
-- Assumes nothing.
use Rattle.std.specs.Prelude.{Bool, cond, ◌&&◌, List, ℕ, ◌+◌, ◌-◌, ◌*◌, ◌/◌, ◌%◌, eqb, leb, ltb, get_or}
use Rattle.rate_matching.specs.declared.StreamPlace.{StreamPlace}
use Rattle.rate_matching.specs.SubBlocks.{rows}
use Rattle.rate_matching.specs.Circle.{circle_length}
use Rattle.rate_matching.specs.Places.{longest}
use Rattle.slots.specs.Circle.{missing}

-- 1 where entry k of a list lacks a bit
unfoldable pub missing_at : List ℕ → ℕ → ℕ
missing_at bytes k = missing (get_or bytes k 0)

-- how far the places of stream s reach on the circle: stream 0 has the first 32·R, streams 1 and 2 the others
unfoldable pub reach_of : ℕ → ℕ → ℕ
reach_of D s = cond (eqb s 0) (32 * rows D) (circle_length (rows D))

-- `long` entries have the circle of a code block of size K, a multiple of 8 from 40 to 6144, of which at most all are filler
unfoldable pub countable : ℕ → ℕ → ℕ → Bool
countable long K F = leb K 6144 && leb 40 K && eqb (K % 8) 0 && leb F K && leb (circle_length (rows (K + 4))) long

-- streams of D places, D = K + 4 for such a K, have n places from the place p on, and `long` entries have them
unfoldable pub readable : ℕ → ℕ → StreamPlace → ℕ → Bool
readable long D p n =
    (leb D longest && ltb p.1 D)
    && (leb 44 D && eqb (D % 8) 4 && leb p.0 2 && leb n (D - p.1) && leb (reach_of D p.0) long)

-- `long` entries have all three streams, F of whose places at most all are filler, and n entries have room for them
unfoldable pub showable : ℕ → ℕ → ℕ → ℕ → Bool
showable long D F n = readable long D (2, 0) D && leb F D && leb D (n / 3)
