-- One turn of a code block's circle that is cut at N_cb, clause 5.1.4.1.2, by its units: which blocks, cuts and versions have one, where it starts, and where the cut shortens it.
-- Assumes nothing.
use Rattle.std.specs.Prelude.{Bool, cond, ◌&&◌, ℕ, ◌*◌, ◌%◌, leb, ltb, eqb, length, Option, Some, None}
use Rattle.rate_matching.specs.declared.Turn.{Turn}
use Rattle.rate_matching.specs.SubBlocks.{rows}
use Rattle.rate_matching.specs.Circle.{circle_length, cut_at}
use Rattle.rate_matching.specs.Places.{circle_place, longest}
use Rattle.rate_matching.specs.Shape.{shape, bit_places}
use Rattle.rate_matching.specs.Units.{unit_at, start_unit, whole_units, bits_before}

-- three streams of one length D = K + 4 for some K of 40 to 6144, a multiple of 8, fewer filler bits, an N_cb from 32·R to 96·R, and one of the four
-- redundancy versions
unfoldable pub matchable : ℕ → ℕ → ℕ → ℕ → ℕ → ℕ → Bool
matchable D D1 D2 F Ncb v =
    leb D longest && eqb D1 D && eqb D2 D && leb 44 D && eqb (D % 8) 4 && ltb F D && leb (32 * rows D) Ncb && leb Ncb (circle_length (rows D)) && leb v 3

-- the unit at which version v starts, the units before N_cb as a whole, and how many bits of the next one lie before it
unfoldable pub units_of : ℕ → ℕ → ℕ → ℕ → Turn
units_of D F Ncb v = record {
  start = start_unit Ncb (rows D) v;
  whole = whole_units Ncb (rows D);
  rest = bits_before (unit_at D F (whole_units Ncb (rows D))) (circle_place Ncb);
}

-- the turn of a code block that has a share `soft` of the soft buffer; none where nothing can be sent
unfoldable pub turn_of : ℕ → ℕ → ℕ → ℕ → Option Turn
turn_of D F soft v =
    cond (matchable D D D F (cut_at soft (rows D)) v) (Some (units_of D F (cut_at soft (rows D)) v)) None

-- how many bits its turn has, of whichever version: the places before N_cb that hold one; 0 where nothing can be sent
unfoldable pub turn_length : ℕ → ℕ → ℕ → ℕ
turn_length D F soft =
    cond (matchable D D D F (cut_at soft (rows D)) 0) (length (bit_places (shape D F) 0 (cut_at soft (rows D)))) 0
