-- The circle of clause 5.1.4.1.2 by units: its 32 columns of d(0), then its 32 columns of d(1) and d(2) by turns, and the places of each that hold a bit, which begin at a known row.
-- Assumes nothing.
use Rattle.std.specs.Prelude.{◌≡◌, cond, ◌&&◌, List, ◌++◌, ℕ, ◌+◌, ◌-◌, ◌*◌, ◌/◌, ◌%◌, ◌≤◌, ◌<◌, min, leb, ltb, Option, Some, None}
use Rattle.laws.specs.Lists.{tab, tab_from}
use Rattle.rate_matching.specs.declared.CirclePlace.{CirclePlace}
use Rattle.rate_matching.specs.declared.Unit.{Unit}
use Rattle.rate_matching.specs.Columns.{column}
use Rattle.rate_matching.specs.SubBlocks.{rows, dummies, rows_before}
use Rattle.rate_matching.specs.Walk.{itself}
use Rattle.rate_matching.specs.Shape.{second, last_place}
use Rattle.rate_matching.specs.Places.{circle_place, longest}
use Rattle.rate_matching.specs.Matrix.{column_head}

-- column c of stream 0 on the circle of streams of D places, the first F of stream 0 absent: its bits begin behind the dummies and the filler
unfoldable pub column_unit : ℕ → ℕ → ℕ → Unit
column_unit D F c = record {
  begin = circle_place (column_head (rows D) 0 c);
  alone = circle_place (column_head (rows D) 0 c + rows_before (dummies D + F) (column c));
  both = circle_place (column_head (rows D) 0 c + rows_before (dummies D + F) (column c));
  end = circle_place (column_head (rows D) 0 c + rows D);
  early = (0, column c + 32 * rows_before (dummies D + F) (column c) - dummies D);
  first = (0, column c + 32 * rows_before (dummies D + F) (column c) - dummies D);
}

-- column c of streams 1 and 2, the first F of stream 1 absent: stream 2, which has no filler and is read one further, stands alone first; the last place of
-- column 31 wraps to a dummy
unfoldable pub pair_unit : ℕ → ℕ → ℕ → Unit
pair_unit D F c = record {
  begin = circle_place (column_head (rows D) 1 c);
  alone = circle_place (column_head (rows D) 1 c + second (rows_before (dummies D) (column c + 1)));
  both = circle_place (column_head (rows D) 1 c + 2 * rows_before (dummies D + F) (column c));
  end = circle_place (column_head (rows D) 1 c + last_place (rows D) (column c));
  early = (2, column c + 1 + 32 * rows_before (dummies D) (column c + 1) - dummies D);
  first = (1, column c + 32 * rows_before (dummies D + F) (column c) - dummies D);
}

-- unit u of the 64
unfoldable pub unit_at : ℕ → ℕ → ℕ → Unit
unit_at D F u = cond (ltb u 32) (column_unit D F u) (pair_unit D F (u - 32))

-- unit u, where streams of D places with F filler bits have it
unfoldable pub unit_within : ℕ → ℕ → ℕ → Option Unit
unit_within D F u = cond (leb D longest && ltb F D && ltb u 64) (Some (unit_at D F u)) None

-- the same of column c of stream 0, and of column c of streams 1 and 2
unfoldable pub column_within : ℕ → ℕ → ℕ → Option Unit
column_within D F c = cond (leb D longest && ltb F D && ltb c 32) (Some (column_unit D F c)) None

unfoldable pub pair_within : ℕ → ℕ → ℕ → Option Unit
pair_within D F c = cond (leb D longest && ltb F D && ltb c 32) (Some (pair_unit D F c)) None

-- place k of those where stream 2 stands alone
unfoldable pub alone_place : Unit → ℕ → ℕ
alone_place U k = U.alone.0 + 2 * k

-- how many they are, and how many places follow, which all hold a bit
unfoldable pub alone_count : Unit → ℕ
alone_count U = (U.both.0 + 1 - U.alone.0) / 2

unfoldable pub both_count : Unit → ℕ
both_count U = U.end.0 - U.both.0

-- the places of a unit that hold a bit
unfoldable pub unit_places : Unit → List ℕ
unit_places U = tab (alone_count U) (alone_place U) ++ tab_from U.both.0 (both_count U) itself

-- how many of them lie before a place
unfoldable pub bits_before : Unit → CirclePlace → ℕ
bits_before U cut =
    cond (ltb U.both.0 cut.0)
    (alone_count U + (min U.end.0 cut.0 - U.both.0))
    ((cut.0 + 1 - U.alone.0) / 2)

-- the circle place that unit u begins at: R places a unit, from unit 32 on twice as many
unfoldable pub unit_start : ℕ → ℕ → ℕ
unit_start R u = R * (u + (u - 32))

-- the unit that begins at place R·(2·m + 2): from unit 32 on a unit has twice as many places
unfoldable pub unit_of : ℕ → ℕ
unit_of m = cond (ltb m 15) (2 * m + 2) (m + 17)

-- the unit that begins at k0 of redundancy version v
unfoldable pub start_unit : ℕ → ℕ → ℕ → ℕ
start_unit Ncb R v = unit_of ((Ncb + (8 * R - 1)) / (8 * R) * v)

-- the units that lie before N_cb as a whole, and how many places of the next one do
unfoldable pub whole_units : ℕ → ℕ → ℕ
whole_units Ncb R = 32 + (Ncb - 32 * R) / (2 * R)

unfoldable pub rest_places : ℕ → ℕ → ℕ
rest_places Ncb R = (Ncb - 32 * R) % (2 * R)

-- the places of a unit lie in order, on a circle
pub record Lies (U : Unit) : Type 0 where
  pub alone : U.alone.0 ≤ U.both.0 + 1
  pub both : U.both.0 ≤ U.end.0
  pub end : U.end.0 ≤ 18528

-- three streams of one length D = K + 4, K a multiple of 8, with F filler bits
pub record Fitting (D D1 D2 F : ℕ) : Type 0 where
  pub first : D1 ≡ D
  pub second : D2 ≡ D
  pub some : D % 8 ≡ 4
  pub most : D ≤ longest
  pub filler : F < D
