-- The ring into which the rate matcher puts the bits of a turn: how long it has to be, and what stands in it.
-- Assumes nothing.
use Rattle.std.specs.Prelude.{◌≡◌, cond, List, ◌++◌, ℕ, ◌+◌, ◌*◌, ◌≤◌, ◌<◌, ltb, length, take}
use Rattle.laws.specs.Lists.{tab}
use Rattle.rate_matching.specs.Circle.{circle_length}
use Rattle.rate_matching.specs.Walk.{turn_after_turn}
use Rattle.bit_selection.specs.Matcher.{sent_of}

-- a ring of `long` places is long enough for units that need no more than `need`: all of them fit, or each that begins before place `most`, as none
-- has more than 2·R places
pub record Holds (R most need long : ℕ) : Type 0 where
  pub fits : long < most + 2 * R → need ≤ long

-- the places of a ring that is long enough for E bits: at most those of the circle
unfoldable pub ring_length : ℕ → ℕ → ℕ
ring_length R E = cond (ltb (E + 2 * R) (circle_length R)) (E + 2 * R) (circle_length R)

-- the bits stand in the ring from place n to place r, before them what stood there
pub record Put (bits ring : List ℕ) (n : ℕ) (ring' : List ℕ) (r : ℕ) : Type 0 where
  pub ends : r ≡ n + length bits
  pub told : take r ring' ≡ take n ring ++ bits

-- the bits, of which there are at most `size`, stand there as far as the first `most` entries of the ring go
pub record PutTo (most : ℕ) (bits : List ℕ) (size : ℕ) (ring : List ℕ) (n : ℕ) (ring' : List ℕ) (r : ℕ) : Type 0 where
  pub within : r ≤ n + size
  pub inside : r ≤ length ring'
  pub told : take most (take r ring') ≡ take most (take n ring ++ bits)

-- the first r entries of a ring, of which there is one at least, give turn after turn the first E that are sent
pub record TurnIn (d0 d1 d2 : List ℕ) (F Ncb v E : ℕ) (ring : List ℕ) (r : ℕ) : Type 0 where
  pub some : 0 < r
  pub inside : r ≤ length ring
  pub told : tab E (turn_after_turn (take r ring)) ≡ sent_of d0 d1 d2 F Ncb v E
