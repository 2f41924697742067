-- Bits put at places as they come, 01 'Receive', and what the parts of a turn may take for granted of a code block and of the list that has its circle.
-- Assumes nothing.
use Rattle.std.specs.Prelude.{◌≡◌, List, ℕ, ◌+◌, ◌*◌, ◌%◌, ◌≤◌, ◌<◌, min, length}
use Rattle.rate_matching.specs.SubBlocks.{rows}
use Rattle.rate_matching.specs.Circle.{circle_length, Cut, cut_at}
use Rattle.rate_matching.specs.Places.{longest}
use Rattle.bit_placement.specs.Placement.{put_first}

-- bits are put at the first of some places, n of them
pub record Put (places bits list list' : List ℕ) (n : ℕ) : Type 0 where
  pub told : list' ≡ put_first places bits list
  pub ends : n ≡ min (length places) (length bits)

-- place k of every second one from a place on
unfoldable pub every_second : ℕ → ℕ → ℕ
every_second from k = from + 2 * k

-- streams of D = K + 4 places, K a multiple of 8 from 40 on, F of them filler
pub record Sized (D F : ℕ) : Type 0 where
  pub least : 44 ≤ D
  pub most : D ≤ longest
  pub some : D % 8 ≡ 4
  pub filler : F < D

-- the same, and a list of `long` entries that has the circle's places
pub record Walked (D F long : ℕ) : Type 0 where
  pub least : 44 ≤ D
  pub most : D ≤ longest
  pub some : D % 8 ≡ 4
  pub filler : F < D
  pub fits : circle_length (rows D) ≤ long

-- and version v of them can be sent where each code block has a share `soft` of the soft buffer
pub record Sends (D F soft v long : ℕ) : Type 0 where
  pub walked : Walked D F long
  pub cut : Cut (cut_at soft (rows D)) (rows D)
  pub version : v ≤ 3
