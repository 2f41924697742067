-- What a call of the encoder asks of its arguments and what its parts leave in a stream, for the streams of clause 5.1.3.2.
-- Assumes nothing.
use Rattle.std.specs.Prelude.{Bool, ◌&&◌, List, [], ◌∷◌, ◌++◌, ◌≡◌, ℕ, ◌+◌, ◌-◌, ◌≤◌, ◌<◌, eqb, ltb, leb, length, take}
use Rattle.interleaver.specs.Table.{row_count, size_at}
use Rattle.turbo.specs.declared.Registers.{Registers}
use Rattle.turbo.specs.declared.Tail.{Tail}
use Rattle.turbo.specs.Encoder.{x_tail, z_tail}
use Rattle.turbo.specs.Streams.{without_filler}

-- the code block that stands at the front of stream 0's room, which has four places more for the tail
unfoldable pub block_in : List ℕ → List ℕ
block_in d0 = take (length d0 - 4) d0

-- the row has a size K, F filler bits are within it, and the three streams have D = K + 4 places
unfoldable pub encodable : ℕ → ℕ → ℕ → ℕ → ℕ → Bool
encodable row F D0 D1 D2 =
    ltb row row_count && (leb F (size_at row) && eqb D0 (size_at row + 4) && eqb D1 (size_at row + 4) && eqb D2 (size_at row + 4))

-- the same as facts
pub record Encodable (row F D0 D1 D2 : ℕ) : Type 0 where
  pub below : row < row_count
  pub filler : F ≤ size_at row
  pub long0 : D0 ≡ size_at row + 4
  pub long1 : D1 ≡ size_at row + 4
  pub long2 : D2 ≡ size_at row + 4

-- the same of the lists that are lent to a call
abbrev pub fit : ℕ → ℕ → List ℕ → List ℕ → List ℕ → Bool
fit row F d0 d1 d2 = encodable row F (length d0) (length d1) (length d2)

-- the six tail bits of an encoder, from the registers after the K input bits
unfoldable pub tail_of : Registers → Tail
tail_of s = record { x = x_tail 0 s ∷ x_tail 1 s ∷ x_tail 2 s ∷ []; z = z_tail 0 s ∷ z_tail 1 s ∷ z_tail 2 s ∷ [] }

-- a stream d that is complete but for its filler places and its last four places
unfoldable pub completed : ℕ → List ℕ → List ℕ → List ℕ
completed F d tail = without_filler F (take (length d - 4) d) ++ tail
