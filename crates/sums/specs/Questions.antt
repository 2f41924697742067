-- What 01's small sums ask, and what the definitions of the clauses answer.
-- Assumes nothing.
use Rattle.std.specs.Prelude.{List, [], ◌∷◌, ◌++◌, map, ℕ, ◌+◌, replicate}
use Rattle.laws.specs.Lists.{tab}
use Rattle.check_bits.specs.CheckBits.{crc, g_crc24a}
use Rattle.interleaver.specs.Table.{row_count}
use Rattle.interleaver.specs.Place.{second_place}
use Rattle.segmentation.specs.Segmentation.{blocks, size_of, filler, first_row}
use Rattle.segmentation.specs.CodeBlocks.{with_check}
use Rattle.turbo.specs.Encoder.{start, parities}
use Rattle.rate_matching.specs.Circle.{start_of}
use Rattle.rate_matching.specs.Walk.{sent_places}
use Rattle.rate_matching.specs.Places.{Held, Bit, Dummy, held_at}
use Rattle.codeword.specs.Codeword.{block_circle, block_rows}

pub data Question : Type 0 where
  -- the sizes of the code blocks of a block of A bits, in their order, and then F
  code_blocks : ℕ → Question
  -- the places that the second encoder reads, for K and some i
  second_encoder_places : ℕ → List ℕ → Question
  -- the remainder of CRC24A
  transport_check : List ℕ → Question
  -- what the first encoder puts out for input bits
  first_encoder : List ℕ → Question
  -- the stream and the place of each of the G bits that a block of A bits in one code block sends in a version
  sent : ℕ → ℕ → ℕ → Question

-- a stream place as two numbers
unfoldable pub as_numbers : Held → List ℕ
as_numbers (Bit p) = p.0 ∷ p.1 ∷ []
as_numbers Dummy = []

unfoldable pub stream_places : ℕ → List ℕ → List ℕ
stream_places D [] = []
stream_places D (j ∷ js) = as_numbers (held_at D (record { 0 = j })) ++ stream_places D js

-- b of the block of A zeros: which places are sent is the same for every block
unfoldable pub zeros : ℕ → List ℕ
zeros A = with_check (replicate {A = ℕ} A 0)

unfoldable pub answer : Question → List ℕ
answer (code_blocks A) = tab (blocks (A + 24)) (size_of (A + 24)) ++ (filler (A + 24) ∷ [])
answer (second_encoder_places K is) = map (second_place (first_row 1 K 0 row_count)) is
answer (transport_check a) = crc 24 g_crc24a a ∷ []
answer (first_encoder c) = parities start c
answer (sent A v G) =
    stream_places (size_of (A + 24) 0 + 4)
    (sent_places (block_circle (zeros A) 0) (start_of (block_rows (A + 24) 0) v) G)
