-- The call Sizes of 01: for a block of A bits the six numbers of its segmentation, or refusal 1.
-- Assumes nothing.
use Rattle.std.specs.Prelude.{Bool, cond, ◌||◌, List, [], ◌∷◌, Result, Ok, Err, ℕ, ◌+◌, eqb, ltb}
use Rattle.segmentation.specs.declared.Segments.{Segments}
use Rattle.segmentation.specs.declared.Sizes.{Sizes}
use Rattle.refusals.specs.declared.Refusal.{Refusal}
use Rattle.refusals.specs.declared.Refusal.TheVariants.{BadLength}
use Rattle.refusals.specs.Refusals.{number_in}
use Rattle.segmentation.specs.Segmentation.{blocks, longs, long, shorts, short, filler, long_row}

-- A outside its range, 1 to 30,576
unfoldable pub bad_size : ℕ → Bool
bad_size A = eqb A 0 || ltb 30576 A

-- the segmentation of a sequence of B bits, with the row of its long size
unfoldable pub segments_of : ℕ → Segments
segments_of B =
    record { blocks = blocks B; longs = longs B; long = long B; shorts = shorts B; short = short B; filler = filler B; row = long_row B }

-- nothing: what stands for the segmentation of a block out of range
unfoldable pub no_segments : Segments
no_segments = record { blocks = 0; longs = 0; long = 0; shorts = 0; short = 0; filler = 0; row = 0 }

-- the segmentation of a block of A bits: B = A + 24
unfoldable pub segments_for : ℕ → Segments
segments_for A = cond (bad_size A) no_segments (segments_of (A + 24))

-- C, C+, K+, C−, K− and F of a block of A bits: B = A + 24
unfoldable pub sizes_of : ℕ → Sizes
sizes_of A =
    record {
      blocks = blocks (A + 24);
      longs = longs (A + 24);
      long = long (A + 24);
      shorts = shorts (A + 24);
      short = short (A + 24);
      filler = filler (A + 24);
    }

-- what Sizes answers: the sizes, or refusal 1
unfoldable pub sizes_answer : ℕ → Result Sizes Refusal
sizes_answer A = cond (bad_size A) (Err BadLength) (Ok (sizes_of A))

-- 01's number of an answer: 0 where the call is accepted
unfoldable pub number_of : Result Sizes Refusal → ℕ
number_of answer = number_in answer

-- the values of an answer, in 01's order: C, long blocks, long size, short blocks, short size, filler
unfoldable pub values_of : Result Sizes Refusal → List ℕ
values_of (Ok s) = s.blocks ∷ s.longs ∷ s.long ∷ s.shorts ∷ s.short ∷ s.filler ∷ []
values_of (Err refusal) = []
