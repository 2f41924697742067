-- What building a code block of clause 5.1.2 leaves in a lent list: the code block, or the list as it was.
-- Assumes nothing.
use Rattle.std.specs.Prelude.{Bool, cond, not, ◌&&◌, List, ◌++◌, ◌≡◌, ℕ, ◌+◌, ◌-◌, ◌≤◌, ◌<◌, eqb, ltb, length, drop, replicate}
use Rattle.laws.specs.Bits.{bits_of}
use Rattle.segmentation.specs.declared.Segments.{Segments}
use Rattle.segmentation.specs.Segmentation.{check_length, blocks, filler, size_of}
use Rattle.segmentation.specs.CodeBlocks.{taken_before, code_block}
use Rattle.segmentation.specs.Sizes.{bad_size, segments_of}

-- A is in range, r is one of its code blocks, and a list of n entries has the size of that
unfoldable pub fits_block : ℕ → ℕ → ℕ → Bool
fits_block A r n = not (bad_size A) && (ltb r (blocks (A + 24)) && eqb n (size_of (A + 24) r))

-- c, with code block r of the block a and its transport check over it where all fits
unfoldable pub code_block_into : List ℕ → ℕ → ℕ → List ℕ → List ℕ
code_block_into a remainder r c = cond (fits_block (length a) r (length c)) (code_block (a ++ bits_of 24 remainder) r) c

-- where code block r's part of B bits begins, filler left out
unfoldable pub start_of : ℕ → ℕ → ℕ
start_of B r = taken_before B r - filler B

-- c with zeros and a part after them over its front
abbrev pub filled_with : ℕ → List ℕ → List ℕ → List ℕ
filled_with zeros part c = replicate {A = ℕ} zeros 0 ++ (part ++ drop (zeros + length part) c)

-- s is the segmentation of a block of A bits, A in range, and r is one of its code blocks
pub record Segmented (A : ℕ) (s : Segments) (r : ℕ) : Type 0 where
  pub least : 1 ≤ A
  pub most : A ≤ 30576
  pub told : s ≡ segments_of (A + 24)
  pub below : r < blocks (A + 24)

-- the same of the length of a, and c has room for the payload of r and no more
pub record Room (a : List ℕ) (s : Segments) (r : ℕ) (c : List ℕ) : Type 0 where
  pub segmented : Segmented (length a) s r
  pub room : length c ≡ size_of (length a + 24) r - check_length (length a + 24)
