-- The codeword of a transport block: each code block turbo coded and rate matched, one after the other (clause 5.1.5).
-- Assumes nothing.
use Rattle.std.specs.Prelude.{List, [], ◌++◌, ℕ, zero, suc, ◌+◌, length, take}
use Rattle.segmentation.specs.Segmentation.{blocks, size_of, row_of, filler_of}
use Rattle.segmentation.specs.CodeBlocks.{with_check, code_block}
use Rattle.turbo.specs.Streams.{stream0, stream1, stream2}
use Rattle.rate_matching.specs.SubBlocks.{rows}
use Rattle.rate_matching.specs.Circle.{circle, cut_at, start_in}
use Rattle.rate_matching.specs.SoftBuffer.{whole_share}
use Rattle.rate_matching.specs.Walk.{selected}
use Rattle.codeword.specs.declared.Grant.{Grant}
use Rattle.codeword.specs.Shares.{granted}

-- w of code block r of the sequence b
unfoldable pub block_circle : List ℕ → ℕ → List ℕ
block_circle b r =
    circle
    (stream0 (row_of (length b) r) (filler_of (length b) r) (code_block b r))
    (stream1 (row_of (length b) r) (filler_of (length b) r) (code_block b r))
    (stream2 (row_of (length b) r) (code_block b r))

-- R of code block r of a sequence of B bits: D = K + 4
unfoldable pub block_rows : ℕ → ℕ → ℕ
block_rows B r = rows (size_of B r + 4)

-- N_cb of code block r, each code block having a share `soft` of the soft buffer
unfoldable pub block_cut : ℕ → ℕ → ℕ → ℕ
block_cut soft B r = cut_at soft (block_rows B r)

-- the first E bits that code block r sends in redundancy version v
unfoldable pub sent_bits : ℕ → List ℕ → ℕ → ℕ → ℕ → List ℕ
sent_bits soft b v r E =
    selected (take (block_cut soft (length b) r) (block_circle b r)) (start_in (block_cut soft (length b) r) (block_rows (length b) r) v) E

-- e_r0 .. e_r(E_r − 1): what code block r sends of a grant's G bits
unfoldable pub block_bits : ℕ → List ℕ → Grant → ℕ → List ℕ
block_bits soft b g r = sent_bits soft b g.version r (granted (blocks (length b)) g r)

-- the bits of n code blocks from r on, in order (clause 5.1.5)
unfoldable pub bits_from : ℕ → List ℕ → Grant → ℕ → ℕ → List ℕ
bits_from soft b g r zero = []
bits_from soft b g r (suc n) = block_bits soft b g r ++ bits_from soft b g (suc r) n

-- the codeword of the transport block a for a grant, each code block having a share `soft` of the soft buffer
unfoldable pub codeword_in : ℕ → List ℕ → Grant → List ℕ
codeword_in soft a g = bits_from soft (with_check a) g 0 (blocks (length a + 24))

-- the codeword of an uplink's transport block: no circle is cut
unfoldable pub codeword : List ℕ → Grant → List ℕ
codeword a g = codeword_in whole_share a g
