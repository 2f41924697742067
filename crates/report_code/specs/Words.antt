-- Lists of bits as numbers, the first bit lowest: the messages of O bits by their numbers, the rows of the basis and the coded blocks as words.
-- Assumes nothing.
use Rattle.std.specs.Prelude.{List, [], ◌∷◌, map, ℕ, zero, suc, ◌+◌, ◌*◌, ◌/◌, ◌%◌}
use Rattle.report_code.specs.Basis.{basis}
use Rattle.report_code.specs.Code.{block}

-- Σ x_n·2^n
unfoldable pub number_of : List ℕ → ℕ
number_of [] = 0
number_of (x ∷ xs) = x + 2 * number_of xs

-- the O lowest bits of m, the lowest first: message number m of O bits
unfoldable pub message_bits : ℕ → ℕ → List ℕ
message_bits zero m = []
message_bits (suc O) m = (m % 2) ∷ message_bits O (m / 2)

-- the rows of the basis as masks
unfoldable pub row_masks : List ℕ
row_masks = map number_of basis

-- the coded block of message number m, of at most 11 bits, as a word: b_0 is its lowest bit
unfoldable pub word_of : ℕ → ℕ
word_of m = number_of (block (message_bits 11 m))
