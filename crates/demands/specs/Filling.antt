-- How the code blocks are filled, in the words of the loop of clause 5.1.2: k counts the places of code block r, s the bits of b.
-- Assumes nothing.
use Rattle.std.specs.Prelude.{cond, List, [], ◌∷◌, ◌++◌, ℕ, zero, suc, ◌+◌, ◌-◌, eqb, length, get_or, replicate}
use Rattle.check_bits.specs.CheckBits.{check_bits, g_crc24b}
use Rattle.segmentation.specs.Segmentation.{check_length, blocks, filler, size_of}

-- n times: c_rk = b_s, k = k + 1, s = s + 1
unfoldable pub copied : List ℕ → ℕ → ℕ → List ℕ
copied b s zero = []
copied b s (suc n) = get_or b s 0 ∷ copied b (suc s) n

-- how often, while k < K_r − L
unfoldable pub times : List ℕ → ℕ → ℕ → ℕ
times b r k = size_of (length b) r - check_length (length b) - k

-- c_r0 .. c_r(K_r − L − 1): k filler bits, counted as 0, then bits of b from s on
unfoldable pub front : List ℕ → ℕ → ℕ → ℕ → List ℕ
front b r k s = replicate {A = ℕ} k 0 ++ copied b s (times b r k)

-- c_r0 .. c_r(K_r − 1): if C > 1 the CRC24B parity bits follow
unfoldable pub filled : List ℕ → ℕ → ℕ → ℕ → List ℕ
filled b r k s = front b r k s ++ cond (eqb (blocks (length b)) 1) [] (check_bits 24 g_crc24b (front b r k s))

-- for r to r + n − 1: the code block, then k = 0
unfoldable pub filled_from : List ℕ → ℕ → ℕ → ℕ → ℕ → List (List ℕ)
filled_from b r k s zero = []
filled_from b r k s (suc n) = filled b r k s ∷ filled_from b (suc r) 0 (s + times b r k) n

-- k = F, s = 0, for r = 0 to C − 1
unfoldable pub filled_blocks : List ℕ → List (List ℕ)
filled_blocks b = filled_from b 0 (filler (length b)) 0 (blocks (length b))
