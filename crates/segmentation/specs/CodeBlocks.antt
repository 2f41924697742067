-- Code block segmentation, clause 5.1.2, second part: the bits of each code block, filler counted as 0.
-- Assumes nothing.
use Rattle.std.specs.Prelude.{cond, List, [], ◌++◌, ℕ, zero, suc, ◌+◌, ◌-◌, eqb, length, take, drop, replicate}
use Rattle.check_bits.specs.CheckBits.{check_bits, g_crc24a, g_crc24b}
use Rattle.segmentation.specs.Segmentation.{check_length, blocks, filler, size_of}

-- b: the transport block a with its transport check, CRC24A (clauses 5.1.1 and 5.2.2.1)
unfoldable pub with_check : List ℕ → List ℕ
with_check a = a ++ check_bits 24 g_crc24a a

-- how many bits of the sequence the code blocks before r have taken: K_i − L each
unfoldable pub taken_before : ℕ → ℕ → ℕ
taken_before B zero = 0
taken_before B (suc r) = taken_before B r + (size_of B r - check_length B)

-- c_r0 .. c_r(K_r − L − 1): the next bits of the filler, as zeros, followed by b
unfoldable pub payload : List ℕ → ℕ → List ℕ
payload b r =
    take (size_of (length b) r - check_length (length b))
    (drop (taken_before (length b) r) (replicate {A = ℕ} (filler (length b)) 0 ++ b))

-- the payloads of the code blocks before r, one after the other
unfoldable pub payloads_before : List ℕ → ℕ → List ℕ
payloads_before b zero = []
payloads_before b (suc r) = payloads_before b r ++ payload b r

-- c_r0 .. c_r(K_r − 1): with CRC24B where C > 1
unfoldable pub code_block : List ℕ → ℕ → List ℕ
code_block b r = payload b r ++ cond (eqb (blocks (length b)) 1) [] (check_bits 24 g_crc24b (payload b r))
