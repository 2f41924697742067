-- CRC attachment of clause 5.3.3.2: the payload, then its 16 parity bits (clause 5.1.1) mixed with the terminal number, no antenna selection mask.
-- Assumes nothing.
use Rattle.std.specs.Prelude.{List, [], ◌∷◌, ◌++◌, ℕ, ◌+◌, ◌%◌}
use Rattle.laws.specs.Bits.{bits_of}
use Rattle.check_bits.specs.CheckBits.{g_crc16, check_bits}

-- x_rnti,0 .. x_rnti,15: the terminal number, x_rnti,0 its highest bit
unfoldable pub terminal_bits : ℕ → List ℕ
terminal_bits t = bits_of 16 t

-- (b_k + x_k) mod 2, bit by bit
unfoldable pub mixed : List ℕ → List ℕ → List ℕ
mixed [] xs = []
mixed (b ∷ bs) [] = []
mixed (b ∷ bs) (x ∷ xs) = (b + x) % 2 ∷ mixed bs xs

-- c_0 .. c_(A + 15): the payload as it is, then its parity bits mixed with the terminal number
unfoldable pub attached : List ℕ → ℕ → List ℕ
attached a t = a ++ mixed (check_bits 16 g_crc16 a) (terminal_bits t)
