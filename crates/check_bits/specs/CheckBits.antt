-- Check bits of clause 5.1.1 as they are worked out: a register of L bits, one step a data bit.
-- Assumes nothing.
use Rattle.std.specs.Prelude.{List, [], ◌∷◌, ℕ, ◌*◌, ◌/◌, ◌%◌, ◌-◌, ◌^◌}
use Rattle.laws.specs.Bits.{◌⊕◌, bits_of}

-- the generators g_crc24a and g_crc24b, highest power first, the top term D^24 left off
abbrev pub g_crc24a : ℕ
g_crc24a = 0x864CFB

abbrev pub g_crc24b : ℕ
g_crc24b = 0x800063

-- g_crc16, the top term D^16 left off
abbrev pub g_crc16 : ℕ
g_crc16 = 0x1021

-- one data bit b into the register s: times D, and the generator taken away where the power L comes up
unfoldable pub crc_step : ℕ → ℕ → ℕ → ℕ → ℕ
crc_step L g s b = (s * 2 ⊕ (s / 2 ^ (L - 1) ⊕ b) * g) % 2 ^ L

-- the register after the data bits, from an earlier remainder s
unfoldable pub crc_from : ℕ → ℕ → ℕ → List ℕ → ℕ
crc_from L g s [] = s
crc_from L g s (b ∷ bs) = crc_from L g (crc_step L g s b) bs

-- the remainder of the data bits: the register starts from zero
unfoldable pub crc : ℕ → ℕ → List ℕ → ℕ
crc L g bs = crc_from L g 0 bs

-- the check bits p0 .. pL-1 of the data bits, highest power first
unfoldable pub check_bits : ℕ → ℕ → List ℕ → List ℕ
check_bits L g bs = bits_of L (crc L g bs)
