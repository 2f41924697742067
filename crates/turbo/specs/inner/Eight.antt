-- Bytes side by side in one number, the first lowest, as the encoders of clause 5.1.3.2.1 take eight of them at a time, and the register in the same way.
-- Assumes nothing.
use Rattle.std.specs.Prelude.{List, [], ◌∷◌, ◌++◌, ℕ, zero, suc, min, ◌*◌, ◌/◌, ◌%◌, ◌^◌, length, take, drop}
use Rattle.laws.specs.Bits.{◌⊕◌}
use Rattle.turbo.specs.declared.Registers.{Registers}
use Rattle.turbo.specs.Encoder.{start, parities, after}

-- the n lowest bytes of a number
unfoldable pub bytes_of : ℕ → ℕ → List ℕ
bytes_of zero w = []
bytes_of (suc n) w = w % 2 ^ 8 ∷ bytes_of n (w / 2 ^ 8)

-- the registers whose bytes stand in a number, the oldest lowest
unfoldable pub registers_of : ℕ → Registers
registers_of w = record { d1 = w / 2 ^ 16 % 2 ^ 8; d2 = w / 2 ^ 8 % 2 ^ 8; d3 = w % 2 ^ 8 }

-- `w << k` in 64 bits: the bytes of w, k / 8 steps later
unfoldable pub shl : ℕ → ℕ → ℕ
shl k w = w * 2 ^ k % 2 ^ 64

-- w times a polynomial of three terms, as g0 = 1 + D² + D³ is with p = 16 and q = 24
unfoldable pub times : ℕ → ℕ → ℕ → ℕ
times p q w = w ⊕ shl p w ⊕ shl q w

-- the places that both of two lengths have in whole eights
unfoldable pub eights : ℕ → ℕ → ℕ
eights m n = min m n / 8 * 8

-- the same of two lists
abbrev pub reach : List ℕ → List ℕ → ℕ
reach d e = eights (length d) (length e)

-- the first n input bytes replaced by an encoder's output bytes
abbrev pub encoded_front : ℕ → List ℕ → List ℕ
encoded_front n d = parities start (take n d) ++ drop n d

-- the registers after them
abbrev pub front_end : ℕ → List ℕ → Registers
front_end n d = after start (take n d)
