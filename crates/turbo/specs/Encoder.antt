-- The 8-state constituent encoder of clause 5.1.3.2.1, G(D) = [1, g1(D) / g0(D)] with g0 = 1 + D² + D³ and g1 = 1 + D + D³, and its tail of clause 5.1.3.2.2.
-- Assumes nothing.
use Rattle.std.specs.Prelude.{List, [], ◌∷◌, ℕ, zero, suc}
use Rattle.laws.specs.Bits.{◌⊕◌}
use Rattle.turbo.specs.declared.Registers.{Registers}

-- the registers at the start: all zeros
unfoldable pub start : Registers
start = record { d1 = 0; d2 = 0; d3 = 0 }

-- what the register feeds back: D² + D³
unfoldable pub feedback : Registers → ℕ
feedback s = s.d2 ⊕ s.d3

-- what enters the register with the input bit c: g0 = 1 + D² + D³
unfoldable pub entering : Registers → ℕ → ℕ
entering s c = c ⊕ feedback s

-- the output bit z: g1 = 1 + D + D³
unfoldable pub parity : Registers → ℕ → ℕ
parity s c = entering s c ⊕ s.d1 ⊕ s.d3

-- the registers after the input bit c
unfoldable pub next : Registers → ℕ → Registers
next s c = record { d1 = entering s c; d2 = s.d1; d3 = s.d2 }

-- z_0, z_1, .. for the input bits
unfoldable pub parities : Registers → List ℕ → List ℕ
parities s [] = []
parities s (c ∷ cs) = parity s c ∷ parities (next s c) cs

-- the registers after the input bits
unfoldable pub after : Registers → List ℕ → Registers
after s [] = s
after s (c ∷ cs) = after (next s c) cs

-- trellis termination: n more bits, each taken from the feedback (the switch in its lower position)
unfoldable pub tailed : ℕ → Registers → Registers
tailed zero s = s
tailed (suc n) s = tailed n (next s (feedback s))

-- x_K+n, from the registers after the K input bits
unfoldable pub x_tail : ℕ → Registers → ℕ
x_tail n s = feedback (tailed n s)

-- z_K+n, from the registers after the K input bits
unfoldable pub z_tail : ℕ → Registers → ℕ
z_tail n s = parity (tailed n s) (feedback (tailed n s))
