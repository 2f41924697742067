-- The tail biting convolutional code of clause 5.1.3.1: constraint length 7, rate 1/3, the register started with the last six bits.
-- Assumes nothing.
use Rattle.std.specs.Prelude.{List, [], ◌∷◌, ℕ, ◌+◌, ◌-◌, ◌*◌, length, get_or, take}
use Rattle.laws.specs.Bits.{◌⊕◌, bits_of}
use Rattle.laws.specs.Lists.{tab}

-- a number of three octal digits
abbrev pub octal : ℕ → ℕ → ℕ → ℕ
octal a b c = a * 64 + b * 8 + c

-- the generators of figure 5.1.3-1, G0 = 133, G1 = 171, G2 = 165 (octal): the newest bit's tap first
unfoldable pub generator0 : List ℕ
generator0 = bits_of 7 (octal 1 3 3)

unfoldable pub generator1 : List ℕ
generator1 = bits_of 7 (octal 1 7 1)

unfoldable pub generator2 : List ℕ
generator2 = bits_of 7 (octal 1 6 5)

-- the sum of the bits where a generator has a tap
unfoldable pub tapped : List ℕ → List ℕ → ℕ
tapped [] xs = 0
tapped (g ∷ gs) [] = 0
tapped (g ∷ gs) (x ∷ xs) = g * x ⊕ tapped gs xs

-- c_(K − 1 − i)
unfoldable pub from_the_end : List ℕ → ℕ → ℕ
from_the_end c i = get_or c (length c - 1 - i) 0

-- the register s_0 .. s_5 at the start: s_i = c_(K − 1 − i)
unfoldable pub initial : List ℕ → List ℕ
initial c = tab 6 (from_the_end c)

-- the register after one more bit: it comes in as s_0, and s_5 goes
unfoldable pub shifted_in : ℕ → List ℕ → List ℕ
shifted_in x s = x ∷ take 5 s

-- what an encoder with the generator g and the register s gives out, bit by bit
unfoldable pub encoded : List ℕ → List ℕ → List ℕ → List ℕ
encoded g s [] = []
encoded g s (x ∷ xs) = tapped g (x ∷ s) ∷ encoded g (shifted_in x s) xs

-- the register after all bits
unfoldable pub register_after : List ℕ → List ℕ → List ℕ
register_after s [] = s
register_after s (x ∷ xs) = register_after (shifted_in x s) xs

-- d(i) of the bits c, for the generator of parity stream i
unfoldable pub parity_stream : List ℕ → List ℕ → List ℕ
parity_stream g c = encoded g (initial c) c
