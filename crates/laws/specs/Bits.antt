-- Bits as numbers: exclusive or, the bits of a number, highest first, and lists of bits.
-- Assumes nothing.
use Rattle.std.specs.Prelude.{List, [], ◌∷◌, ℕ, zero, suc, ◌/◌, ◌%◌, ◌^◌, ◌<◌, get_or}
use Rattle.std.specs.Int.Bits.{bit_xor}

infixl 65 ◌⊕◌
-- exclusive or of two bits, or of two numbers bit by bit
abbrev pub ◌⊕◌ : ℕ → ℕ → ℕ
a ⊕ b = bit_xor a b

-- the lowest n bits of x, highest first
unfoldable pub bits_of : ℕ → ℕ → List ℕ
bits_of zero x = []
bits_of (suc n) x = x / 2 ^ n % 2 ∷ bits_of n x

-- each entry is below m
abbrev pub EachBelow : ℕ → List ℕ → Type 0
EachBelow m l = (i : ℕ) → get_or l i 0 < m

-- each entry is 0 or 1
abbrev pub AreBits : List ℕ → Type 0
AreBits l = EachBelow 2 l
