-- Where check bits are put, clause 5.1.1: over the first L places of a list that has them.
-- Assumes nothing.
use Rattle.std.specs.Prelude.{cond, List, ◌++◌, ℕ, ltb, length, drop}
use Rattle.laws.specs.Bits.{bits_of}

-- out with the L bits of r over its first L places; a shorter list stays as it is
abbrev pub put_bits : ℕ → ℕ → List ℕ → List ℕ
put_bits L r out = cond (ltb (length out) L) out (bits_of L r ++ drop L out)

-- the same for a check of 24 bits
unfoldable pub put_check_bits : ℕ → List ℕ → List ℕ
put_check_bits r out = put_bits 24 r out

-- and for one of 16
unfoldable pub put_check_bits16 : ℕ → List ℕ → List ℕ
put_check_bits16 r out = put_bits 16 r out
