-- The constituent encoder's transfer function in the words of clause 5.1.3.2.1, G(D) = [1, g1(D) / g0(D)]: sequences of bits as series in D, added modulo 2.
-- Assumes nothing.
use Rattle.std.specs.Prelude.{cond, List, ℕ, ◌-◌, leb, get_or}
use Rattle.laws.specs.Bits.{◌⊕◌}

-- D^n times a series, its coefficient k: that of the series n places before, and 0 where there is none
unfoldable pub delayed : ℕ → List ℕ → ℕ → ℕ
delayed n l k = cond (leb n k) (get_or l (k - n) 0) 0

-- coefficient k of g0(D) = 1 + D² + D³ times a series
unfoldable pub times_g0 : List ℕ → ℕ → ℕ
times_g0 l k = delayed 0 l k ⊕ delayed 2 l k ⊕ delayed 3 l k

-- coefficient k of g1(D) = 1 + D + D³ times a series
unfoldable pub times_g1 : List ℕ → ℕ → ℕ
times_g1 l k = delayed 0 l k ⊕ delayed 1 l k ⊕ delayed 3 l k
