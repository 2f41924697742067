-- The literal meaning of check bits, clause 5.1.1: the polynomial of data and check bits leaves remainder 0 when divided by the generator.
-- A polynomial over GF(2) is the list of its coefficients, highest power first.
-- Assumes nothing.
use Rattle.std.specs.Prelude.{◌≡◌, List, [], ◌∷◌, ◌++◌, ℕ, zero, suc, ◌+◌, ◌*◌, ◌^◌, length, replicate}
use Rattle.laws.specs.Bits.{◌⊕◌}

-- p with a times g taken away from its highest powers (in GF(2) to take away is to add)
unfoldable pub take_away : ℕ → List ℕ → List ℕ → List ℕ
take_away a [] p = p
take_away a (x ∷ g) [] = []
take_away a (x ∷ g) (y ∷ p) = (y ⊕ a * x) ∷ take_away a g p

-- n steps of long division by the polynomial 1, g: the highest term goes, with as much of the divisor
unfoldable pub divide : ℕ → List ℕ → List ℕ → List ℕ
divide zero g p = p
divide (suc n) g [] = []
divide (suc n) g (a ∷ p) = divide n g (take_away a g p)

-- data and check bits together leave remainder 0: as many steps as there are data bits leave as many coefficients as g has
abbrev pub LeavesNothing : List ℕ → List ℕ → List ℕ → Type 0
LeavesNothing g a p = divide (length a) g (a ++ p) ≡ replicate (length g) 0

-- the powers of D in gCRC24A(D) and gCRC24B(D) as the clause lists them, the top term D^24 left off
abbrev pub powers_crc24a : List ℕ
powers_crc24a = 23 ∷ 18 ∷ 17 ∷ 14 ∷ 11 ∷ 10 ∷ 7 ∷ 6 ∷ 5 ∷ 4 ∷ 3 ∷ 1 ∷ 0 ∷ []

abbrev pub powers_crc24b : List ℕ
powers_crc24b = 23 ∷ 6 ∷ 5 ∷ 1 ∷ 0 ∷ []

-- those of gCRC16(D), its top term D^16 left off
abbrev pub powers_crc16 : List ℕ
powers_crc16 = 12 ∷ 5 ∷ 0 ∷ []

-- the coefficients of a polynomial as the bits of a number: a one for each power that it lists
unfoldable pub of_powers : List ℕ → ℕ
of_powers [] = 0
of_powers (k ∷ ks) = 2 ^ k + of_powers ks
