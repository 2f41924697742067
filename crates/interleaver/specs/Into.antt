-- What interleaving leaves in a lent list: the bits c' of clause 5.1.3.2.3, or the list as it was.
-- Assumes nothing.
use Rattle.std.specs.Prelude.{Bool, cond, ◌&&◌, List, ◌≡◌, ℕ, ◌≤◌, ◌<◌, eqb, ltb, length, get_or}
use Rattle.laws.specs.Lists.{tab}
use Rattle.interleaver.specs.Table.{row_count, size_at}
use Rattle.interleaver.specs.Place.{quadratic, interleaved}

-- the row is one of the table's, and both lists have its K entries
unfoldable pub fits_row : ℕ → List ℕ → List ℕ → Bool
fits_row row c out = ltb row row_count && (eqb (length c) (size_at row) && eqb (length out) (size_at row))

-- out, with the interleaved bits of c over it where all fits
unfoldable pub interleaved_into : ℕ → List ℕ → List ℕ → List ℕ
interleaved_into row c out = cond (fits_row row c out) (interleaved row c) out

-- the bit that K, f1 and f2 put at place i, and all K of them
unfoldable pub bit_by : ℕ → ℕ → ℕ → List ℕ → ℕ → ℕ
bit_by K f1 f2 c i = get_or c (quadratic K f1 f2 i) 0

unfoldable pub bits_by : ℕ → ℕ → ℕ → List ℕ → List ℕ
bits_by K f1 f2 c = tab K (bit_by K f1 f2 c)

-- what the walk by counters leans on
pub record Walkable (K f1 f2 : ℕ) (c out : List ℕ) : Type 0 where
  pub f1_below : f1 < K
  pub f2_below : f2 < K
  pub most : K ≤ 6144
  pub long : length c ≡ K
  pub room : length out ≡ K
