-- The bits of a unit of the circle, clauses 5.1.4.1.1 and 5.1.4.1.2, as they stand in the streams: every 32nd of a stream, or of two by turns.
-- Assumes nothing.
use Rattle.std.specs.Prelude.{◌≡◌, cond, List, [], ◌++◌, ℕ, zero, suc, ◌+◌, ◌*◌, ◌/◌, ◌%◌, ◌≤◌, eqb, get_or}
use Rattle.laws.specs.Lists.{tab}
use Rattle.rate_matching.specs.declared.Unit.{Unit}
use Rattle.rate_matching.specs.Units.{unit_at, alone_count, both_count, Lies}

-- row q of a column that begins at a place
unfoldable pub every_row : List ℕ → ℕ → ℕ → ℕ
every_row d from q = get_or d (from + 32 * q) 0

-- entry k of d(1)'s column that begins at a place and d(2)'s that begins one further, by turns
unfoldable pub pair_row : List ℕ → List ℕ → ℕ → ℕ → ℕ
pair_row d1 d2 from k = cond (eqb (k % 2) 0) (every_row d1 from (k / 2)) (every_row d2 (from + 1) (k / 2))

-- the bits of a column of d(0), and those of a column of d(1) and d(2): of d(2) alone, and then of both by turns
abbrev pub column_bits : List ℕ → Unit → List ℕ
column_bits d0 U = tab (both_count U) (every_row d0 U.first.1)

abbrev pub pair_bits : List ℕ → List ℕ → Unit → List ℕ
pair_bits d1 d2 U = tab (alone_count U) (every_row d2 U.early.1) ++ tab (both_count U) (pair_row d1 d2 U.first.1)

-- the bits of a unit
unfoldable pub bits_of : List ℕ → List ℕ → List ℕ → Unit → List ℕ
bits_of d0 d1 d2 U = cond (eqb U.first.0 0) (column_bits d0 U) (pair_bits d1 d2 U)

-- the bits of unit u of streams of D places with F filler bits
unfoldable pub unit_bits : ℕ → List ℕ → List ℕ → List ℕ → ℕ → ℕ → List ℕ
unit_bits D d0 d1 d2 F u = bits_of d0 d1 d2 (unit_at D F u)

-- the bits of n units from u on
unfoldable pub units_from : ℕ → List ℕ → List ℕ → List ℕ → ℕ → ℕ → ℕ → List ℕ
units_from D d0 d1 d2 F u zero = []
units_from D d0 d1 d2 F u (suc n) = unit_bits D d0 d1 d2 F u ++ units_from D d0 d1 d2 F (suc u) n

-- the places of a unit lie in order, and what it reads lies in streams of D places, row by row
pub record Reads (D : ℕ) (U : Unit) : Type 0 where
  pub lies : Lies U
  pub column : U.first.0 ≡ 0 → U.first.1 + 32 * both_count U ≤ D + 31
  pub alone : (U.first.0 ≡ 0 → ⊥) → U.early.1 + 32 * alone_count U ≤ D + 31
  pub first : (U.first.0 ≡ 0 → ⊥) → U.first.1 + 32 * ((both_count U + 1) / 2) ≤ D + 31
  pub second : (U.first.0 ≡ 0 → ⊥) → U.first.1 + 32 * (both_count U / 2) ≤ D + 30
