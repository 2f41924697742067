-- The rule of table 5.1.3-3, tested once over all of its rows: what each row keeps, that the sizes rise, and that each row rearranges.
-- Assumes nothing.
use mathlib.Core.Path.{◌≡◌}
use mathlib.Core.Bool.{Bool, true, false}
use mathlib.Core.List.{List, [], ◌∷◌}
use Prim.Native.Nat.{ℕ, zero, suc, ◌+◌, ◌%◌, ◌^◌, ◌≤◌, ◌<◌}
use native.Mathlib.Nat.{lt_trans}
use native.Mathlib.Numerals.{add-one}
use native.Mathlib.Decide.{dec_lt}
use native.Mathlib.Omega.{arith}
use lib.Dec.{T, eqb, leb, ltb, eqb→eq, leb→le, ltb→lt}
use lib.ListN.{get_or}
use Rattle.laws.specs.inner.Computed.{all_below}
use Rattle.laws.proofs.Computed.{all_below_at}
use Rattle.interleaver.specs.Table.{size_table, f1_table, f2_table, size_at, f1_at, f2_at, row_count}
use Rattle.interleaver.specs.Place.{second_place}
use Rattle.interleaver.specs.Rearrangement.{Rearrangement}
use Rattle.interleaver.proofs.Divides.{gcd}
use Rattle.interleaver.proofs.Quadratic.{quadratic_rearranges}

-- every test of a list passes
all_true : List Bool → Bool
all_true [] = true
all_true (true ∷ bs) = all_true bs
all_true (false ∷ bs) = false

each_true : (bs : List Bool) → T (all_true bs) → (k : ℕ) → T (get_or bs k true)
unfolding all_true
each_true [] h k = tt
each_true (true ∷ bs) h zero = tt
each_true (true ∷ bs) h (suc k) = each_true bs h k
each_true (false ∷ bs) h k = absurd h

-- the size in the row before, and 0 before the first
abbrev pub size_before : ℕ → ℕ
size_before zero = 0
size_before (suc row) = size_at row

-- what every row of the table keeps
pub record Row (row : ℕ) : Type 0 where
  pub rises : size_before row < size_at row
  pub close : size_at row ≤ size_before row + 64
  pub least : 40 ≤ size_at row
  pub most : size_at row ≤ 6144
  pub bytes : size_at row % 8 ≡ 0
  pub f1_below : f1_at row < size_at row
  pub f2_below : f2_at row < size_at row
  pub coprime : gcd 12 (f1_at row) (size_at row) ≡ 1
  pub power : f2_at row ^ 7 % size_at row ≡ 0
  pub f2_even : f2_at row % 2 ≡ 0

-- the same as tests, in the order of the fields
row_tests : (before K f1 f2 : ℕ) → List Bool
row_tests before K f1 f2 =
    ltb before K
    ∷ leb K (before + 64)
    ∷ leb 40 K
    ∷ leb K 6144
    ∷ eqb (K % 8) 0
    ∷ ltb f1 K
    ∷ ltb f2 K
    ∷ eqb (gcd 12 f1 K) 1
    ∷ eqb (f2 ^ 7 % K) 0
    ∷ eqb (f2 % 2) 0
    ∷ []

passes : ℕ → Bool
passes row = all_true (row_tests (size_before row) (size_at row) (f1_at row) (f2_at row))

-- the one test of the whole table
tested : T (all_below passes row_count)
unfolding all_below passes all_true row_tests size_at f1_at f2_at size_table f1_table f2_table
tested = tt

pub row_keeps : (row : ℕ) → row < row_count → Row row
unfolding passes row_tests
row_keeps row h = record {
  rises = ltb→lt _ _ (at 0);
  close = leb→le _ _ (at 1);
  least = leb→le _ _ (at 2);
  most = leb→le _ _ (at 3);
  bytes = eqb→eq _ _ (at 4);
  f1_below = ltb→lt _ _ (at 5);
  f2_below = ltb→lt _ _ (at 6);
  coprime = eqb→eq _ _ (at 7);
  power = eqb→eq _ _ (at 8);
  f2_even = eqb→eq _ _ (at 9);
}
  where
    at : (k : ℕ) → T (get_or (row_tests (size_before row) (size_at row) (f1_at row) (f2_at row)) k true)
    at = each_true (row_tests (size_before row) (size_at row) (f1_at row) (f2_at row)) (all_below_at passes row_count tested row h)

-- the sizes rise from row to row
pub rising : (i j : ℕ) → i < j → j < row_count → size_at i < size_at j
rising i zero h hj = absurd (omega arith)
rising i (suc j) h hj = elim (dec_lt i j) [
  | yes lt ↦ lt_trans (rising i j lt (omega arith)) (row_keeps (suc j) hj).rises
  | no ge ↦ let same : i ≡ j = omega arith in rw same (row_keeps (suc j) hj).rises
]

-- two sizes in a row are at most 64 apart
pub gap : (row : ℕ) → row + 1 < row_count → size_at (row + 1) ≤ size_at row + 64
gap row h = rw (add-one row) (row_keeps (suc row) (omega arith)).close

-- every row of the table rearranges the places of its code block
pub rearranges : (row : ℕ) → row < row_count → Rearrangement (size_at row) (second_place row)
unfolding second_place
rearranges row h = quadratic_rearranges 12 (size_at row) (f1_at row) (f2_at row) (row_keeps row h).coprime 7 (row_keeps row h).power
