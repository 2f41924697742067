-- The rows of the code are those of the definitions, column by column, and past the table both are 0.
-- Assumes nothing.
use Rattle.std.proofs.Common.{◌≡◌, ℕ, List, ◌≤◌, ◌<◌, get_or, map, refl, sym, ◌∙◌, ap}
use Rattle.std.proofs.Math.ListN.{get_or-map, get_or-eq_default}
use Rattle.interleaver.specs.declared.table.Row.{Row}
use Rattle.interleaver.specs.declared.table.TheConstants.{TABLE}
use Rattle.std.specs.List.Sorted.{IsNonDecreasingBy}
use Rattle.std.proofs.lemmas.List.Sorted.{IsNonDecreasingBy-from_default}
use native.Mathlib.Decide.{dec_lt}
use native.Mathlib.Omega.{arith}
use Rattle.interleaver.proofs.Rows.{rising}
use Rattle.interleaver.specs.Table.{size_table, f1_table, f2_table, size_at, f1_at, f2_at, row_count}

abbrev pub size_of : Row → ℕ
size_of r = r.0

abbrev pub f1_of : Row → ℕ
f1_of r = r.1

abbrev pub f2_of : Row → ℕ
f2_of r = r.2

sizes : map size_of TABLE ≡ size_table
unfolding size_table
sizes = refl

f1s : map f1_of TABLE ≡ f1_table
unfolding f1_table
f1s = refl

f2s : map f2_of TABLE ≡ f2_table
unfolding f2_table
f2s = refl

pub size_told : (row : ℕ) → (get_or TABLE row (0, 0, 0)).0 ≡ size_at row
unfolding size_at
size_told row = sym (get_or-map size_of TABLE row (0, 0, 0)) ∙ ap (λ (l : List ℕ). get_or l row 0) sizes

pub f1_told : (row : ℕ) → (get_or TABLE row (0, 0, 0)).1 ≡ f1_at row
unfolding f1_at
f1_told row = sym (get_or-map f1_of TABLE row (0, 0, 0)) ∙ ap (λ (l : List ℕ). get_or l row 0) f1s

pub f2_told : (row : ℕ) → (get_or TABLE row (0, 0, 0)).2 ≡ f2_at row
unfolding f2_at
f2_told row = sym (get_or-map f2_of TABLE row (0, 0, 0)) ∙ ap (λ (l : List ℕ). get_or l row 0) f2s

-- past the table
pub no_size : (row : ℕ) → row_count ≤ row → 0 ≡ size_at row
unfolding size_at size_table
no_size row h = sym (get_or-eq_default size_table 0 h)

pub no_f1 : (row : ℕ) → row_count ≤ row → 0 ≡ f1_at row
unfolding f1_at f1_table
no_f1 row h = sym (get_or-eq_default f1_table 0 h)

pub no_f2 : (row : ℕ) → row_count ≤ row → 0 ≡ f2_at row
unfolding f2_at f2_table
no_f2 row h = sym (get_or-eq_default f2_table 0 h)

-- the sizes rise
pub rising_rows : IsNonDecreasingBy size_of TABLE
rising_rows = IsNonDecreasingBy-from_default size_of TABLE (0, 0, 0) (λ i j h l. up i j h l)
  where
    up : (i j : ℕ) → i ≤ j → j < row_count → size_of (get_or TABLE i (0, 0, 0)) ≤ size_of (get_or TABLE j (0, 0, 0))
    up i j h l = elim (dec_lt i j) [
      | yes lt ↦ omega (arith, size_told i, size_told j, rising i j lt l)
      | no ge ↦ let same : i ≡ j = omega arith in rw same (omega arith)
    ]
