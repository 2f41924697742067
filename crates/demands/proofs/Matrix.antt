-- The definition of v(0) and v(1) is the matrix of clause 5.1.4.1.1, and R the minimum number of rows.
-- Assumes nothing.
use mathlib.Core.Path.{◌≡◌, refl, sym, ◌∙◌, ap, ap₂}
use mathlib.Core.List.{List, ◌∷◌, ◌++◌}
use Prim.Native.Nat.{ℕ, zero, suc, ◌+◌, ◌*◌, ◌≤◌, ◌<◌}
use native.Mathlib.Nat.{add-zero, zero-mul}
use native.Mathlib.Omega.{arith}
use lib.Arith.{digits_div, digits_mod}
use lib.ListN.{length, get_or, take, drop}
use lib.Seq.{get_or-take, get_or-drop}
use Rattle.laws.specs.Lists.{tab, tab_from}
use Rattle.laws.proofs.Tab.{get_or_tab, tab_ext, tab_from_split, tab_from_shift}
use Rattle.rate_matching.specs.Columns.{column}
use Rattle.rate_matching.specs.SubBlocks.{rows, padded, read_plain, y_at, plain}
use Rattle.rate_matching.proofs.Columns.{column_rule}
use Rattle.demands.specs.Matrix.{written_rows, permuted_columns, column_of, read_out, interleaved_by}

-- R is the minimum with D ≤ 32·R
pub minimum_rows : (D : ℕ) → (D ≤ 32 * rows D) × ((R : ℕ) → D ≤ 32 * R → rows D ≤ R)
unfolding rows
minimum_rows D = (omega arith, λ R h. omega arith)

-- the entry of column j, row i, after the permutation
abbrev entry : List ℕ → ℕ → ℕ → ℕ
entry y j i = get_or y (column j + 32 * i) 0

module _ (j : ℕ) (h : j < 32) where
  -- what permuted column j holds, from row 0 down
  column_holds : (n : ℕ) (y : List ℕ) → column_of j (permuted_columns (written_rows n y)) ≡ tab n (entry y j)
  unfolding column_of permuted_columns written_rows tab tab_from
  column_holds zero y = refl
  column_holds (suc n) y = ap₂ ◌∷◌ top (rest (column_holds n (drop 32 y)))
    where
      top : get_or (tab 32 (λ (i : ℕ). get_or (take 32 y) (column i) 0)) j 0 ≡ entry y j 0
      top =
          get_or_tab 32 (λ (i : ℕ). get_or (take 32 y) (column i) 0) j 0 h
          ∙ get_or-take 32 y (column j) 0 (column_rule j h).0
          ∙ ap (λ (k : ℕ). get_or y k 0) (sym (add-zero (column j)))

      further : (i : ℕ) → 32 + (column j + 32 * i) ≡ column j + 32 * (1 + i)
      further i = omega arith

      rest : {l : List ℕ} → l ≡ tab n (entry (drop 32 y) j) → l ≡ tab_from 1 n (entry y j)
      rest is =
          is
          ∙ tab_ext n (entry (drop 32 y) j) (λ (i : ℕ). entry y j (1 + i))
          (λ i l.
          get_or-drop 32 y (column j + 32 * i) 0
          ∙ ap (λ (k : ℕ). get_or y k 0) (further i))
          ∙ sym (tab_from_shift 1 0 n (entry y j))

module _ (R : ℕ) (y : List ℕ) where
  -- entry k of what is read out
  abbrev read : ℕ → ℕ
  read k = get_or y (read_plain R k) 0

  column_read : (j : ℕ) → j < 32 → column_of j (permuted_columns (written_rows R y)) ≡ tab_from (j * R) R read
  unfolding tab read_plain
  column_read j h =
      column_holds j h R y
      ∙ tab_ext R (entry y j) (λ (i : ℕ). read (j * R + i))
      (λ i l. ap₂ (λ (a b : ℕ). get_or y (column a + 32 * b) 0) (sym (digits_div j l)) (sym (digits_mod j l)))
      ∙ sym (tab_from_shift (j * R) 0 R read)
      ∙ ap (λ (k : ℕ). tab_from k R read) (add-zero (j * R))

  columns_read : (j n : ℕ) → j + n ≤ 32 → read_out j n (permuted_columns (written_rows R y)) ≡ tab_from (j * R) (n * R) read
  unfolding read_out tab_from
  columns_read j zero h = rw (zero-mul R)
  columns_read j (suc n) h =
      let more : R + n * R ≡ suc n * R = omega arith in
      let on : suc j * R ≡ j * R + R = omega arith in
      ap₂ ◌++◌ (column_read j (omega arith)) (columns_read (suc j) n (omega arith) ∙ ap (λ (k : ℕ). tab_from k (n * R) read) on)
      ∙ sym (tab_from_split (j * R) R (n * R) read)
      ∙ ap (λ (k : ℕ). tab_from (j * R) k read) more

-- v(0) and v(1), steps (1) to (5)
pub matrix_read : (d : List ℕ) → plain d ≡ interleaved_by d
unfolding plain interleaved_by tab y_at
matrix_read d =
    ap (λ (k : ℕ). tab_from k (32 * rows (length d)) (read (rows (length d)) (padded d))) (sym (zero-mul (rows (length d))))
    ∙ sym (columns_read (rows (length d)) (padded d) 0 32 (omega arith))
