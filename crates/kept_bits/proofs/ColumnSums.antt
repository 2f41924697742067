-- A sum over the places of a stream taken column by column, clause 5.1.4.1.1: a column has every 32nd place.
-- Assumes nothing.
use mathlib.Core.Path.{◌≡◌, refl, sym, ◌∙◌, ap, ap₂}
use mathlib.Core.Bool.{cond}
use Prim.Native.Nat.{ℕ, zero, suc, ◌+◌, ◌-◌, ◌*◌, ◌%◌, ◌≤◌, ◌<◌}
use native.Mathlib.Nat.{add-zero}
use native.Mathlib.Numerals.{add-one}
use native.Mathlib.Decide.{ℕ_discrete}
use native.Mathlib.Omega.{arith}
use lib.Dec.{eqb}
use borrow.Author.Tests.{eq-eqb, ne_eqb}
use Rattle.rate_matching.specs.SubBlocks.{rows_before}
use Rattle.slots.specs.Circle.{sum_from}
use Rattle.slots.proofs.Sums.{sum_from_ext}
use Rattle.kept_bits.proofs.Sums.{sum_from_last, sum_from_add, sum_from_zero, sum_from_one}

-- the terms for the places from i to k that lie in column u, by rows
abbrev pub in_column : (ℕ → ℕ) → ℕ → ℕ → ℕ → ℕ
in_column f i k u = sum_from (λ (t : ℕ). f (u + 32 * t)) (rows_before i u) (rows_before k u - rows_before i u)

-- ---- one place more

module _ (k u : ℕ) (below : u < 32) where
  row_more : k % 32 ≡ u → (rows_before (k + 1) u ≡ rows_before k u + 1) × (u + 32 * rows_before k u ≡ k)
  unfolding rows_before
  row_more e = (omega arith, omega arith)

  row_same : (k % 32 ≡ u → ⊥) → rows_before (k + 1) u ≡ rows_before k u
  unfolding rows_before
  row_same e = omega arith

rows_rise : (i k u : ℕ) → i ≤ k → rows_before i u ≤ rows_before k u
unfolding rows_before
rows_rise i k u h = omega arith

module _ (f : ℕ → ℕ) (i : ℕ) where
  column_more : (k u : ℕ) → i ≤ k → u < 32 → in_column f i (k + 1) u ≡ in_column f i k u + cond (eqb (k % 32) u) (f k) 0
  column_more k u h below = elim (ℕ_discrete (k % 32) u) [
    | yes e ↦
        let r = row_more k u below e in
        let n : rows_before (k + 1) u - rows_before i u ≡ rows_before k u - rows_before i u + 1 = omega (arith, r.0, rows_rise i k u h) in
        let last : rows_before i u + (rows_before k u - rows_before i u) ≡ rows_before k u = omega (arith, rows_rise i k u h) in
        ap (sum_from (λ (t : ℕ). f (u + 32 * t)) (rows_before i u)) n
        ∙ sum_from_last (λ (t : ℕ). f (u + 32 * t)) (rows_before i u) (rows_before k u - rows_before i u)
        ∙ ap (λ (x : ℕ). in_column f i k u + x) (ap (λ (t : ℕ). f (u + 32 * t)) last ∙ ap f r.1 ∙ rw (eq-eqb (k % 32) u e))
    | no e ↦
        ap (λ (b : ℕ). sum_from (λ (t : ℕ). f (u + 32 * t)) (rows_before i u) (b - rows_before i u)) (row_same k u below e)
        ∙ rw (ne_eqb (k % 32) u e) (sym (add-zero (in_column f i k u)))
  ]

  -- ---- all columns

  pub by_columns : (n : ℕ) → sum_from (in_column f i (i + n)) 0 32 ≡ sum_from f i n
  unfolding sum_from
  by_columns zero = sum_from_zero (in_column f i (i + 0)) 0 32 (λ u a b. ap (sum_from (λ (t : ℕ). f (u + 32 * t)) (rows_before i u)) (none u))
    where
      none : (u : ℕ) → rows_before (i + 0) u - rows_before i u ≡ 0
      none u = rw (add-zero i) (omega arith)
  by_columns (suc n) =
      ap (λ (k : ℕ). sum_from (in_column f i k) 0 32) next
      ∙ sum_from_ext (in_column f i (i + n + 1)) (λ (u : ℕ). in_column f i (i + n) u + cond (eqb ((i + n) % 32) u) (f (i + n)) 0) 0 32 (λ u a b. column_more (i + n) u (omega arith) (omega arith))
      ∙ sum_from_add (in_column f i (i + n)) (λ (u : ℕ). cond (eqb ((i + n) % 32) u) (f (i + n)) 0) 0 32
      ∙ ap₂ ◌+◌ (by_columns n) (sum_from_one (λ (u : ℕ). cond (eqb ((i + n) % 32) u) (f (i + n)) 0) 32 ((i + n) % 32) (omega arith) other ∙ rw (eq-eqb ((i + n) % 32) ((i + n) % 32) refl))
      ∙ sym (sum_from_last f i n)
      ∙ ap (sum_from f i) (add-one n)
    where
      next : i + suc n ≡ i + n + 1
      next = omega arith

      other : (u : ℕ) → u < 32 → (u ≡ (i + n) % 32 → ⊥) → cond (eqb ((i + n) % 32) u) (f (i + n)) 0 ≡ 0
      other u h e = rw (ne_eqb ((i + n) % 32) u (λ q. e (sym q)))
