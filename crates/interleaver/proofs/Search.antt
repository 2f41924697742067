-- The search for a size in table 5.1.3-3.
-- Assumes nothing.
use mathlib.Core.Path.{◌≡◌, refl, sym, ◌∙◌, ap}
use mathlib.Core.Bool.{Bool, true, false, cond}
use mathlib.Core.List.{List}
use Prim.Native.Nat.{ℕ, zero, suc, ◌+◌, ◌≤◌, ◌<◌}
use native.Mathlib.Nat.{zero-add}
use native.Mathlib.Decide.{dec_lt}
use native.Mathlib.Omega.{arith}
use lib.Dec.{leb, ltb}
use lib.ListN.{length, get_or, drop}
use lib.Seq.{drop-cons, drop-length}
use borrow.Author.Tests.{le-leb, lt-leb, lt-ltb, le-ltb, ltb-true, ltb-false}
use Rattle.std.specs.Prelude.{Option, Some, None}
use Rattle.std.specs.List.Sorted.{IsPartitionPoint}
use Rattle.interleaver.specs.declared.table.Found.{Found}
use Rattle.interleaver.specs.declared.table.Row.{Row}
use Rattle.interleaver.specs.declared.table.TheConstants.{TABLE}
use Rattle.interleaver.proofs.Columns.{size_of, size_told}
use Rattle.interleaver.specs.Table.{size_table, size_at, row_count, first_at_least, row_for, found_for}

-- ---- entry by entry

-- none of the entries before `row` is enough
pub record Searched (least : ℕ) (l : List ℕ) (row : ℕ) : Type 0 where
  pub within : row ≤ length l
  pub rest : first_at_least least l ≡ row + first_at_least least (drop row l)

module _ (least : ℕ) (l : List ℕ) where
  pub start : Searched least l 0
  start = record { within = omega arith; rest = sym (zero-add (first_at_least least l)) }

  -- the next entry, enough or not
  at : (row : ℕ) → row < length l → (t : Bool) → leb least (get_or l row 0) ≡ t → first_at_least least (drop row l) ≡ cond t 0 (suc (first_at_least least (drop (suc row) l)))
  unfolding first_at_least
  at row h t e = ap (first_at_least least) (drop-cons l row 0 h) ∙ ap (λ (u : Bool). cond u 0 (suc (first_at_least least (drop (suc row) l)))) e

  found : {row : ℕ} → row < length l → least ≤ get_or l row 0 → Searched least l row → row ≡ first_at_least least l
  found {row} h enough s = omega (arith, s.rest, at row h true (le-leb least (get_or l row 0) enough))

  pub next : {row : ℕ} → row < length l → get_or l row 0 < least → Searched least l row → Searched least l (suc row)
  next {row} h less s = record { within = omega arith; rest = omega (arith, s.rest, at row h false (lt-leb least (get_or l row 0) less)) }

  finish : {row : ℕ} → length l ≤ row → Searched least l row → row ≡ first_at_least least l
  unfolding first_at_least
  finish {row} h s =
      let end : row ≡ length l = omega (arith, s.within) in
      omega (arith, s.rest, ap (first_at_least least) (ap (λ (n : ℕ). drop n l) end ∙ drop-length l))

  -- none of the first n entries is enough
  pub none_first : (n : ℕ) → n ≤ length l → ((i : ℕ) → i < n → get_or l i 0 < least) → Searched least l n
  none_first zero h less = start
  none_first (suc n) h less = next (omega arith) (less n (omega arith)) (none_first n (omega arith) (λ i m. less i (omega arith)))

-- ---- in the table

-- a place before which no size is enough, and from which on each one is
pub first_is : {least row : ℕ} → row ≤ row_count → ((i : ℕ) → i < row → size_at i < least) → ((i : ℕ) → row ≤ i → i < row_count → least ≤ size_at i) → row ≡ row_for least
unfolding row_for size_at size_table
first_is {least} {row} h before on = elim (dec_lt row row_count) [
  | yes lt ↦ found least size_table lt (on row (omega arith) lt) (none_first least size_table row h before)
  | no ge ↦ finish least size_table (omega arith) (none_first least size_table row h before)
]

-- the place that a search by halves of the code's rows ends at
pub point_is : (least : ℕ) {row : ℕ} → row ≤ row_count → IsPartitionPoint (λ (r : Row). ltb (size_of r) least ≡ true) (λ (r : Row). ltb (size_of r) least ≡ false) TABLE row → row ≡ row_for least
point_is least {row} h point = first_is h
    (λ i l. rw (size_told i) at (ltb-true (size_of (get_or TABLE i (0, 0, 0))) least (point.0 i (0, 0, 0) (omega arith) l)))
    (λ i l m. rw (size_told i) at (ltb-false (size_of (get_or TABLE i (0, 0, 0))) least (point.1 i (0, 0, 0) l m)))

pub found_some : (least : ℕ) {row : ℕ} → row ≡ row_for least → row < row_count → ◌≡◌ {A = Option Found} (Some (record { row = row; size = size_of (get_or TABLE row (0, 0, 0)) })) (found_for least)
unfolding found_for
found_some least {row} e h = rw (size_told row, ← e, lt-ltb row row_count h) refl

pub found_none : (least : ℕ) {row : ℕ} → row ≡ row_for least → row_count ≤ row → None ≡ found_for least
unfolding found_for
found_none least {row} e h = rw (← e, le-ltb row row_count h) refl

-- two tests of which each holds where the other does
pub alike : (a b : Bool) → (a ≡ true → b ≡ true) → (b ≡ true → a ≡ true) → a ≡ b
alike true b to from = sym (to refl)
alike false true to from = from refl
alike false false to from = refl
