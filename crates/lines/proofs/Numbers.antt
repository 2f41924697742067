-- Laws of a row of numbers put field by field: a number's digits, then its tab or newline.
-- Assumes nothing.
use mathlib.Core.Path.{◌≡◌, refl, sym, ◌∙◌, ap}
use mathlib.Core.Bool.{Bool, true, false, cond}
use mathlib.Core.List.{List, [], ◌∷◌, ◌++◌, map}
use Prim.Native.Nat.{ℕ, ◌+◌, ◌-◌, ◌*◌, ◌^◌, ◌≤◌, ◌<◌}
use native.Mathlib.Omega.{arith}
use lib.Dec.{ltb}
use lib.ListN.{length, get_or, take, drop, set, length-set, drop_of_length-le}
use borrow.Author.Tests.{ltb-true, ltb-false, le-leb, lt-leb}
use Rattle.laws.proofs.Writing.{Writing, start_at, same, push, drop_next}
use Rattle.lines.specs.Numbers.{numbers_row, has_room, put_numbers, end_numbers}
use Rattle.lines.specs.Put.{put_over, put_at, end_at}
use Rattle.lines.specs.Row.{tab, newline, decimal_of, end_of, row_of}
use Rattle.lines.proofs.Decimal.{decimal_length}
use Rattle.lines.proofs.Putting.{put, looked, all_put}

-- what a row of numbers still has from the i-th on
abbrev pub rest_of : List ℕ → ℕ → List ℕ
rest_of numbers i = row_of (map decimal_of (drop i numbers))

-- after i of the numbers: their fields stand before `end`, and there is room for 21 bytes for each of the others
pub record Numbers (numbers : List ℕ) (at : ℕ) (out₀ out : List ℕ) (end i : ℕ) : Type 0 where
  pub within : i ≤ length numbers
  pub room : end + 21 * (length numbers - i) ≤ length out
  pub writing : Writing out₀ out end (rest_of numbers i) (take at out₀ ++ rest_of numbers 0)

-- a field is followed by a tab where another one comes
end_at_lem : (j : ℕ) (l : List ℕ) → cond (ltb j (length l)) tab newline ≡ end_of (map decimal_of (drop j l))
unfolding end_of
end_at_lem j l = go (ltb j (length l)) refl
  where
    go : (more : Bool) → ltb j (length l) ≡ more → cond more tab newline ≡ end_of (map decimal_of (drop j l))
    go true e = rw (drop_next l j (ltb-true _ _ e))
    go false e = rw (drop_of_length-le l (ltb-false _ _ e))

rest_is : (numbers : List ℕ) (i : ℕ) → i < length numbers
    → rest_of numbers i ≡ decimal_of (get_or numbers i 0) ++ (end_of (map decimal_of (drop (i + 1) numbers)) ∷ rest_of numbers (i + 1))
unfolding row_of
rest_is numbers i h = rw (drop_next numbers i h)

rest_none : (numbers : List ℕ) (i : ℕ) → length numbers ≤ i → rest_of numbers i ≡ []
unfolding row_of
rest_none numbers i h = rw (drop_of_length-le numbers h)

pub start : (numbers : List ℕ) (at : ℕ) (out : List ℕ) → at + 21 * length numbers ≤ length out → Numbers numbers at out out at 0
start numbers at out h = record { within = omega arith; room = omega arith; writing = start_at at }

-- one number more: out' has its digits, which end at `mark`
module _ {numbers : List ℕ} {at : ℕ} {out₀ out : List ℕ} {end i : ℕ} (r : Numbers numbers at out₀ out end i) (h : i < length numbers)
    (small : get_or numbers i 0 < 2 ^ 64) {out' : List ℕ} {mark : ℕ}
    (e : (mark ≡ end_at end (decimal_of (get_or numbers i 0)) out) × (out' ≡ put_at end (decimal_of (get_or numbers i 0)) out)) where
  abbrev field : List ℕ
  field = decimal_of (get_or numbers i 0)

  fit : end + length field < length out
  fit = omega (arith, decimal_length (get_or numbers i 0) small, r.room)

  is_put : (mark ≡ end + length field) × (out' ≡ put_over end field out)
  is_put = looked end field out (omega (arith, fit)) e

  spelt : Writing out₀ out' mark (end_of (map decimal_of (drop (i + 1) numbers)) ∷ rest_of numbers (i + 1)) (take at out₀ ++ rest_of numbers 0)
  spelt = put field (omega (arith, fit)) (same (rest_is numbers i h) r.writing) e

  -- the place of its tab or newline
  pub inside : mark < length out'
  inside = omega (arith, fit, is_put.0, spelt.long, r.writing.long)

  pub next : {b : ℕ} → b ≡ cond (ltb (i + 1) (length numbers)) tab newline → Numbers numbers at out₀ (set out' mark b) (mark + 1) (i + 1)
  next {b} q = record {
    within = omega arith;
    room = rw length-set (omega (arith, decimal_length (get_or numbers i 0) small, is_put.0, spelt.long, r.room, r.writing.long));
    writing = push {x = b} inside (same (ap (λ (x : ℕ). x ∷ rest_of numbers (i + 1)) (sym (q ∙ end_at_lem (i + 1) numbers))) spelt);
  }

pub finish : {numbers : List ℕ} {at : ℕ} {out₀ out : List ℕ} {end i : ℕ} → at ≤ length out₀ → length numbers ≤ i → Numbers numbers at out₀ out end i
    → (end ≡ at + length (row_of (map decimal_of numbers))) × (out ≡ put_over at (row_of (map decimal_of numbers)) out₀)
finish {numbers} {i = i} l h r = all_put (row_of (map decimal_of numbers)) l (omega (arith, r.room)) (same (rest_none numbers i h) r.writing)

-- ---- a put that looks for its room

module _ (at : ℕ) (numbers out : List ℕ) where
  pub row_fits : at + 21 * length numbers ≤ length out
      → (end_numbers at numbers out ≡ at + length (numbers_row numbers)) × (put_numbers at numbers out ≡ put_over at (numbers_row numbers) out)
  unfolding end_numbers put_numbers has_room
  row_fits h = simp (le-leb _ _ h) (refl, refl)

  pub row_none : length out < at + 21 * length numbers → (end_numbers at numbers out ≡ at) × (put_numbers at numbers out ≡ out)
  unfolding end_numbers put_numbers has_room
  row_none h = simp (lt-leb _ _ h) (refl, refl)
