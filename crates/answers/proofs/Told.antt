-- Laws of the row of a word and numbers, assembled where it surely fits.
-- Assumes nothing.
use mathlib.Core.Path.{◌≡◌, sym, ◌∙◌}
use mathlib.Core.List.{List, [], ◌++◌, append-nil}
use Prim.Native.Nat.{ℕ, ◌+◌, ◌*◌, ◌≤◌}
use native.Mathlib.Omega.{arith}
use lib.ListN.{length, take}
use Rattle.laws.proofs.Writing.{Writing, start_at, same}
use Rattle.lines.specs.Numbers.{numbers_row, put_numbers, end_numbers}
use Rattle.lines.specs.Put.{put_over, put_at, end_at}
use Rattle.lines.proofs.Numbers.{row_fits}
use Rattle.lines.proofs.Putting.{wrote, put, looked, over_room}

-- row₁ has the word, which ends at i, and row₂ the numbers too, which end at r
module _ (word numbers row₀ : List ℕ) {row₁ row₂ : List ℕ} {i r : ℕ} (h : length word + 21 * length numbers ≤ length row₀)
    (e : (i ≡ end_at 0 word row₀) × (row₁ ≡ put_at 0 word row₀)) (f : (r ≡ end_numbers i numbers row₁) × (row₂ ≡ put_numbers i numbers row₁))
    (kept : length row₂ ≡ length row₁) where
  word_put : Writing row₀ row₁ i (numbers_row numbers) (word ++ numbers_row numbers)
  word_put = put word (omega arith) (start_at 0) e

  word_end : i ≡ length word
  word_end = omega (arith, (looked 0 word row₀ (omega arith) e).0)

  numbers_put : (r ≡ i + length (numbers_row numbers)) × (row₂ ≡ put_over i (numbers_row numbers) row₁)
  numbers_put =
      let fits = row_fits i numbers row₁ (omega (arith, word_end, word_put.long)) in
      (f.0 ∙ fits.0, f.1 ∙ fits.1)

  room : i + length (numbers_row numbers) ≤ length row₁
  room = over_room i (numbers_row numbers) row₁ (omega (arith, word_end, word_put.long)) numbers_put.1 kept

  pub row_within : r ≤ length row₀
  row_within = omega (arith, numbers_put.0, room, word_put.long)

  pub row_told : take r row₂ ≡ word ++ numbers_row numbers
  row_told = sym (append-nil (take r row₂)) ∙ all.told
    where
      all : Writing row₀ row₂ r [] (word ++ numbers_row numbers)
      all = wrote (numbers_row numbers) room (same (sym (append-nil (numbers_row numbers))) word_put) numbers_put
