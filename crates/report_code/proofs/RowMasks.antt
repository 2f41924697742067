-- The rows of the basis as masks: by one computed test each row has at most 11 entries, all bits, so that the ones which a message shares
-- with a mask give the coded bit of clause 5.2.2.6.4.
-- Assumes nothing.
use mathlib.Core.Path.{◌≡◌, refl, ◌∙◌, ap}
use mathlib.Core.Bool.{Bool, true, ◌&&◌, and-eq-true_iff}
use mathlib.Core.List.{List, [], ◌∷◌, map}
use Prim.Native.Nat.{ℕ, zero, suc, ◌%◌, ◌≤◌, ◌<◌}
use lib.Dec.{ltb, leb, lit<}
use lib.Bits.{bit_and}
use lib.Count.{ones}
use lib.ListN.{length, get_or}
use borrow.Author.Tests.{ltb-true, leb-true}
use Rattle.laws.specs.Bits.{AreBits}
use Rattle.laws.specs.inner.Computed.{all_below}
use Rattle.laws.proofs.Computed.{all_below_at, T_true}
use Rattle.report_code.specs.Basis.{basis, row}
use Rattle.report_code.specs.Code.{coded_bit}
use Rattle.report_code.specs.Words.{number_of, message_bits, row_masks}
use Rattle.report_code.proofs.Words.{ones_message}

-- each entry is 0 or 1, as a test
unfoldable bits_test : List ℕ → Bool
bits_test [] = true
bits_test (x ∷ xs) = ltb x 2 && bits_test xs

bits_tested : (xs : List ℕ) → bits_test xs ≡ true → AreBits xs
unfolding bits_test
bits_tested [] e i = lit< tt
bits_tested (x ∷ xs) e zero = ltb-true x 2 ((and-eq-true_iff (ltb x 2) (bits_test xs)).0 e).0
bits_tested (x ∷ xs) e (suc i) = bits_tested xs ((and-eq-true_iff (ltb x 2) (bits_test xs)).0 e).1 i

row_test : ℕ → Bool
row_test i = leb (length (row i)) 11 && bits_test (row i)

rows_tested : (i : ℕ) → i < 32 → row_test i ≡ true
unfolding all_below row_test bits_test row basis
rows_tested i h = T_true (row_test i) (all_below_at row_test 32 tt i h)

row_short : (i : ℕ) → i < 32 → length (row i) ≤ 11
unfolding row_test
row_short i h = leb-true (length (row i)) 11 ((and-eq-true_iff (leb (length (row i)) 11) (bits_test (row i))).0 (rows_tested i h)).0

row_bits : (i : ℕ) → i < 32 → AreBits (row i)
unfolding row_test
row_bits i h = bits_tested (row i) ((and-eq-true_iff (leb (length (row i)) 11) (bits_test (row i))).0 (rows_tested i h)).1

mask_at : (l : List (List ℕ)) (i : ℕ) → get_or (map number_of l) i 0 ≡ number_of (get_or l i [])
unfolding number_of
mask_at [] i = refl
mask_at (r ∷ l) zero = refl
mask_at (r ∷ l) (suc i) = mask_at l i

-- the odd or even number of ones that message and table row share
coded_is : (m i : ℕ) → i < 32 → ones (bit_and m (get_or row_masks i 0)) % 2 ≡ coded_bit (message_bits 11 m) i
unfolding row_masks coded_bit row
coded_is m i h =
    ap (λ (n : ℕ). n % 2)
    (ap (λ (n : ℕ). ones (bit_and m n)) (mask_at basis i) ∙ ones_message 11 m (row i) (row_short i h) (row_bits i h))

pub coded_told : (m i : ℕ) {rows : List ℕ} → rows ≡ row_masks → i < 32 → ones (bit_and m (get_or rows i 0)) % 2 ≡ coded_bit (message_bits 11 m) i
coded_told m i e h = ap (λ (r : List ℕ). ones (bit_and m (get_or r i 0)) % 2) e ∙ coded_is m i h
