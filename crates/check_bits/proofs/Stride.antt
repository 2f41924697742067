-- A table of a generator, tested once over all of its entries, takes 24 data bits into the register in one stride; two tables take 48.
-- Assumes nothing.
use mathlib.Core.Path.{◌≡◌, refl, sym, ◌∙◌, ap, ap₂}
use mathlib.Core.Bool.{Bool}
use mathlib.Core.List.{List, ◌++◌}
use Prim.Native.Nat.{ℕ, ◌+◌, ◌*◌, ◌/◌, ◌%◌, ◌^◌, ◌≤◌, ◌<◌}
use native.Mathlib.Nat.{zero-add, mul-one, lt_of_lt_of_le, mod-lt, mod-eq_of_lt}
use native.Mathlib.Omega.{arith}
use lib.Arith.{digits_div, digits_mod}
use lib.Bits.{xor_comm, xor_zero_l, xor_zero_r, xor_shifted, xor_lt}
use lib.Dec.{T, eqb, eqb→eq, lit<}
use lib.ListN.{length, get_or, replicate, length-replicate, replicate-append-replicate}
use lib.Pow.{pow_pos, pow_mono, shl_lt, mod-pow-add}
use Rattle.laws.specs.Bits.{◌⊕◌, bits_of}
use Rattle.laws.specs.inner.Computed.{all_below}
use Rattle.laws.proofs.AreBits.{zero_bits}
use Rattle.laws.proofs.Bits.{length_bits_of, bits_of_bits}
use Rattle.laws.proofs.Computed.{all_below_at}
use Rattle.check_bits.specs.CheckBits.{crc_from}
use Rattle.check_bits.specs.inner.Stride.{after, IsTable, entries}
use Rattle.check_bits.proofs.Register.{crc_from_lt, crc_from_append}
use Rattle.check_bits.proofs.Linear.{superposed, beforehand}

-- the test of one entry
unfoldable pub right : ℕ → ℕ → List ℕ → ℕ → Bool
right n g t k = eqb (get_or t k 0) (after n g (k % 16 * 2 ^ (k / 16 * 4)))

pub tested : (n g : ℕ) (t : List ℕ) → T (all_below (right n g t) 96) → IsTable n g t
unfolding right
tested n g t h = record {
  entry = λ k l. eqb→eq (get_or t k 0) (after n g (k % 16 * 2 ^ (k / 16 * 4))) (all_below_at (right n g t) 96 h k l);
}

-- the lowest 4 + k bits of the register s: four bits, and the k below them
lower : (n g s k : ℕ) → 4 + k ≤ 24 → after n g (s % 2 ^ (4 + k)) ≡ after n g (s % 2 ^ k) ⊕ after n g (s / 2 ^ k % 16 * 2 ^ k)
unfolding after
lower n g s k h =
    ap (λ (x : ℕ). crc_from 24 g x (replicate n 0)) (mod-pow-add s 4 k ∙ sym (xor_shifted four k low low_lt) ∙ xor_comm (four * 2 ^ k) low)
    ∙ superposed 23 g refl low (four * 2 ^ k) (replicate n 0) (lt_of_lt_of_le low_lt (pow_mono k≤24)) (lt_of_lt_of_le four_lt (pow_mono h)) (zero_bits n)
    ∙ ap (λ (j : ℕ). crc_from 24 g low (replicate j 0) ⊕ crc_from 24 g (four * 2 ^ k) (replicate n 0)) (length-replicate n 0)
  where
    four : ℕ
    four = s / 2 ^ k % 16

    low : ℕ
    low = s % 2 ^ k

    four_lt : four * 2 ^ k < 2 ^ (4 + k)
    four_lt = shl_lt 4 k (mod-lt (s / 2 ^ k) (lit< tt))

    low_lt : low < 2 ^ k
    low_lt = mod-lt s (pow_pos k)

    k≤24 : k ≤ 24
    k≤24 = omega arith

module _ {n g : ℕ} {t : List ℕ} (w : IsTable n g t) where
  -- the entry for four bits in their row
  in_row : (r x : ℕ) → r < 6 → x < 16 → after n g (x * 2 ^ (r * 4)) ≡ get_or t (r * 16 + x) 0
  in_row r x h l = sym (rw (digits_div r l, digits_mod r l) at (w.entry (r * 16 + x) (omega arith)))

  pub entries_are : (s : ℕ) → s < 2 ^ 24 → after n g s ≡ entries t s
  entries_are s h =
      ap (after n g) (sym (mod-eq_of_lt h))
      ∙ more 5 (lit< tt) (more 4 (lit< tt) (more 3 (lit< tt) (more 2 (lit< tt) (more 1 (lit< tt) first))))
    where
      first : after n g (s % 2 ^ 4) ≡ get_or t (s % 16) 0
      first = simp (zero-add, mul-one) at (in_row 0 (s % 16) (lit< tt) (omega arith))

      more : (r : ℕ) {x : ℕ} → r < 6 → after n g (s % 2 ^ (r * 4)) ≡ x
          → after n g (s % 2 ^ (4 + r * 4)) ≡ x ⊕ get_or t (r * 16 + s / 2 ^ (r * 4) % 16) 0
      more r l e = lower n g s (r * 4) (omega arith) ∙ ap₂ ◌⊕◌ e (in_row r (s / 2 ^ (r * 4) % 16) l (mod-lt (s / 2 ^ (r * 4)) (lit< tt)))

module _ {g : ℕ} {t : List ℕ} (w : IsTable 24 g t) where
  -- 24 data bits in one stride
  pub stride : {s x : ℕ} → s < 2 ^ 24 → x < 2 ^ 24 → crc_from 24 g s (bits_of 24 x) ≡ entries t (s ⊕ x)
  unfolding after
  stride {s} {x} hs hx = beforehand 23 g refl s x hs hx ∙ entries_are w (s ⊕ x) (xor_lt 24 s x hs hx)

  -- the same from the empty register
  pub stride_first : {x : ℕ} → x < 2 ^ 24 → crc_from 24 g 0 (bits_of 24 x) ≡ entries t x
  stride_first {x} h = stride (lit< tt) h ∙ ap (λ (y : ℕ). entries t y) (xor_zero_l x)

  -- 48 data bits: the first 24 with the register by the table for 48 zeros, the others by themselves
  pub long_stride : {u : List ℕ} {s x y : ℕ} → IsTable 48 g u → s < 2 ^ 24 → x < 2 ^ 24 → y < 2 ^ 24
      → crc_from 24 g s (bits_of 24 x ++ bits_of 24 y) ≡ entries u (s ⊕ x) ⊕ entries t y
  unfolding after
  long_stride {u} {s} {x} {y} w48 hs hx hy =
      crc_from_append 24 g s (bits_of 24 x) (bits_of 24 y)
      ∙ ap (λ (z : ℕ). crc_from 24 g z (bits_of 24 y)) (beforehand 23 g refl s x hs hx ∙ sym (xor_zero_r half))
      ∙ superposed 23 g refl half 0 (bits_of 24 y) (crc_from_lt 24 g (s ⊕ x) (replicate 24 0) both) (lit< tt) (bits_of_bits 24 y)
      ∙ ap₂ ◌⊕◌ first (stride_first hy)
    where
      half : ℕ
      half = crc_from 24 g (s ⊕ x) (replicate 24 0)

      both : s ⊕ x < 2 ^ 24
      both = xor_lt 24 s x hs hx

      first : crc_from 24 g half (replicate (length (bits_of 24 y)) 0) ≡ entries u (s ⊕ x)
      first =
          ap (λ (j : ℕ). crc_from 24 g half (replicate j 0)) (length_bits_of 24 y)
          ∙ sym (crc_from_append 24 g (s ⊕ x) (replicate 24 0) (replicate 24 0))
          ∙ ap (crc_from 24 g (s ⊕ x)) (replicate-append-replicate 24 24 0)
          ∙ entries_are w48 (s ⊕ x) both
