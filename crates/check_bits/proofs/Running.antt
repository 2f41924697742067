-- The loops that take the bits of a slice into the register: one by one, for any length of it, and 24 or 48 in a stride.
-- Assumes nothing.
use mathlib.Core.Path.{◌≡◌, refl, sym, ◌∙◌, ap, ap₂}
use mathlib.Core.List.{List, ◌++◌}
use Prim.Native.Nat.{ℕ, ◌+◌, ◌-◌, ◌*◌, ◌/◌, ◌%◌, ◌^◌, ◌≤◌, ◌<◌}
use native.Mathlib.Nat.{one-mul, mod-eq_of_lt, mul-le-mul, lt_of_lt_of_le}
use native.Mathlib.Omega.{arith}
use lib.ListN.{length, get_or, take, drop, length-drop, take-append-drop, drop_of_length-le}
use lib.Seq.{take-add, take_all}
use lib.Pow.{pow-lt, pow_mono, shr_le}
use lib.Bits.{bit_and, bit_xor, and_mask, xor_lt}
use Rattle.laws.specs.Bits.{bits_of}
use Rattle.laws.proofs.Writing.{drop_next}
use Rattle.check_bits.specs.CheckBits.{crc_step, crc_from}
use Rattle.check_bits.specs.inner.Stride.{IsTable, entries}
use Rattle.check_bits.proofs.Register.{crc_step_lt, crc_from_lt, crc_from_append}
use Rattle.check_bits.proofs.Stride.{stride, long_stride}

-- the code's step, whose shift drops nothing
coded : (L g : ℕ) {s : ℕ} (b : ℕ) → s < 2 ^ 32 → bit_and (bit_xor (s * 2 % 2 ^ 64) (bit_xor (s / 2 ^ (L - 1)) b * g)) (2 ^ L - 1) ≡ crc_step L g s b
unfolding crc_step
coded L g {s} b h = and_mask (bit_xor (s * 2 % 2 ^ 64) (bit_xor (s / 2 ^ (L - 1)) b * g)) L ∙ rw (mod-eq_of_lt fits)
  where
    fits : s * 2 < 2 ^ 64
    fits = omega arith

-- its product fits a word, for any byte and any generator
pub product_fits : (n : ℕ) {g s b : ℕ} → g < 2 ^ 32 → s < 2 ^ 32 → b < 2 ^ 8 → bit_xor (s / 2 ^ n) b * g < 2 ^ 64
product_fits n {g} {s} {b} hg hs hb = omega (arith, mul-le-mul up low)
  where
    up : bit_xor (s / 2 ^ n) b ≤ 2 ^ 32 - 1
    up = omega (arith, xor_lt 32 (s / 2 ^ n) b (omega (arith, shr_le s n)) (omega arith))

    low : g ≤ 2 ^ 32 - 1
    low = omega arith

-- s, of at most w bits, is the register of L bits before the bits that are left, and was r before all
pub record Running (w L g r : ℕ) (bits : List ℕ) (s : ℕ) (left : List ℕ) : Type 0 where
  pub small : s < 2 ^ w
  pub told : crc_from L g s left ≡ crc_from L g r bits

module _ {w L g r : ℕ} {bits : List ℕ} where
  pub start : r < 2 ^ w → Running w L g r bits r bits
  start h = record { small = h; told = refl }

  pub finish : {s i : ℕ} → length bits ≤ i → Running w L g r bits s (drop i bits) → s ≡ crc_from L g r bits
  unfolding crc_from
  finish {s} h w = sym (ap (crc_from L g s) (drop_of_length-le bits h)) ∙ w.told

-- what the code lends from a place on
pub from_on : (k : ℕ) (l : List ℕ) → take (length l - k) (drop k l) ≡ drop k l
from_on k l = take_all (length l - k) (drop k l) (rw length-drop (omega arith))

-- the loop's mask
pub masked : {L : ℕ} → L ≤ 32 → 1 * 2 ^ L % 2 ^ 64 ≡ 2 ^ L
masked {L} h = rw one-mul (mod-eq_of_lt (pow-lt (let l : L < 64 = omega arith in l)))

-- a turn of the loop over single bits
pub next : {L g r s i m : ℕ} {bits : List ℕ} → L ≤ 32 → m ≡ 2 ^ L → i < length bits → Running 32 L g r bits s (drop i bits)
    → Running 32 L g r bits (bit_and (bit_xor (s * 2 % 2 ^ 64) (bit_xor (s / 2 ^ (L - 1)) (get_or bits i 0) * g)) (m - 1)) (drop (i + 1) bits)
unfolding crc_from
next {L} {g} {s = s} {i} {bits = bits} l e h w = rw (e, coded L g (get_or bits i 0) w.small) record {
  small = lt_of_lt_of_le (crc_step_lt L g s (get_or bits i 0)) (pow_mono l);
  told = sym (ap (crc_from L g s) (drop_next bits i h)) ∙ w.told;
}

module _ {g r : ℕ} {bits : List ℕ} where
  -- n bits at once
  taken : {s s' : ℕ} (n : ℕ) (left : List ℕ) → crc_from 24 g s (take n left) ≡ s' → Running 24 24 g r bits s left → Running 24 24 g r bits s' (drop n left)
  taken {s} n left e w = rw (← e) record {
    small = crc_from_lt 24 g s (take n left) w.small;
    told = sym (crc_from_append 24 g s (take n left) (drop n left)) ∙ ap (crc_from 24 g s) (take-append-drop n left) ∙ w.told;
  }

  -- the next 24 bits are those of x
  pub next24 : {t : List ℕ} {s x : ℕ} {left : List ℕ} → IsTable 24 g t → x < 2 ^ 24 → take 24 left ≡ bits_of 24 x → Running 24 24 g r bits s left
      → Running 24 24 g r bits (entries t (bit_xor s x)) (drop 24 left)
  next24 {s = s} {left = left} k h e w = taken 24 left (ap (crc_from 24 g s) e ∙ stride k w.small h) w

  -- the next 48 bits are those of x and y
  pub next48 : {t u : List ℕ} {s x y : ℕ} {left : List ℕ} → IsTable 24 g t → IsTable 48 g u
      → (x < 2 ^ 24) × (take 24 left ≡ bits_of 24 x) → (y < 2 ^ 24) × (take 24 (drop 24 left) ≡ bits_of 24 y) → Running 24 24 g r bits s left
      → Running 24 24 g r bits (bit_xor (entries u (bit_xor s x)) (entries t y)) (drop 48 left)
  next48 {s = s} {x} {y} {left} k l hx hy w = taken 48 left (ap (crc_from 24 g s) both ∙ long_stride k l w.small hx.0 hy.0) w
    where
      both : take 48 left ≡ bits_of 24 x ++ bits_of 24 y
      both = take-add 24 24 left ∙ ap₂ ◌++◌ hx.1 hy.1
