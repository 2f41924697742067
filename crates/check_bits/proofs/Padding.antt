-- The first bits, fewer than the register has, in one stride: its highest bits go with them, as the lowest of a full stride, and its other bits only move up.
-- Assumes nothing.
use mathlib.Core.Path.{◌≡◌, refl, sym, ◌∙◌, ap, ap₂}
use mathlib.Core.List.{List}
use Prim.Native.Nat.{ℕ, zero, suc, ◌+◌, ◌-◌, ◌*◌, ◌/◌, ◌%◌, ◌^◌, ◌≤◌, ◌<◌}
use native.Mathlib.Nat.{zero-mul, mul-one, mul_assoc, zero-div, zero-mod, div-eq_of_lt, mod-eq_of_lt, mod-lt, lt_of_lt_of_le, pow-suc, pow-succ', add-zero}
use native.Mathlib.Omega.{arith}
use lib.Bits.{bit_and, bit_xor, and_mask, xor_comm, xor_zero_l, xor_zero_r, xor_shifted, xor_lt}
use lib.ListN.{length, take, drop, replicate, length-replicate, replicate-append-replicate, take-append-drop}
use lib.Pow.{low, mod-mod-pow, mod-pow-add, pow_mono, pow_pos, shl_lt, shl-shr, shr_lt, split}
use lib.Seq.{take_at, take-take}
use Rattle.laws.specs.Bits.{◌⊕◌, bits_of}
use Rattle.laws.proofs.AreBits.{zero_bits}
use Rattle.laws.proofs.Bits.{xor_assoc, bits_of_bits, bits_of_split, length_bits_of}
use Rattle.check_bits.specs.CheckBits.{crc_step, crc_from}
use Rattle.check_bits.specs.inner.Stride.{after, IsTable, entries}
use Rattle.check_bits.proofs.Linear.{superposed, beforehand}
use Rattle.check_bits.proofs.Register.{crc_step_is, crc_from_lt, crc_from_append}
use Rattle.check_bits.proofs.Running.{Running}
use Rattle.check_bits.proofs.Stride.{entries_are}

-- zeros in front of bits change no remainder
still : (L g : ℕ) → crc_step L g 0 0 ≡ 0
unfolding crc_step
still L g = rw (zero-div, zero-mul) (zero-mod (2 ^ L))

nothing : (L g d : ℕ) → crc_from L g 0 (bits_of d 0) ≡ 0
unfolding crc_from bits_of
nothing L g zero = refl
nothing L g (suc d) =
    ap (λ (b : ℕ). crc_from L g (crc_step L g 0 (b % 2)) (bits_of d 0)) (zero-div (2 ^ d))
    ∙ ap (λ (y : ℕ). crc_from L g y (bits_of d 0)) (still L g)
    ∙ nothing L g d

padded : (L g d k v : ℕ) → v < 2 ^ k → crc_from L g 0 (bits_of (d + k) v) ≡ crc_from L g 0 (bits_of k v)
padded L g d k v h = rw (bits_of_split d k v, div-eq_of_lt h, crc_from_append L g 0 (bits_of d 0) (bits_of k v), nothing L g d)

-- a register of at most d bits only moves up, while the other k places fill with zeros
lifted : (L g d k : ℕ) {s : ℕ} → d + k ≡ L → s < 2 ^ d → crc_from L g s (replicate k 0) ≡ s * 2 ^ k
unfolding crc_from
lifted L g d zero {s} e h = sym (mul-one s)
lifted L g d (suc k) {s} e h =
    ap (λ (y : ℕ). crc_from L g y (replicate k 0)) once
    ∙ lifted L g (suc d) k (omega arith) (rw pow-suc (omega arith))
    ∙ rw (pow-succ' 2 k) (mul_assoc s 2 (2 ^ k))
  where
    high : suc (d + k) ≡ L
    high = omega arith

    below : s < 2 ^ (d + k)
    below = lt_of_lt_of_le h (pow_mono (let l : d ≤ d + k = omega arith in l))

    fits : s * 2 < 2 ^ L
    fits = rw (← high, pow-suc) (omega (arith, below))

    once : crc_step L g s 0 ≡ s * 2
    once = crc_step_is (d + k) g s 0 high ∙ rw (div-eq_of_lt below, zero-mul, xor_zero_r) (mod-eq_of_lt fits)

-- a register of L = d + k bits while k bits go in
module _ (n g d k : ℕ) {L : ℕ} (e : suc n ≡ L) (parts : d + k ≡ L) where
  turned : k + d ≡ L
  turned = omega arith

  within : {x : ℕ} → x < 2 ^ d → x < 2 ^ L
  within h = lt_of_lt_of_le h (pow_mono (let l : d ≤ L = omega arith in l))

  among : {x : ℕ} → x < 2 ^ k → x < 2 ^ L
  among h = lt_of_lt_of_le h (pow_mono (let l : k ≤ L = omega arith in l))

  top_of : {s : ℕ} → s < 2 ^ L → s / 2 ^ d < 2 ^ k
  top_of h = shr_lt k d (rw turned h)

  -- its highest k bits as a register of their own
  upper : {hi : ℕ} → hi < 2 ^ k → crc_from L g (hi * 2 ^ d) (replicate k 0) ≡ crc_from L g hi (replicate L 0)
  upper {hi} h =
      ap (λ (y : ℕ). crc_from L g y (replicate k 0)) (sym (lifted L g k d turned h))
      ∙ sym (crc_from_append L g hi (replicate d 0) (replicate k 0))
      ∙ ap (crc_from L g hi) (replicate-append-replicate d k 0 ∙ ap (λ (j : ℕ). replicate j 0) parts)

  zeros : {s : ℕ} → s < 2 ^ L → crc_from L g s (replicate k 0) ≡ s % 2 ^ d * 2 ^ k ⊕ crc_from L g (s / 2 ^ d) (replicate L 0)
  zeros {s} h =
      ap (λ (y : ℕ). crc_from L g y (replicate k 0)) (sym (split s d) ∙ sym (xor_shifted hi d lo lo_lt) ∙ xor_comm (hi * 2 ^ d) lo)
      ∙ superposed n g e lo (hi * 2 ^ d) (replicate k 0) (within lo_lt) hi_lt (zero_bits k)
      ∙ ap₂ ◌⊕◌ (ap (λ (j : ℕ). crc_from L g lo (replicate j 0)) (length-replicate k 0) ∙ lifted L g d k parts lo_lt) (upper (top_of h))
    where
      hi : ℕ
      hi = s / 2 ^ d

      lo : ℕ
      lo = s % 2 ^ d

      lo_lt : lo < 2 ^ d
      lo_lt = mod-lt s (pow_pos d)

      hi_lt : hi * 2 ^ d < 2 ^ L
      hi_lt = rw turned at (shl_lt k d (top_of h))

  -- k data bits in one stride
  short_stride : {s v : ℕ} → s < 2 ^ L → v < 2 ^ k → crc_from L g s (bits_of k v) ≡ s % 2 ^ d * 2 ^ k ⊕ crc_from L g (s / 2 ^ d ⊕ v) (replicate L 0)
  short_stride {s} {v} h hv =
      ap (λ (y : ℕ). crc_from L g y (bits_of k v)) (sym (xor_zero_r s))
      ∙ superposed n g e s 0 (bits_of k v) h (pow_pos L) (bits_of_bits k v)
      ∙ ap₂ ◌⊕◌ (ap (λ (j : ℕ). crc_from L g s (replicate j 0)) (length_bits_of k v) ∙ zeros h) alone
      ∙ xor_assoc (s % 2 ^ d * 2 ^ k) (crc_from L g (s / 2 ^ d) (replicate L 0)) (crc_from L g v (replicate L 0))
      ∙ ap (λ (y : ℕ). s % 2 ^ d * 2 ^ k ⊕ y) (sym together)
    where
      alone : crc_from L g 0 (bits_of k v) ≡ crc_from L g v (replicate L 0)
      alone =
          sym (padded L g d k v hv)
          ∙ ap (λ (j : ℕ). crc_from L g 0 (bits_of j v)) parts
          ∙ beforehand n g e 0 v (pow_pos L) (among hv)
          ∙ ap (λ (y : ℕ). crc_from L g y (replicate L 0)) (xor_zero_l v)

      together : crc_from L g (s / 2 ^ d ⊕ v) (replicate L 0) ≡ crc_from L g (s / 2 ^ d) (replicate L 0) ⊕ crc_from L g v (replicate L 0)
      together =
          superposed n g e (s / 2 ^ d) v (replicate L 0) (among (top_of h)) (among hv) (zero_bits L)
          ∙ ap (λ (j : ℕ). crc_from L g (s / 2 ^ d) (replicate j 0) ⊕ crc_from L g v (replicate L 0)) (length-replicate L 0)

-- the code's shift and mask
moved_up : (s d k : ℕ) → d + k ≡ 24 → bit_and (s * 2 ^ k % 2 ^ 32) (2 ^ 24 - 1) ≡ s % 2 ^ d * 2 ^ k
moved_up s d k e =
    and_mask (s * 2 ^ k % 2 ^ 32) 24
    ∙ mod-mod-pow (s * 2 ^ k) 8 24
    ∙ ap (λ (j : ℕ). s * 2 ^ k % 2 ^ j) (sym e)
    ∙ mod-pow-add (s * 2 ^ k) d k
    ∙ rw (shl-shr s k, none) (add-zero (s % 2 ^ d * 2 ^ k))
  where
    none : s * 2 ^ k % 2 ^ k ≡ 0
    none = rw add-zero at (low s k {lo = 0} (pow_pos k))

-- the k bits of v in one stride
pub strode : {g : ℕ} {t : List ℕ} (k : ℕ) {s v : ℕ} → IsTable 24 g t → k < 24 → s < 2 ^ 24 → v < 2 ^ k
    → bit_xor (bit_and (s * 2 ^ k % 2 ^ 32) (2 ^ 24 - 1)) (entries t (bit_xor (s / 2 ^ (24 - k)) v)) ≡ crc_from 24 g s (bits_of k v)
unfolding after
strode {g} {t} k {s} {v} w few hs hv =
    ap₂ ◌⊕◌ (moved_up s (24 - k) k sum) (sym (entries_are w (s / 2 ^ (24 - k) ⊕ v) both))
    ∙ sym (short_stride 23 g (24 - k) k refl sum hs hv)
  where
    sum : 24 - k + k ≡ 24
    sum = omega arith

    both : s / 2 ^ (24 - k) ⊕ v < 2 ^ 24
    both = among 23 g (24 - k) k refl sum (xor_lt k (s / 2 ^ (24 - k)) v (top_of 23 g (24 - k) k refl sum hs) hv)

-- the first k of 24 bits that are those of x
module _ (bits : List ℕ) (k : ℕ) {x : ℕ} (few : k < 24) (small : x < 2 ^ 24) where
  sum : 24 - k + k ≡ 24
  sum = omega arith

  pub highest_lt : x / 2 ^ (24 - k) < 2 ^ k
  highest_lt = top_of 23 0 (24 - k) k refl sum small

  pub highest : take 24 (drop 0 bits) ≡ bits_of 24 x → bits_of k (x / 2 ^ (24 - k)) ≡ take k bits
  highest told = sym (
      sym (take-take k 24 bits (omega arith))
      ∙ ap (take k) (told ∙ ap (λ (n : ℕ). bits_of n x) (sym (turned 23 0 (24 - k) k refl sum)) ∙ bits_of_split k (24 - k) x)
      ∙ take_at (bits_of k (x / 2 ^ (24 - k))) (bits_of (24 - k) x) k (length_bits_of k (x / 2 ^ (24 - k)))
      )

-- the bits after those by which the length is over a multiple of 24 go on from the register after these
pub gone : {g r s : ℕ} (bits : List ℕ) → r < 2 ^ 24 → s ≡ crc_from 24 g r (take (length bits % 24) bits) → Running 24 24 g r bits s (drop (length bits % 24) bits)
gone {g} {r} bits h e = rw e record {
  small = crc_from_lt 24 g r (take (length bits % 24) bits) h;
  told = sym (crc_from_append 24 g r (take (length bits % 24) bits) (drop (length bits % 24) bits)) ∙ ap (crc_from 24 g r) (take-append-drop (length bits % 24) bits);
}
