-- Data that carries its check leaves the register empty, and data that carries any other bits in its place does not.
-- Assumes nothing.
use mathlib.Core.Path.{◌≡◌, refl, sym, ◌∙◌, ap, ap₂}
use mathlib.Core.Logic.{◌↔◌}
use mathlib.Core.List.{List, [], ◌∷◌, ◌++◌}
use Prim.Native.Nat.{ℕ, zero, suc, ◌+◌, ◌*◌, ◌/◌, ◌%◌, ◌^◌, ◌<◌}
use native.Mathlib.Nat.{zero-mul, zero-mod, mod-eq_of_lt, mod-lt, pow-suc, div-one, add-zero, mod-one}
use native.Mathlib.Numerals.{add-one}
use native.Mathlib.Omega.{arith}
use lib.Arith.{mod-mul}
use lib.Dec.{lit<}
use lib.ListN.{length}
use lib.Bits.{xor_zero_r, xor_self, xor_lt}
use lib.Pow.{pow_pos, field, mod-mod-pow, shr-shr}
use Rattle.laws.specs.Bits.{◌⊕◌, bits_of, AreBits}
use Rattle.laws.proofs.Bits.{xor_parity, bits_of_mod}
use Rattle.check_bits.specs.CheckBits.{crc_step, crc_from, crc, check_bits}
use Rattle.check_bits.proofs.Register.{xor_same, doubled_bit, top_lt, crc_step_is, crc_step_lt, crc_from_append, crc_lt}

-- a bit times an odd number is even only where the bit is 0
none_odd : (c g : ℕ) → g % 2 ≡ 1 → c < 2 → c * g % 2 ≡ 0 → c ≡ 0
none_odd zero g o h e = refl
none_odd (suc zero) g o h e = omega arith
none_odd (suc (suc c)) g o h e = omega arith

-- p is the n bits of s that stand above k zeros
abbrev Holds : ℕ → ℕ → ℕ → List ℕ → Type 0
Holds n k s p = (s % 2 ^ k ≡ 0) × (p ≡ bits_of n (s / 2 ^ k))

-- a register s of L bits whose n + 1 highest bits are still to meet their like, with k bits below them
module _ (g n k : ℕ) {L s : ℕ} (e : suc n + k ≡ L) (hs : s < 2 ^ L) where
  high : suc (k + n) ≡ L
  high = omega arith

  top : s / 2 ^ k / 2 ^ n % 2 ≡ s / 2 ^ (k + n)
  top = rw shr-shr (mod-eq_of_lt (top_lt (k + n) high hs))

  -- a bit that equals the highest one only moves the register up
  moved : crc_step L g s (s / 2 ^ k / 2 ^ n % 2) ≡ s * 2 % 2 ^ L
  moved = rw (top, crc_step_is (k + n) g s (s / 2 ^ (k + n)) high, xor_self, zero-mul, xor_zero_r)

  -- any other makes it odd
  even : {b : ℕ} → g % 2 ≡ 1 → b < 2 → crc_step L g s b % 2 ≡ 0 → b ≡ s / 2 ^ k / 2 ^ n % 2
  even {b} o hb z = sym (top ∙ xor_same (s / 2 ^ (k + n)) b (none_odd c g o (xor_lt 1 (s / 2 ^ (k + n)) b (top_lt (k + n) high hs) hb) odd))
    where
      c : ℕ
      c = s / 2 ^ (k + n) ⊕ b

      one_more : k + n + 1 ≡ L
      one_more = omega arith

      low : c * g % 2 ≡ (s * 2 ⊕ c * g) % 2
      low = omega (arith, xor_parity (s * 2) (c * g))

      odd : c * g % 2 ≡ 0
      odd = low ∙ sym (rw one_more at (mod-mod-pow (s * 2 ⊕ c * g) (k + n) 1)) ∙ (rw (crc_step_is (k + n) g s b high) at z)

  -- moved up, the bits still to come are the same ones, with one more below them
  split : n + suc k ≡ L
  split = omega arith

  below : s * 2 % 2 ^ L % 2 ^ suc k ≡ s % 2 ^ k * 2
  below = rw split at (mod-mod-pow (s * 2) n (suc k)) ∙ halves
    where
      halves : s * 2 % 2 ^ suc k ≡ s % 2 ^ k * 2
      halves = let d : s * 2 / 2 ≡ s = omega arith in rw (pow-suc, mod-mul (s * 2) (pow_pos k) (lit< tt), d) (omega arith)

  above : s * 2 % 2 ^ L / 2 ^ suc k ≡ s / 2 ^ k % 2 ^ n
  above = rw split at (field (s * 2) n (suc k)) ∙ rw (doubled_bit s k)

  moved_bits : bits_of n (s * 2 % 2 ^ L / 2 ^ suc k) ≡ bits_of n (s / 2 ^ k)
  moved_bits = ap (bits_of n) above ∙ bits_of_mod n (s / 2 ^ k)

  -- what holds after a bit held before it
  back : {b : ℕ} {p : List ℕ} → g % 2 ≡ 1 → b < 2 → Holds n (suc k) (crc_step L g s b) p → Holds (suc n) k s (b ∷ p)
  unfolding bits_of
  back {b} {p} o hb h = (
    omega (arith, sym below ∙ ap (λ (x : ℕ). x % 2 ^ suc k) (sym up) ∙ h.0),
    ap₂ ◌∷◌ is (h.1 ∙ ap (λ (x : ℕ). bits_of n (x / 2 ^ suc k)) up ∙ moved_bits),
  )
    where
      is : b ≡ s / 2 ^ k / 2 ^ n % 2
      is = even o hb (sym (rw add-one at (mod-mod-pow (crc_step L g s b) k 1)) ∙ ap (λ (x : ℕ). x % 2) h.0)

      up : crc_step L g s b ≡ s * 2 % 2 ^ L
      up = ap (crc_step L g s) is ∙ moved

-- the register's own bits empty it
empties : (g n k : ℕ) {L s : ℕ} → n + k ≡ L → s < 2 ^ L → s % 2 ^ k ≡ 0 → crc_from L g s (bits_of n (s / 2 ^ k)) ≡ 0
unfolding crc_from bits_of
empties g zero k {L} {s} e hs z = let same : k ≡ L = omega arith in sym (mod-eq_of_lt (rw same hs)) ∙ z
empties g (suc n) k {L} {s} e hs z =
    ap₂ (crc_from L g) (moved g n k e hs) (sym (moved_bits g n k e hs))
    ∙ empties g n (suc k) (split g n k e hs) (mod-lt (s * 2) (pow_pos L)) (below g n k e hs ∙ ap (λ (x : ℕ). x * 2) z)

-- no other bits do, where the generator is odd
only : (g : ℕ) → g % 2 ≡ 1 → (p : List ℕ) (k : ℕ) {L s : ℕ} → length p + k ≡ L → s < 2 ^ L → AreBits p → crc_from L g s p ≡ 0
    → Holds (length p) k s p
unfolding crc_from bits_of
only g o [] k e hs hp z = (rw z (zero-mod (2 ^ k)), refl)
only g o (b ∷ p) k {L} {s} e hs hp z =
    back g (length p) k e hs o (hp 0) (only g o p (suc k) (split g (length p) k e hs) (crc_step_lt L g s b) (λ i. hp (suc i)) z)

-- the register after the data is emptied by its own bits
pub emptied : (L g s : ℕ) → s < 2 ^ L → crc_from L g s (bits_of L s) ≡ 0
emptied L g s h = rw div-one at (empties g L 0 (add-zero L) h (mod-one s))

-- data that carries its check
pub checked : (L g : ℕ) (a : List ℕ) → crc L g (a ++ check_bits L g a) ≡ 0
unfolding crc check_bits
checked L g a = crc_from_append L g 0 a (check_bits L g a) ∙ emptied L g (crc L g a) (crc_lt L g a)

-- data that carries bits p in the place of its check
pub carried : (L g : ℕ) → g % 2 ≡ 1 → (a p : List ℕ) → AreBits p → length p ≡ L → ((crc L g (a ++ p) ≡ 0) ↔ (p ≡ check_bits L g a))
unfolding crc check_bits
carried L g o a p hp l = (
  λ z. (only g o p 0 (add-zero (length p) ∙ l) (crc_lt L g a) hp (sym (crc_from_append L g 0 a p) ∙ z)).1
      ∙ ap₂ bits_of l (div-one (crc L g a)),
  λ e. rw e (checked L g a),
)
