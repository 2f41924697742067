-- What check bits mean, clause 5.1.1: they leave remainder 0 when data and check bits are divided by the generator, and no others do.
-- Assumes nothing.
use mathlib.Core.Path.{◌≡◌, refl, sym, ◌∙◌, ap, ap₂}
use mathlib.Core.Logic.{◌↔◌}
use mathlib.Core.List.{List, [], ◌∷◌, ◌++◌}
use Prim.Native.Nat.{ℕ, zero, suc, ◌*◌, ◌/◌, ◌%◌, ◌^◌, ◌<◌}
use native.Mathlib.Nat.{zero-mul, one-mul, zero-div, mod-eq_of_lt}
use native.Mathlib.Omega.{arith}
use lib.ListN.{length, replicate}
use lib.Bits.{xor_zero_r, xor_comm, xor_self, xor_lt}
use lib.Pow.{pow_pos}
use Rattle.laws.specs.Bits.{◌⊕◌, bits_of, AreBits}
use Rattle.laws.proofs.Bits.{xor_assoc, xor_at, length_bits_of, bits_of_mod}
use Rattle.check_bits.specs.Division.{take_away, divide, LeavesNothing, powers_crc24a, powers_crc24b, powers_crc16, of_powers}
use Rattle.check_bits.specs.CheckBits.{g_crc24a, g_crc24b, g_crc16, crc_step, crc_from, crc, check_bits}
use Rattle.check_bits.proofs.Register.{xor_same, doubled_bit, top_lt, crc_step_is, crc_step_lt, length_check_bits}

-- times D: the same bits one place higher, and a zero below
shifted : (n s : ℕ) (q : List ℕ) → take_away 1 (bits_of n s) q ≡ take_away 1 (bits_of (suc n) (s * 2)) q
unfolding take_away bits_of
shifted zero s [] = refl
shifted zero s (y ∷ q) = let e : 1 * (s * 2 / 1 % 2) ≡ 0 = omega arith in rw (e, xor_zero_r)
shifted (suc n) s [] = refl
shifted (suc n) s (y ∷ q) = ap₂ ◌∷◌ (rw (doubled_bit s n)) (shifted n s q)

-- a bit of a number to which c times g is added
bit_added : (c g t n : ℕ) → c < 2 → (t ⊕ c * g) / 2 ^ n % 2 ≡ t / 2 ^ n % 2 ⊕ c * (g / 2 ^ n % 2)
bit_added zero g t n h = simp (zero-mul, xor_zero_r)
bit_added (suc zero) g t n h = rw (one-mul g, one-mul (g / 2 ^ n % 2)) (xor_at t g n)
bit_added (suc (suc c)) g t n h = omega arith

-- the divisor taken away from where a number was added is taken away from the number
added : (L g t c : ℕ) → c < 2 → (q : List ℕ) → take_away c (bits_of L g) (take_away 1 (bits_of L t) q) ≡ take_away 1 (bits_of L (t ⊕ c * g)) q
unfolding take_away bits_of
added zero g t c h q = refl
added (suc n) g t c h [] = refl
added (suc n) g t c h (y ∷ q) =
    ap₂ ◌∷◌ (simp (one-mul, bit_added c g t n h) (xor_assoc y (t / 2 ^ n % 2) (c * (g / 2 ^ n % 2)))) (added n g t c h q)

-- one step of the division is one step of the register
step : (n g s b : ℕ) (q : List ℕ) → b < 2 → s < 2 ^ suc n
    → take_away (b ⊕ 1 * (s / 2 ^ n % 2)) (bits_of (suc n) g) (take_away 1 (bits_of n s) q) ≡ take_away 1 (bits_of (suc n) (crc_step (suc n) g s b)) q
step n g s b q hb hs =
    ap (take_away top (bits_of (suc n) g)) (shifted n s q)
    ∙ added (suc n) g (s * 2) top (xor_lt 1 b (1 * (s / 2 ^ n % 2)) hb (omega arith)) q
    ∙ ap (λ (l : List ℕ). take_away 1 l q) (sym (rw (crc_step_is n g s b refl, ← same) (bits_of_mod (suc n) (s * 2 ⊕ top * g))))
  where
    top : ℕ
    top = b ⊕ 1 * (s / 2 ^ n % 2)

    same : top ≡ s / 2 ^ n ⊕ b
    same = rw (one-mul, mod-eq_of_lt (top_lt n refl hs)) (xor_comm b (s / 2 ^ n))

-- division with s added to the front leaves the register after a, begun at s, added to p
register : (L g : ℕ) (a p : List ℕ) (s : ℕ) → AreBits a → s < 2 ^ L
    → divide (length a) (bits_of L g) (take_away 1 (bits_of L s) (a ++ p)) ≡ take_away 1 (bits_of L (crc_from L g s a)) p
unfolding take_away divide bits_of crc_from
register L g [] p s ha hs = refl
register zero g (b ∷ a) p s ha hs = register zero g a p (crc_step zero g s b) (λ i. ha (suc i)) (crc_step_lt zero g s b)
register (suc n) g (b ∷ a) p s ha hs =
    ap (divide (length a) (bits_of (suc n) g)) (step n g s b (a ++ p) (ha 0) hs)
    ∙ register (suc n) g a p (crc_step (suc n) g s b) (λ i. ha (suc i)) (crc_step_lt (suc n) g s b)

-- zero added changes nothing
none : (n : ℕ) (q : List ℕ) → take_away 1 (bits_of n 0) q ≡ q
unfolding take_away bits_of
none zero q = refl
none (suc n) [] = refl
none (suc n) (y ∷ q) = ap₂ ◌∷◌ (rw (zero-div, xor_zero_r)) (none n q)

-- what is left of data bits a and check bits p: the register after a, added to p
pub remainder : (L g : ℕ) (a p : List ℕ) → AreBits a → divide (length a) (bits_of L g) (a ++ p) ≡ take_away 1 (check_bits L g a) p
unfolding crc check_bits
remainder L g a p ha = ap (divide (length a) (bits_of L g)) (sym (none L (a ++ p))) ∙ register L g a p 0 ha (pow_pos L)

-- adding x leaves zeros in x itself, and in no other list
same_added : (x : List ℕ) → take_away 1 x x ≡ replicate (length x) 0
unfolding take_away
same_added [] = refl
same_added (y ∷ x) = ap₂ ◌∷◌ (rw (one-mul, xor_self)) (same_added x)

only_added : (x p : List ℕ) → take_away 1 x p ≡ replicate (length x) 0 → p ≡ x
unfolding take_away
only_added [] p e = e
only_added (y ∷ x) [] e = cc
only_added (y ∷ x) (z ∷ p) e =
    let head : z ⊕ 1 * y ≡ 0 = cc in
    let tail : take_away 1 x p ≡ replicate (length x) 0 = cc in
    ap₂ ◌∷◌ (xor_same z y (rw one-mul at head)) (only_added x p tail)

-- the generators are the polynomials that the clause writes out
pub generators : (g_crc24a ≡ of_powers powers_crc24a) × (g_crc24b ≡ of_powers powers_crc24b) × (g_crc16 ≡ of_powers powers_crc16)
unfolding of_powers
generators = (refl, refl, refl)

-- clause 5.1.1: data bits a with p after them leave remainder 0 where p is their check bits, and nowhere else
pub meaning : (L g : ℕ) (a p : List ℕ) → AreBits a → (LeavesNothing (bits_of L g) a p ↔ (p ≡ check_bits L g a))
meaning L g a p ha = (
  λ e. only_added (check_bits L g a) p (sym (remainder L g a p ha) ∙ e ∙ as_long),
  λ e. remainder L g a p ha ∙ ap (take_away 1 (check_bits L g a)) e ∙ same_added (check_bits L g a) ∙ sym as_long,
)
  where
    as_long : replicate {A = ℕ} (length (bits_of L g)) 0 ≡ replicate (length (check_bits L g a)) 0
    as_long = rw (length_bits_of, length_check_bits)
