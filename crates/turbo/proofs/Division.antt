-- Division by g0 in a word of eight bytes: a factor squared is the factor with its shifts doubled, and shifts by the word's length leave nothing.
-- Assumes nothing.
use mathlib.Core.Path.{◌≡◌, sym, ◌∙◌, ap, ap₂}
use Prim.Native.Nat.{ℕ, ◌+◌, ◌*◌, ◌/◌, ◌%◌, ◌^◌}
use native.Mathlib.Nat.{add-zero, add_comm, mod-add-div', add-mul-mod_self_right, mul-mod_left}
use native.Mathlib.Omega.{arith}
use lib.Bits.{xor_block, xor_mod, xor_self, xor_zero_r}
use lib.Pow.{pow-add, pow_pos}
use Rattle.laws.specs.Bits.{◌⊕◌}
use Rattle.laws.proofs.Bits.{xor_assoc, xor_swap, xor_cancel}
use Rattle.turbo.specs.inner.Eight.{shl, times}

mod_times : (y c m : ℕ) → y % m * c % m ≡ y * c % m
mod_times y c m = sym (add-mul-mod_self_right (y % m * c) (y / m * c) m) ∙ ap (λ (n : ℕ). n % m) whole
  where
    whole : y % m * c + y / m * c * m ≡ y * c
    whole = omega (arith, ap (λ (n : ℕ). n * c) (mod-add-div' y m))

shl_shl : (j k w : ℕ) → shl k (shl j w) ≡ shl (j + k) w
unfolding shl
shl_shl j k w = mod_times (w * 2 ^ j) (2 ^ k) (2 ^ 64) ∙ rw (pow-add 2 j k) (ap (λ (n : ℕ). n % 2 ^ 64) (omega arith))

shl_xor : (k x y : ℕ) → shl k (x ⊕ y) ≡ shl k x ⊕ shl k y
unfolding shl
shl_xor k x y = ap (λ (n : ℕ). n % 2 ^ 64) (simp (add-zero, xor_self) at (sym (xor_block k x y 0 0 (pow_pos k) (pow_pos k)))) ∙ xor_mod (x * 2 ^ k) (y * 2 ^ k) 64

-- what comes twice is gone
cancelled : (w a b c p q : ℕ) → w ⊕ a ⊕ b ⊕ (a ⊕ p ⊕ c) ⊕ (b ⊕ c ⊕ q) ≡ w ⊕ p ⊕ q
cancelled w a b c p q =
    simp xor_assoc
    (rw (xor_swap b a (p ⊕ (c ⊕ (b ⊕ (c ⊕ q)))), xor_cancel a, xor_swap c b (c ⊕ q), xor_cancel c, xor_swap p b q, xor_cancel b))

-- (1 + D^p + D^q)² = 1 + D^2p + D^2q
pub squared : (p q w : ℕ) → times p q (times p q w) ≡ times (p + p) (q + q) w
unfolding times
squared p q w =
    ap₂ (λ (x y : ℕ). w ⊕ shl p w ⊕ shl q w ⊕ x ⊕ y) (spread p ∙ ap (λ (k : ℕ). shl p w ⊕ shl (p + p) w ⊕ shl k w) (add_comm q p)) (spread q)
    ∙ cancelled w (shl p w) (shl q w) (shl (p + q) w) (shl (p + p) w) (shl (q + q) w)
  where
    spread : (k : ℕ) → shl k (w ⊕ shl p w ⊕ shl q w) ≡ shl k w ⊕ shl (p + k) w ⊕ shl (q + k) w
    spread k =
        shl_xor k (w ⊕ shl p w) (shl q w)
        ∙ ap₂ ◌⊕◌ (shl_xor k w (shl p w) ∙ ap (λ (x : ℕ). shl k w ⊕ x) (shl_shl p k w)) (shl_shl q k w)

-- D⁸ is beyond the word
whole : (x : ℕ) → times 64 96 x ≡ x
unfolding times shl
whole x =
    ap₂ (λ (y z : ℕ). x ⊕ y ⊕ z) (mul-mod_left x (2 ^ 64)) (ap (λ (n : ℕ). n % 2 ^ 64) apart ∙ mul-mod_left (x * 2 ^ 32) (2 ^ 64))
    ∙ ap (λ (y : ℕ). y ⊕ 0) (xor_zero_r x) ∙ xor_zero_r x
  where
    apart : x * 2 ^ 96 ≡ x * 2 ^ 32 * 2 ^ 64
    apart = omega arith

-- x times g0 and times g0², times g0 again, is x: g0⁴ = 1 + D⁸ + D¹²
pub divided : (x : ℕ) → times 16 24 (times 32 48 (times 16 24 x)) ≡ x
divided x =
    ap (times 16 24) (sym (squared 16 24 (times 16 24 x)))
    ∙ squared 16 24 (times 16 24 (times 16 24 x))
    ∙ ap (times 32 48) (squared 16 24 x)
    ∙ squared 32 48 x
    ∙ whole x
