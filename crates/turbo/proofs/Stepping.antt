-- Eight steps of a constituent encoder at once: the register's bytes with those that enter above them are one number W, in which a step
-- is a shift by a byte, and the input and the output are sums of its shifts.
-- Assumes nothing.
use mathlib.Core.Path.{◌≡◌, refl, sym, ◌∙◌, ap, ap₂}
use mathlib.Core.List.{List, ◌∷◌}
use Prim.Native.Nat.{ℕ, zero, suc, ◌+◌, ◌*◌, ◌/◌, ◌%◌, ◌^◌, ◌<◌}
use native.Mathlib.Nat.{add_comm, div-one, mod-eq_of_lt}
use native.Mathlib.Omega.{arith}
use lib.Bits.{xor_mod, xor_shr, xor_self, xor_zero_r, xor_shifted}
use lib.Pow.{shr-shr, high}
use Rattle.laws.specs.Bits.{◌⊕◌}
use Rattle.laws.proofs.Bits.{xor_assoc, xor_cancel, xor_medial}
use Rattle.turbo.specs.declared.Registers.{Registers}
use Rattle.turbo.specs.Encoder.{feedback, entering, parity, next, parities, after}
use Rattle.turbo.specs.inner.Eight.{bytes_of, registers_of, shl, times}
use Rattle.turbo.proofs.Bytes.{bytes_of_mod}

-- ---- a step

-- with a for what enters: c = a + D²a + D³a and z = a + Da + D³a
unfoldable input : ℕ → ℕ
input W = W / 2 ^ 24 ⊕ (W / 2 ^ 8 ⊕ W)

unfoldable output : ℕ → ℕ
output W = W / 2 ^ 24 ⊕ W / 2 ^ 16 ⊕ W

-- a step later
later : (W j : ℕ) → W / 2 ^ j / 2 ^ 8 ≡ W / 2 ^ 8 / 2 ^ j
later W j = shr-shr W j 8 ∙ ap (λ (k : ℕ). W / 2 ^ k) (add_comm j 8) ∙ sym (shr-shr W 8 j)

input_later : (W : ℕ) → input W / 2 ^ 8 ≡ input (W / 2 ^ 8)
unfolding input
input_later W = xor_shr (W / 2 ^ 24) (W / 2 ^ 8 ⊕ W) 8 ∙ ap₂ ◌⊕◌ (later W 24) (xor_shr (W / 2 ^ 8) W 8)

output_later : (W : ℕ) → output W / 2 ^ 8 ≡ output (W / 2 ^ 8)
unfolding output
output_later W = xor_shr (W / 2 ^ 24 ⊕ W / 2 ^ 16) W 8 ∙ ap (λ (x : ℕ). x ⊕ W / 2 ^ 8) (xor_shr (W / 2 ^ 24) (W / 2 ^ 16) 8 ∙ ap₂ ◌⊕◌ (later W 24) (later W 16))

enters : (W : ℕ) → entering (registers_of W) (input W % 2 ^ 8) ≡ W / 2 ^ 24 % 2 ^ 8
unfolding input entering feedback registers_of
enters W =
    ap (λ (x : ℕ). x ⊕ (W / 2 ^ 8 % 2 ^ 8 ⊕ W % 2 ^ 8)) (xor_mod (W / 2 ^ 24) (W / 2 ^ 8 ⊕ W) 8 ∙ ap (λ (x : ℕ). W / 2 ^ 24 % 2 ^ 8 ⊕ x) (xor_mod (W / 2 ^ 8) W 8))
    ∙ back (W / 2 ^ 24 % 2 ^ 8) (W / 2 ^ 8 % 2 ^ 8 ⊕ W % 2 ^ 8)
  where
    back : (a b : ℕ) → a ⊕ b ⊕ b ≡ a
    back a b = xor_assoc a b b ∙ ap (λ (x : ℕ). a ⊕ x) (xor_self b) ∙ xor_zero_r a

leaves : (W : ℕ) → parity (registers_of W) (input W % 2 ^ 8) ≡ output W % 2 ^ 8
unfolding output parity registers_of
leaves W =
    ap (λ (x : ℕ). x ⊕ W / 2 ^ 16 % 2 ^ 8 ⊕ W % 2 ^ 8) (enters W)
    ∙ sym (xor_mod (W / 2 ^ 24 ⊕ W / 2 ^ 16) W 8 ∙ ap (λ (x : ℕ). x ⊕ W % 2 ^ 8) (xor_mod (W / 2 ^ 24) (W / 2 ^ 16) 8))

moves : (W : ℕ) → next (registers_of W) (input W % 2 ^ 8) ≡ registers_of (W / 2 ^ 8)
unfolding next registers_of
moves W =
    ap (λ (x : ℕ). record { d1 = x; d2 = W / 2 ^ 16 % 2 ^ 8; d3 = W / 2 ^ 8 % 2 ^ 8 }) (enters W)
    ∙ rw (shr-shr W 8 16, shr-shr W 8 8)

-- ---- n steps

steps_outputs : (n W : ℕ) → parities (registers_of W) (bytes_of n (input W)) ≡ bytes_of n (output W)
unfolding parities bytes_of
steps_outputs zero W = refl
steps_outputs (suc n) W =
    ap₂ ◌∷◌ (leaves W)
    (ap₂ (λ (s : Registers) (x : ℕ). parities s (bytes_of n x)) (moves W) (input_later W) ∙ steps_outputs n (W / 2 ^ 8) ∙ ap (bytes_of n) (sym (output_later W)))

steps_after : (n W : ℕ) → after (registers_of W) (bytes_of n (input W)) ≡ registers_of (W / 2 ^ (n * 8))
unfolding after bytes_of
steps_after zero W = ap registers_of (sym (div-one W))
steps_after (suc n) W =
    ap₂ (λ (s : Registers) (x : ℕ). after s (bytes_of n x)) (moves W) (input_later W) ∙ steps_after n (W / 2 ^ 8)
    ∙ ap registers_of (shr-shr W 8 (n * 8) ∙ ap (λ (k : ℕ). W / 2 ^ k) more)
  where
    more : 8 + n * 8 ≡ suc n * 8
    more = omega arith

-- ---- eight steps in words of 64 bits

regrouped : (a b d c u v : ℕ) → a ⊕ b ⊕ d ≡ c ⊕ u ⊕ v → a ⊕ ((b ⊕ v) ⊕ (d ⊕ u)) ≡ c
regrouped a b d c u v e =
    ap (λ (x : ℕ). a ⊕ x) (xor_medial b v d u) ∙ sym (xor_assoc a (b ⊕ d) (v ⊕ u))
    ∙ ap (λ (x : ℕ). x ⊕ (v ⊕ u)) (sym (xor_assoc a b d) ∙ e)
    ∙ xor_assoc (c ⊕ u) v (v ⊕ u) ∙ ap (λ (x : ℕ). c ⊕ u ⊕ x) (xor_cancel v u) ∙ xor_assoc c u u ∙ ap (λ (x : ℕ). c ⊕ x) (xor_self u) ∙ xor_zero_r c

-- the register's bytes u, and a above them
module _ (u a : ℕ) (hu : u < 2 ^ 24) (ha : a < 2 ^ 64) where
  abbrev both : ℕ
  both = a * 2 ^ 24 + u

  held : registers_of both ≡ registers_of u
  unfolding registers_of
  held =
      let e1 : both / 2 ^ 16 % 2 ^ 8 ≡ u / 2 ^ 16 % 2 ^ 8 = omega arith in
      let e2 : both / 2 ^ 8 % 2 ^ 8 ≡ u / 2 ^ 8 % 2 ^ 8 = omega arith in
      let e3 : both % 2 ^ 8 ≡ u % 2 ^ 8 = omega arith in
      cc

  above : (k v : ℕ) → v < 2 ^ k → v < 2 ^ 64 → (a * 2 ^ k + v) % 2 ^ 64 ≡ shl k a ⊕ v
  unfolding shl
  above k v h l = ap (λ (n : ℕ). n % 2 ^ 64) (sym (xor_shifted a k v h)) ∙ xor_mod (a * 2 ^ k) v 64 ∙ ap (λ (y : ℕ). a * 2 ^ k % 2 ^ 64 ⊕ y) (mod-eq_of_lt l)

  three_back : both % 2 ^ 64 ≡ shl 24 a ⊕ u
  three_back = above 24 u hu (omega arith)

  two_back : both / 2 ^ 8 % 2 ^ 64 ≡ shl 16 a ⊕ u / 2 ^ 8
  two_back =
      let e : both / 2 ^ 8 ≡ a * 2 ^ 16 + u / 2 ^ 8 = omega arith in
      ap (λ (n : ℕ). n % 2 ^ 64) e ∙ above 16 (u / 2 ^ 8) (omega arith) (omega arith)

  one_back : both / 2 ^ 16 % 2 ^ 64 ≡ shl 8 a ⊕ u / 2 ^ 16
  one_back =
      let e : both / 2 ^ 16 ≡ a * 2 ^ 8 + u / 2 ^ 16 = omega arith in
      ap (λ (n : ℕ). n % 2 ^ 64) e ∙ above 8 (u / 2 ^ 16) (omega arith) (omega arith)

  entering_now : both / 2 ^ 24 % 2 ^ 64 ≡ a
  entering_now = ap (λ (n : ℕ). n % 2 ^ 64) (high a 24 hu) ∙ mod-eq_of_lt ha

  module _ (c : ℕ) {bits : List ℕ} (e : times 16 24 a ≡ c ⊕ u ⊕ u / 2 ^ 8) (word : bytes_of 8 c ≡ bits) where
    input_is : bits ≡ bytes_of 8 (input both)
    unfolding input times
    input_is = sym word ∙ ap (bytes_of 8) (sym told) ∙ bytes_of_mod 8 (input both)
      where
        told : input both % 2 ^ 64 ≡ c
        told =
            xor_mod (both / 2 ^ 24) (both / 2 ^ 8 ⊕ both) 64
            ∙ ap₂ ◌⊕◌ entering_now (xor_mod (both / 2 ^ 8) both 64 ∙ ap₂ ◌⊕◌ two_back three_back) ∙ regrouped a (shl 16 a) (shl 24 a) c u (u / 2 ^ 8) e

    pub eight_outputs : parities (registers_of u) bits ≡ bytes_of 8 (a ⊕ (shl 8 a ⊕ u / 2 ^ 16) ⊕ (shl 24 a ⊕ u))
    unfolding output
    eight_outputs =
        ap₂ parities (sym held) input_is ∙ steps_outputs 8 both ∙ sym (bytes_of_mod 8 (output both))
        ∙ ap (bytes_of 8)
        (xor_mod (both / 2 ^ 24 ⊕ both / 2 ^ 16) both 64
        ∙ ap₂ ◌⊕◌ (xor_mod (both / 2 ^ 24) (both / 2 ^ 16) 64 ∙ ap₂ ◌⊕◌ entering_now one_back) three_back)

    pub eight_after : after (registers_of u) bits ≡ registers_of (a / 2 ^ 40)
    eight_after =
        ap₂ after (sym held) input_is ∙ steps_after 8 both
        ∙ ap registers_of (sym (shr-shr both 24 40) ∙ ap (λ (n : ℕ). n / 2 ^ 40) (high a 24 hu))
