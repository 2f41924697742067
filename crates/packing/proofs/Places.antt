-- Laws of four places in a byte, 02 E7: what two bits keep is below 4, a byte gives its four places back, and four places that are below 4 give their byte back.
-- Assumes nothing.
use mathlib.Core.Path.{◌≡◌, refl, sym, ◌∙◌, ap, ap₂}
use mathlib.Core.Bool.{Bool, true, false, cond}
use mathlib.Core.List.{List}
use Prim.Native.Nat.{ℕ, zero, suc, ◌+◌, ◌*◌, ◌/◌, ◌%◌, ◌≤◌, ◌<◌}
use native.Mathlib.Nat.{add-zero}
use native.Mathlib.Omega.{arith}
use lib.Dec.{eqb, eqb→eq, ltb}
use lib.Bits.{bit_and}
use lib.ListN.{get_or}
use borrow.Author.Tests.{ltb-false, le-ltb}
use Rattle.laws.specs.inner.Computed.{all_below}
use Rattle.laws.proofs.Computed.{all_below_at}
use Rattle.packing.specs.Packing.{in_two_bits, four_in, packed_at, standing_at, four_apart, place_in}

-- ---- one place

pub two_bits_lt : (x : ℕ) → in_two_bits x < 4
unfolding in_two_bits
two_bits_lt x = go (ltb 3 x) refl
  where
    go : (b : Bool) → ltb 3 x ≡ b → cond b 2 x < 4
    go true e = omega arith
    go false e = omega (arith, ltb-false 3 x e)

-- what is below 4 stays
pub two_bits_keep : (x : ℕ) → x < 4 → in_two_bits x ≡ x
unfolding in_two_bits
two_bits_keep x h = let low : x ≤ 3 = omega arith in simp (le-ltb 3 x low)

pub standing_lt : (k b : ℕ) → standing_at k b < 4
unfolding standing_at
standing_lt zero b = omega arith
standing_lt (suc zero) b = omega arith
standing_lt (suc (suc zero)) b = omega arith
standing_lt (suc (suc (suc k))) b = omega arith

pub place_lt : (bytes : List ℕ) (j : ℕ) → place_in bytes j < 4
unfolding place_in
place_lt bytes j = standing_lt (j % 4) (get_or bytes (j / 4) 0)

-- ---- the four places of a byte

-- place k of a byte is place 4·i + k of what was packed
pub standing_packed : (places : List ℕ) (i k : ℕ) → k < 4 → standing_at k (packed_at places i) ≡ in_two_bits (get_or places (4 * i + k) 0)
unfolding standing_at packed_at four_in
standing_packed places i k h = at (in_two_bits (get_or places (4 * i) 0)) (two_bits_lt _) (in_two_bits (get_or places (4 * i + 1) 0)) (two_bits_lt _)
    (in_two_bits (get_or places (4 * i + 2) 0)) (two_bits_lt _) (in_two_bits (get_or places (4 * i + 3) 0)) (two_bits_lt _) k h refl refl refl refl
  where
    at : (a : ℕ) → a < 4 → (b : ℕ) → b < 4 → (c : ℕ) → c < 4 → (d : ℕ) → d < 4 → (k : ℕ) → k < 4
        → a ≡ in_two_bits (get_or places (4 * i) 0) → b ≡ in_two_bits (get_or places (4 * i + 1) 0) → c ≡ in_two_bits (get_or places (4 * i + 2) 0) → d ≡ in_two_bits (get_or places (4 * i + 3) 0)
        → standing_at k (a * 64 + b * 16 + c * 4 + d) ≡ in_two_bits (get_or places (4 * i + k) 0)
    at a ha b hb c hc d hd zero h ea eb ec ed = first ∙ ea ∙ ap (λ (m : ℕ). in_two_bits (get_or places m 0)) (sym (add-zero (4 * i)))
      where
        first : (a * 64 + b * 16 + c * 4 + d) / 64 % 4 ≡ a
        first = omega arith
    at a ha b hb c hc d hd (suc zero) h ea eb ec ed = second ∙ eb
      where
        second : (a * 64 + b * 16 + c * 4 + d) / 16 % 4 ≡ b
        second = omega arith
    at a ha b hb c hc d hd (suc (suc zero)) h ea eb ec ed = third ∙ ec
      where
        third : (a * 64 + b * 16 + c * 4 + d) / 4 % 4 ≡ c
        third = omega arith
    at a ha b hb c hc d hd (suc (suc (suc k))) h ea eb ec ed = fourth ∙ ed ∙ ap (λ (m : ℕ). in_two_bits (get_or places (4 * i + m) 0)) last
      where
        fourth : (a * 64 + b * 16 + c * 4 + d) % 4 ≡ d
        fourth = omega arith

        last : 3 ≡ suc (suc (suc k))
        last = omega arith

-- place 4·i + k of a packed list is place k of its byte i
pub place_at : (bytes : List ℕ) (i k : ℕ) → k < 4 → place_in bytes (4 * i + k) ≡ standing_at k (get_or bytes i 0)
unfolding place_in
place_at bytes i k h = ap₂ (λ (m n : ℕ). standing_at m (get_or bytes n 0)) within byte
  where
    within : (4 * i + k) % 4 ≡ k
    within = omega arith

    byte : (4 * i + k) / 4 ≡ i
    byte = omega arith

-- a byte from its own four places, tested for each byte
back : ℕ → Bool
unfolding four_in standing_at in_two_bits
back b = eqb (four_in (standing_at 0 b) (standing_at 1 b) (standing_at 2 b) (standing_at 3 b)) b

pub four_of_byte : (b : ℕ) → b < 256 → four_in (standing_at 0 b) (standing_at 1 b) (standing_at 2 b) (standing_at 3 b) ≡ b
unfolding back all_below four_in standing_at in_two_bits
four_of_byte b h = eqb→eq (four_in (standing_at 0 b) (standing_at 1 b) (standing_at 2 b) (standing_at 3 b)) b (all_below_at back 256 tt b h)

-- the four places apart, each in a byte of a word, by one product and a mask, tested for each byte
parted : ℕ → Bool
unfolding four_apart standing_at
parted b = eqb (bit_and (b * 1074791425 / 64) 50529027) (four_apart b)

pub apart_is : (b : ℕ) → b < 256 → bit_and (b * 1074791425 / 64) 50529027 ≡ four_apart b
unfolding parted all_below four_apart standing_at
apart_is b h = eqb→eq (bit_and (b * 1074791425 / 64) 50529027) (four_apart b) (all_below_at parted 256 tt b h)

-- and each of its bytes is one of them
pub apart_bytes : (b : ℕ) → (four_apart b % 256 ≡ standing_at 0 b) × (four_apart b / 256 % 256 ≡ standing_at 1 b) × (four_apart b / 65536 % 256 ≡ standing_at 2 b) × (four_apart b / 16777216 % 256 ≡ standing_at 3 b)
unfolding four_apart
apart_bytes b = of (standing_at 0 b) (standing_at 1 b) (standing_at 2 b) (standing_at 3 b) (standing_lt 0 b) (standing_lt 1 b) (standing_lt 2 b) (standing_lt 3 b)
  where
    of : (p q r s : ℕ) → p < 4 → q < 4 → r < 4 → s < 4
        → let w : ℕ = p + 256 * q + 65536 * r + 16777216 * s in
        (w % 256 ≡ p) × (w / 256 % 256 ≡ q) × (w / 65536 % 256 ≡ r) × (w / 16777216 % 256 ≡ s)
    of p q r s hp hq hr hs = (omega arith, omega arith, omega arith, omega arith)
