-- Places of which none is above 3, 02 E7: that none is, by the largest; and the byte of four of them by one product.
-- Assumes nothing.
use mathlib.Core.Path.{◌≡◌, ◌∙◌, ap}
use mathlib.Core.List.{List}
use Prim.Native.Nat.{ℕ, ◌+◌, ◌*◌, ◌/◌, ◌%◌, ◌≤◌, ◌<◌}
use native.Mathlib.Decide.{dec_lt}
use native.Mathlib.Omega.{arith}
use lib.Dec.{lit<}
use lib.ListN.{length, get_or, get_or-eq_default}
use Rattle.laws.specs.Bits.{EachBelow}
use Rattle.packing.specs.Packing.{four_in}
use Rattle.packing.proofs.Places.{two_bits_keep}

-- ---- the largest

-- no place before i is above m
abbrev pub NoneAbove : List ℕ → ℕ → ℕ → Type 0
NoneAbove places m i = (k : ℕ) → k < i → get_or places k 0 ≤ m

pub above_next : (places : List ℕ) {m i r : ℕ} → NoneAbove places m i → m ≤ r → get_or places i 0 ≤ r → NoneAbove places r (i + 1)
above_next places {m} {i} {r} w h l k g = elim (dec_lt k i) [
  | yes b ↦ omega (arith, w k b)
  | no b ↦ let is : k ≡ i = omega arith in rw is l
]

pub above_none : (places : List ℕ) {m i : ℕ} → NoneAbove places m i → length places ≤ i → m ≤ 3 → EachBelow 4 places
above_none places {m} {i} w h l k = elim (dec_lt k (length places)) [
  | yes b ↦ omega (arith, w k (omega arith))
  | no b ↦ rw (get_or-eq_default places 0 {n = k} (omega arith)) (lit< tt)
]

-- ---- four of them

-- the four places come side by side
product : (a b c d : ℕ) → a < 4 → b < 4 → c < 4 → d < 4 → (a + b * 256 + c * 65536 + d * 16777216) * 1074791425 / 16777216 % 256 ≡ a * 64 + b * 16 + c * 4 + d
product a b c d ha hb hc hd =
    ap (λ (n : ℕ). n / 16777216 % 256) apart
    ∙ ap (λ (n : ℕ). n % 256) (quotient (a * 1049601 + b * 262400 + c * 65536) (a * 64 + b * 16 + c * 4 + d + 256 * high) (omega arith))
    ∙ remainder (a * 64 + b * 16 + c * 4 + d) high (omega arith)
  where
    -- what stands above the byte
    high : ℕ
    high = b * 64 + c * 16400 + d * 4198404

    apart : (a + b * 256 + c * 65536 + d * 16777216) * 1074791425 ≡ a * 1049601 + b * 262400 + c * 65536 + 16777216 * (a * 64 + b * 16 + c * 4 + d + 256 * high)
    apart = omega arith

    quotient : (low q : ℕ) → low < 16777216 → (low + 16777216 * q) / 16777216 ≡ q
    quotient low q h = omega arith

    remainder : (y h : ℕ) → y < 256 → (y + 256 * h) % 256 ≡ y
    remainder y h l = omega arith

pub small_is : (a b c d : ℕ) → a < 4 → b < 4 → c < 4 → d < 4 → (a + b * 256 + c * 65536 + d * 16777216) * 1074791425 / 16777216 % 256 ≡ four_in a b c d
unfolding four_in
small_is a b c d ha hb hc hd = rw (two_bits_keep a ha, two_bits_keep b hb, two_bits_keep c hc, two_bits_keep d hd) (product a b c d ha hb hc hd)
