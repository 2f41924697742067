-- The law of the quarters: as f2 is even, Π(i + u·K/4) lies u·f1 quarters ahead of Π(i), so the bits joined there hold those of all four places of i.
-- Assumes nothing.
use mathlib.Core.Path.{◌≡◌, sym, ◌∙◌, ap, ap₂}
use mathlib.Core.List.{List}
use Prim.Native.Nat.{ℕ, zero, suc, ◌+◌, ◌*◌, ◌/◌, ◌%◌, ◌^◌, ◌≤◌, ◌<◌}
use native.Mathlib.Nat.{add-mul-mod_self_left, add-zero, div-add-mod', mod-add-mod, mod-lt}
use native.Mathlib.Omega.{arith}
use lib.ListN.{length, get_or, take}
use lib.Seq.{length-take-le}
use Rattle.laws.specs.Bits.{AreBits}
use Rattle.laws.specs.Lists.{tab}
use Rattle.laws.proofs.Tab.{tab_ext, length_tab, get_or_tab, take_tab}
use Rattle.interleaver.specs.Place.{quadratic}
use Rattle.interleaver.specs.Into.{bit_by, bits_by}
use Rattle.interleaver.specs.inner.Quarters.{joined, on_from, four, fours, digit, spread_over, Quartered, Countable}

-- bit s of the joined bits at j is the bit s quarters on
pub digit_four : (c : List ℕ) → AreBits c → (j s : ℕ) → s < 4 → four c j / 2 ^ s % 2 ≡ get_or c (on_from (length c) j s) 0
unfolding four joined
digit_four c b j s h = go s h
  where
    bit : ℕ → ℕ
    bit u = get_or c (on_from (length c) j u + 0) 0

    low : (u : ℕ) → bit u < 2
    low u = b (on_from (length c) j u + 0)

    told : (u : ℕ) → bit u ≡ get_or c (on_from (length c) j u) 0
    told u = ap (λ (n : ℕ). get_or c n 0) (add-zero (on_from (length c) j u))

    go : (s : ℕ) → s < 4 → four c j / 2 ^ s % 2 ≡ get_or c (on_from (length c) j s) 0
    go zero h = omega (arith, low 0, low 1, low 2, low 3, told 0)
    go (suc zero) h = omega (arith, low 0, low 1, low 2, low 3, told 1)
    go (suc (suc zero)) h = omega (arith, low 0, low 1, low 2, low 3, told 2)
    go (suc (suc (suc zero))) h = omega (arith, low 0, low 1, low 2, low 3, told 3)
    go (suc (suc (suc (suc s)))) h = absurd (omega arith)

-- the sum in the formula at u quarters and i, with K = 8·m and f2 = 2·h
sum_on : (f1 h m u i s z : ℕ) → u * f1 ≡ s + 4 * z
    → f1 * (u * (2 * m) + i) + 2 * h * ((u * (2 * m) + i) * (u * (2 * m) + i))
    ≡ f1 * i + 2 * h * (i * i) + s * (2 * m) + 8 * m * (z + h * u * u * m + h * u * i)
sum_on f1 h m u i s z e = omega (arith, ap (λ (x : ℕ). x * (2 * m)) e)

sum_over : (K q f1 f2 h m u i : ℕ) → K ≡ 8 * m → q ≡ 2 * m → f2 ≡ 2 * h
    → (f1 * (u * q + i) + f2 * ((u * q + i) * (u * q + i))) % K ≡ ((f1 * i + f2 * (i * i)) % K + u * f1 % 4 * q) % K
sum_over K q f1 f2 h m u i eK eq ef =
    rw (eK, eq, ef)
    (ap (λ (n : ℕ). n % (8 * m)) (sum_on f1 h m u i (u * f1 % 4) (u * f1 / 4) (omega arith))
    ∙ add-mul-mod_self_left (f1 * i + 2 * h * (i * i) + u * f1 % 4 * (2 * m)) (8 * m) (u * f1 / 4 + h * u * u * m + h * u * i)
    ∙ sym (mod-add-mod (f1 * i + 2 * h * (i * i)) (8 * m) (u * f1 % 4 * (2 * m))))

pub quarter_on : (K f1 f2 u i : ℕ) → K % 8 ≡ 0 → f2 % 2 ≡ 0
    → quadratic K f1 f2 (u * (K / 4) + i) ≡ on_from K (quadratic K f1 f2 i) (u * f1 % 4)
unfolding quadratic on_from
quarter_on K f1 f2 u i eights even = sum_over K (K / 4) f1 f2 (f2 / 2) (K / 8) u i (omega arith) (omega arith) (omega arith)

length_fours : (c : List ℕ) → length (fours c) ≡ length c
unfolding fours
length_fours c = length_tab (length c) (four c)

-- the bits found, spread over the quarters, are the interleaved bits
spread_is : {c y out : List ℕ} {f1 f2 : ℕ} → Quartered c out → Countable (length c) f1 f2 → length c ≡ 4 * length y
    → y ≡ tab (length y) (bit_by (length c) f1 f2 (fours c)) → tab (4 * length y) (spread_over f1 y) ≡ bits_by (length c) f1 f2 c
unfolding bits_by spread_over digit bit_by fours quadratic
spread_is {c} {y} {out} {f1} {f2} r k e told = ap (λ (n : ℕ). tab n (spread_over f1 y)) (sym e) ∙ tab_ext (length c) (spread_over f1 y) (bit_by (length c) f1 f2 c) each
  where
    each : (n : ℕ) → n < length c → spread_over f1 y n ≡ bit_by (length c) f1 f2 c n
    each n h =
        ap (λ (x : ℕ). x / 2 ^ (u * f1 % 4) % 2) found
        ∙ digit_four c r.bits place (u * f1 % 4) (omega arith)
        ∙ ap (λ (p : ℕ). get_or c p 0) (sym (quarter_on (length c) f1 f2 u i r.eights k.f2_even))
        ∙ ap (λ (m : ℕ). get_or c (quadratic (length c) f1 f2 m) 0) whole
      where
        u : ℕ
        u = n / length y

        i : ℕ
        i = n % length y

        place : ℕ
        place = quadratic (length c) f1 f2 i

        inside : place < length c
        inside = mod-lt (f1 * i + f2 * (i * i)) r.some

        low : i < length y
        low = mod-lt n (omega arith)

        found : get_or y i 0 ≡ four c place
        found =
            ap (λ (l : List ℕ). get_or l i 0) told
            ∙ get_or_tab (length y) (bit_by (length c) f1 f2 (fours c)) i 0 low
            ∙ get_or_tab (length c) (four c) place 0 inside

        whole : u * (length c / 4) + i ≡ n
        whole = ap (λ (q : ℕ). u * q + i) quarter ∙ div-add-mod' n (length y)
          where
            quarter : length c / 4 ≡ length y
            quarter = omega arith

-- the same of the lists w and y, as they were left
module _ {c w out : List ℕ} {f1 f2 : ℕ} (r : Quartered c out) (k : Countable (length c) f1 f2) (joint : w ≡ fours c) where
  size : length w ≡ length c
  size = ap length joint ∙ length_fours c

  pub countable : Countable (length w) f1 f2
  countable = rw size k

  -- a quarter of them, of which some more may have been found
  pub found_spread : (n : ℕ) {y : List ℕ} → length c ≤ 4 * n → y ≡ tab n (bit_by (length w) f1 f2 w)
      → tab (4 * length (take (length c / 4) y)) (spread_over f1 (take (length c / 4) y)) ≡ bits_by (length c) f1 f2 c
  found_spread n {y} e s = spread_is r k (rw long (omega (arith, r.eights))) told
    where
      q : ℕ
      q = length c / 4

      quarter : take q y ≡ tab q (bit_by (length w) f1 f2 w)
      quarter = ap (take q) s ∙ take_tab q n (bit_by (length w) f1 f2 w) (omega arith)

      long : length (take q y) ≡ q
      long = ap length quarter ∙ length_tab q (bit_by (length w) f1 f2 w)

      told : take q y ≡ tab (length (take q y)) (bit_by (length c) f1 f2 (fours c))
      told =
          quarter
          ∙ ap (λ (l : List ℕ). tab q (bit_by (length l) f1 f2 l)) joint
          ∙ ap₂ (λ (m K : ℕ). tab m (bit_by K f1 f2 (fours c))) (sym long) (length_fours c)

  -- and that there are as many
  pub quarter_found : (n : ℕ) (y : List ℕ) → length c ≤ 4 * n → length y ≡ n → (length c / 4 ≤ length y) × (length c ≡ 4 * length (take (length c / 4) y))
  quarter_found n y e l = (omega arith, omega (arith, r.eights, length-take-le (length c / 4) y (omega arith)))
