-- The distance that the bit planes give is the cost of the block, place by place: digit by digit from the highest.
-- Assumes nothing.
use mathlib.Core.Path.{◌≡◌, refl, sym, ◌∙◌, ap, ap₂}
use mathlib.Core.Bool.{Bool, true, false}
use mathlib.Core.List.{List, [], ◌∷◌}
use Prim.Native.Nat.{ℕ, zero, suc, ◌+◌, ◌-◌, ◌*◌, ◌/◌, ◌%◌, ◌^◌, ◌≤◌, ◌<◌}
use native.Mathlib.Nat.{not-suc-le-zero, le_of_suc-le-suc, lt_of_le_of_lt, div-eq_of_lt, pow-suc}
use native.Mathlib.Numerals.{add-one}
use native.Mathlib.Omega.{arith}
use lib.Dec.{leb, lit<}
use lib.Pow.{pow_mono, shr-shr}
use lib.Bits.{bit_and, bit_xor, and_le_r, xor_lt}
use lib.Count.{ones, ones-le, count_leading_zeros, leading_length}
use lib.ListN.{length, get_or}
use borrow.Author.Tests.{leb-true, leb-false}
use Rattle.laws.specs.Bits.{AreBits, EachBelow}
use Rattle.laws.specs.Lists.{tab}
use Rattle.laws.proofs.Tab.{tab_of}
use Rattle.report_code.specs.Code.{shared}
use Rattle.report_code.specs.Words.{number_of}
use Rattle.report_code.specs.inner.Counts.{inverted, cost, digits, plane, plane_distance}
use Rattle.report_code.proofs.Words.{ones_shared, shared_comm, number_inverted, inverted_bits}

-- each count without its p lowest digits
unfoldable shifted : List ℕ → ℕ → List ℕ
shifted [] p = []
shifted (x ∷ xs) p = (x / 2 ^ p) ∷ shifted xs p

halves : (x p : ℕ) → x / 2 ^ suc p ≡ x / 2 ^ p / 2
halves x p = ap (λ (k : ℕ). x / 2 ^ k) (sym (add-one p)) ∙ sym (shr-shr x p 1)

-- one digit more
shared_shifted : (w cs : List ℕ) (p : ℕ) → shared w (shifted cs p) ≡ 2 * shared w (shifted cs (suc p)) + shared w (digits cs p)
unfolding shared shifted digits
shared_shifted [] cs p = refl
shared_shifted (z ∷ w) [] p = refl
shared_shifted (z ∷ w) (x ∷ cs) p =
    more (z * (x / 2 ^ p)) (z * (x / 2 ^ suc p)) (z * (x / 2 ^ p % 2)) (shared w (shifted cs p)) (shared w (shifted cs (suc p))) (shared w (digits cs p))
    product
    (shared_shifted w cs p)
  where
    parts : (q h : ℕ) → h ≡ q / 2 → q ≡ 2 * h + q % 2
    parts q h e = omega arith

    product : z * (x / 2 ^ p) ≡ 2 * (z * (x / 2 ^ suc p)) + z * (x / 2 ^ p % 2)
    product = ap (λ (n : ℕ). z * n) (parts (x / 2 ^ p) (x / 2 ^ suc p) (halves x p)) ∙ omega arith

    more : (a b d s t u : ℕ) → a ≡ 2 * b + d → s ≡ 2 * t + u → a + s ≡ 2 * (b + t) + (d + u)
    more a b d s t u e f = omega arith

shifted_none : (w cs : List ℕ) → shared w (shifted cs 0) ≡ shared w cs
unfolding shared shifted
shifted_none [] cs = refl
shifted_none (z ∷ w) [] = refl
shifted_none (z ∷ w) (x ∷ cs) = ap₂ (λ (a b : ℕ). z * a + b) (whole x) (shifted_none w cs)
  where
    whole : (x : ℕ) → x / 2 ^ 0 ≡ x
    whole x = omega arith

shifted_all : (w cs : List ℕ) (n : ℕ) → EachBelow (2 ^ n) cs → shared w (shifted cs n) ≡ 0
unfolding shared shifted
shifted_all [] cs n h = refl
shifted_all (z ∷ w) [] n h = refl
shifted_all (z ∷ w) (x ∷ cs) n h =
    let none : x / 2 ^ n ≡ 0 = div-eq_of_lt (h 0) in
    let rest : shared w (shifted cs n) ≡ 0 = shifted_all w cs n (λ i. h (suc i)) in
    ap₂ (λ (a b : ℕ). z * a + b) none rest ∙ omega arith

pub digits_bits : (cs : List ℕ) (p : ℕ) → AreBits (digits cs p)
unfolding digits
digits_bits [] p i = lit< tt
digits_bits (x ∷ cs) p zero = omega arith
digits_bits (x ∷ cs) p (suc i) = digits_bits cs p i

-- ---- the planes

module _ (b os zs os' zs' : List ℕ) (n : ℕ) (long : length b ≡ 32) (bits : AreBits b)
    (o : (p : ℕ) → p < n → get_or os' p 0 ≡ plane os p) (z : (p : ℕ) → p < n → get_or zs' p 0 ≡ plane zs p) where
  turned : bit_xor (number_of b) 4294967295 ≡ number_of (inverted b)
  turned = ap (λ (k : ℕ). bit_xor (number_of b) (2 ^ k - 1)) (sym long) ∙ number_inverted b bits

  plane_ones : (w cs : List ℕ) → AreBits w → (p v : ℕ) → v ≡ plane cs p → ones (bit_and v (number_of w)) ≡ shared w (digits cs p)
  unfolding plane
  plane_ones w cs h p v e = ap (λ (k : ℕ). ones (bit_and k (number_of w))) e ∙ ones_shared (digits cs p) w (digits_bits cs p) h ∙ shared_comm (digits cs p) w

  from : (p above : ℕ) → p ≤ n → above ≡ shared b (shifted zs p) + shared (inverted b) (shifted os p)
      → plane_distance (number_of b) os' zs' p above ≡ cost b os zs
  unfolding plane_distance cost
  from zero above h e = e ∙ ap₂ (λ (x y : ℕ). x + y) (shifted_none b zs) (shifted_none (inverted b) os)
  from (suc p) above h e =
      from p _ (omega arith)
      (next above (ones (bit_and (get_or zs' p 0) (number_of b))) (ones (bit_and (get_or os' p 0) (bit_xor (number_of b) 4294967295)))
      e
      (plane_ones b zs bits p (get_or zs' p 0) (z p (omega arith)))
      (ap (λ (k : ℕ). ones (bit_and (get_or os' p 0) k)) turned ∙ plane_ones (inverted b) os (inverted_bits b) p (get_or os' p 0) (o p (omega arith))))
    where
      next : (above u v : ℕ) → above ≡ shared b (shifted zs (suc p)) + shared (inverted b) (shifted os (suc p)) → u ≡ shared b (digits zs p)
          → v ≡ shared (inverted b) (digits os p) → 2 * above + u + v ≡ shared b (shifted zs p) + shared (inverted b) (shifted os p)
      next above u v e f g = omega (arith, shared_shifted b zs p, shared_shifted (inverted b) os p)

  -- the count of ones by planes is the count place by place
  pub plane_distance_lem : EachBelow (2 ^ n) os → EachBelow (2 ^ n) zs → plane_distance (number_of b) os' zs' n 0 ≡ cost b os zs
  plane_distance_lem few less =
      from n 0 (omega arith) (omega (arith, shifted_all b zs n less, shifted_all (inverted b) os n few))

-- ---- one plane more

ones_few : (x w : ℕ) → w < 4294967296 → ones (bit_and x w) ≤ 32
ones_few x w h = ones-le 32 (bit_and x w) (lt_of_le_of_lt (and_le_r x w) h)

module _ (word : ℕ) (os zs : List ℕ) (count p above : ℕ) (fits : word < 4294967296) (few : count ≤ 10) (more : 0 < p) (within : p ≤ count)
    (bound : above + 64 ≤ 64 * 2 ^ (count - p)) where
  pub heard_zeros_lem : ones (bit_and (get_or zs (p - 1) 0) word) ≤ 32
  heard_zeros_lem = ones_few (get_or zs (p - 1) 0) word fits

  pub heard_ones_lem : ones (bit_and (get_or os (p - 1) 0) (bit_xor word 4294967295)) ≤ 32
  heard_ones_lem = ones_few (get_or os (p - 1) 0) (bit_xor word 4294967295) (xor_lt 32 word 4294967295 fits (lit< tt))

  pub above_small : above ≤ 65536
  above_small = let most : 2 ^ (count - p) ≤ 1024 = pow_mono {i = count - p} {j = 10} (omega arith) in omega arith

  pub above_more : 2 * above + ones (bit_and (get_or zs (p - 1) 0) word) + ones (bit_and (get_or os (p - 1) 0) (bit_xor word 4294967295)) + 64
      ≤ 64 * 2 ^ (count - (p - 1))
  above_more =
      let one : count - (p - 1) ≡ suc (count - p) = omega arith in
      rw (one, pow-suc 2 (count - p)) (double above (ones (bit_and (get_or zs (p - 1) 0) word)) (ones (bit_and (get_or os (p - 1) 0) (bit_xor word 4294967295))) (2 ^ (count - p)) heard_zeros_lem heard_ones_lem bound)
    where
      double : (a u v k : ℕ) → u ≤ 32 → v ≤ 32 → a + 64 ≤ 64 * k → 2 * a + u + v + 64 ≤ 64 * (k * 2)
      double a u v k hu hv h = omega arith

pub plane_step : (word : ℕ) (os zs : List ℕ) (p above : ℕ) → 0 < p
    → plane_distance word os zs (p - 1) (2 * above + ones (bit_and (get_or zs (p - 1) 0) word) + ones (bit_and (get_or os (p - 1) 0) (bit_xor word 4294967295)))
    ≡ plane_distance word os zs p above
unfolding plane_distance
plane_step word os zs zero above h = absurd (omega arith)
plane_step word os zs (suc p) above h = let less : suc p - 1 ≡ p = omega arith in rw less refl

-- ---- digits place by place

unfoldable pub digit_at : List ℕ → ℕ → ℕ → ℕ
digit_at cs p i = get_or cs i 0 / 2 ^ p % 2

pub length_digits : (cs : List ℕ) (p : ℕ) → length (digits cs p) ≡ length cs
unfolding digits
length_digits [] p = refl
length_digits (x ∷ cs) p = ap suc (length_digits cs p)

pub digits_tab : (cs : List ℕ) (p n : ℕ) → length cs ≡ n → digits cs p ≡ tab n (digit_at cs p)
unfolding digit_at digits
digits_tab cs p n l = tab_of (digits cs p) n (digit_at cs p) (length_digits cs p ∙ l) (λ i h. each cs i (omega arith))
  where
    each : (cs : List ℕ) (i : ℕ) → i < length cs → get_or (digits cs p) i 0 ≡ get_or cs i 0 / 2 ^ p % 2
    each [] i h = absurd (not-suc-le-zero h)
    each (x ∷ cs) zero h = refl
    each (x ∷ cs) (suc i) h = each cs i (le_of_suc-le-suc h)

-- ---- as many planes as the largest count has digits

pub plane_count : (turns : ℕ) → turns ≤ 512 → (32 - count_leading_zeros 32 turns ≤ 10) × (turns < 2 ^ (32 - count_leading_zeros 32 turns))
plane_count turns h =
    let found = leading_length 32 turns (omega arith) in
    let same : found.0 ≡ 32 - count_leading_zeros 32 turns = omega (arith, found.1) in
    (rw (← same) (short found.0 (leb found.0 10) refl found.3), rw (← same) found.2)
  where
    short : (m : ℕ) (t : Bool) → leb m 10 ≡ t → 2 ^ m ≤ 2 * turns + 1 → m ≤ 10
    short m true e l = leb-true m 10 e
    short m false e l = let long : 2 ^ 11 ≤ 2 ^ m = pow_mono {i = 11} {j = m} (omega (arith, leb-false m 10 e)) in absurd (omega arith)
