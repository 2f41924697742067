-- Laws of the weight of a run: joined, in front, repeated; and differences as the weight of a sum.
-- Assumes nothing.
use mathlib.Core.Path.{◌≡◌, refl, sym, ◌∙◌, ap, ap₂}
use mathlib.Core.Bool.{Bool, true, false, cond}
use mathlib.Core.List.{List, [], ◌∷◌, ◌++◌}
use Prim.Native.Nat.{ℕ, zero, suc, ◌+◌, ◌*◌, ◌/◌, ◌%◌, ◌≤◌, ◌<◌}
use native.Mathlib.Nat.{not-suc-le-zero, le_of_suc-le-suc, suc-mul}
use native.Mathlib.Omega.{arith}
use lib.Dec.{eqb}
use lib.Bits.{bit_xor}
use lib.ListN.{length, get_or, take}
use lib.Seq.{take-length}
use borrow.Author.Tests.{eqb-true, eq-eqb}
use Rattle.laws.specs.Bits.{AreBits}
use Rattle.laws.specs.Lists.{tab, tab_from}
use Rattle.laws.proofs.Tab.{take_tab, tab_ext}
use Rattle.report_code.specs.Code.{circular, repeated}
use Rattle.report_code.specs.Words.{number_of}
use Rattle.report_code.specs.Nearest.{differences}
use Rattle.report_code.proofs.Words.{added}
use Rattle.report_code.proofs.Linear.{added_tab}
use Rattle.report_code.proofs.Folding.{turn_is, repeated_more}
use Rattle.report_strength.specs.Strength.{weight}

-- ---- fronts and joined runs

pub weight_append : (xs ys : List ℕ) → weight (xs ++ ys) ≡ weight xs + weight ys
unfolding weight
weight_append [] ys = omega arith
weight_append (x ∷ xs) ys = omega (arith, weight_append xs ys)

pub weight_front : (n : ℕ) (xs : List ℕ) → weight (take n xs) ≤ weight xs
unfolding weight
weight_front zero xs = omega arith
weight_front (suc n) [] = omega arith
weight_front (suc n) (x ∷ xs) = omega (arith, weight_front n xs)

pub weight_longer : (m n : ℕ) (xs : List ℕ) → m ≤ n → weight (take m xs) ≤ weight (take n xs)
unfolding weight
weight_longer zero n xs h = omega arith
weight_longer (suc m) zero xs h = absurd (not-suc-le-zero h)
weight_longer (suc m) (suc n) [] h = omega arith
weight_longer (suc m) (suc n) (x ∷ xs) h = omega (arith, weight_longer m n xs (le_of_suc-le-suc h))

-- ---- repeated

whole_turns : (b : List ℕ) (k : ℕ) → length b ≡ 32 → weight (repeated b (k * 32)) ≡ k * weight b
unfolding weight repeated tab tab_from
whole_turns b zero l = omega arith
whole_turns b (suc k) l =
    let more : suc k * 32 ≡ k * 32 + 32 = suc-mul k 32 in
    let front : take 32 b ≡ b = ap (λ (n : ℕ). take n b) (sym l) ∙ take-length b in
    ap (λ (n : ℕ). weight (repeated b n)) more
    ∙ ap weight (repeated_more b (k * 32) 32 l (omega arith) (omega arith))
    ∙ weight_append (repeated b (k * 32)) (take 32 b)
    ∙ ap₂ (λ (x y : ℕ). x + y) (whole_turns b k l) (ap weight front)
    ∙ sym (suc-mul k (weight b))

-- each whole turn brings the block's weight
pub repeated_weight : (b : List ℕ) (n : ℕ) → length b ≡ 32 → n / 32 * weight b ≤ weight (repeated b n)
repeated_weight b n l =
    let parts : n ≡ n / 32 * 32 + n % 32 = omega arith in
    let told : weight (repeated b n) ≡ n / 32 * weight b + weight (take (n % 32) b)
    = ap (λ (k : ℕ). weight (repeated b k)) parts
    ∙ ap weight (repeated_more b (n / 32 * 32) (n % 32) l (omega arith) (omega arith))
    ∙ weight_append (repeated b (n / 32 * 32)) (take (n % 32) b)
    ∙ ap (λ (k : ℕ). k + weight (take (n % 32) b)) (whole_turns b (n / 32) l) in
    omega arith

-- and the first turn its front
pub front_weight : (b : List ℕ) (f n : ℕ) → length b ≡ 32 → f ≤ 32 → f ≤ n → weight (take f b) ≤ weight (repeated b n)
unfolding repeated tab
front_weight b f n l h g =
    let same : take f (repeated b n) ≡ take f b = take_tab f n (circular b) g ∙ turn_is b 0 f l refl h in
    rw same at (weight_front f (repeated b n))

-- ---- differences

differ_is : (x y : ℕ) → x < 2 → y < 2 → cond (eqb x y) 0 1 ≡ bit_xor x y
differ_is zero zero h g = refl
differ_is zero (suc zero) h g = refl
differ_is (suc zero) zero h g = refl
differ_is (suc zero) (suc zero) h g = refl
differ_is (suc (suc x)) y h g = absurd (omega arith)
differ_is zero (suc (suc y)) h g = absurd (omega arith)
differ_is (suc zero) (suc (suc y)) h g = absurd (omega arith)

pub differences_weight : (xs ys : List ℕ) → length xs ≡ length ys → AreBits xs → AreBits ys → differences xs ys ≡ weight (added xs ys)
unfolding differences weight added
differences_weight [] [] e h g = refl
differences_weight [] (y ∷ ys) e h g = absurd (omega arith)
differences_weight (x ∷ xs) [] e h g = absurd (omega arith)
differences_weight (x ∷ xs) (y ∷ ys) e h g =
    ap₂ (λ (a b : ℕ). a + b) (differ_is x y (h 0) (g 0)) (differences_weight xs ys (omega arith) (λ i. h (suc i)) (λ i. g (suc i)))

pub differences_self : (xs : List ℕ) → differences xs xs ≡ 0
unfolding differences
differences_self [] = refl
differences_self (x ∷ xs) = ap₂ (λ (t : Bool) (n : ℕ). cond t 0 1 + n) (eq-eqb x x refl) (differences_self xs)

-- the way round by a third run is no shorter
pub triangle : (c xs ys : List ℕ) → length xs ≡ length c → length ys ≡ length c → differences xs ys ≤ differences c xs + differences c ys
unfolding differences
triangle [] [] [] e f = omega arith
triangle [] (x ∷ xs) ys e f = absurd (omega arith)
triangle [] [] (y ∷ ys) e f = absurd (omega arith)
triangle (z ∷ c) [] ys e f = absurd (omega arith)
triangle (z ∷ c) (x ∷ xs) [] e f = absurd (omega arith)
triangle (z ∷ c) (x ∷ xs) (y ∷ ys) e f =
    one (cond (eqb x y) 0 1) (cond (eqb z x) 0 1) (cond (eqb z y) 0 1) (differences xs ys) (differences c xs) (differences c ys)
    (go (eqb z x) (eqb z y) refl refl)
    (triangle c xs ys (omega arith) (omega arith))
  where
    at_most : (t : Bool) → cond {A = ℕ} t 0 1 ≤ 1
    at_most true = omega arith
    at_most false = omega arith

    go : (s t : Bool) → eqb z x ≡ s → eqb z y ≡ t → cond (eqb x y) 0 1 ≤ cond {A = ℕ} s 0 1 + cond {A = ℕ} t 0 1
    go true true p q = rw (eq-eqb x y (sym (eqb-true z x p) ∙ eqb-true z y q)) (omega arith)
    go true false p q = omega (arith, at_most (eqb x y))
    go false t p q = omega (arith, at_most (eqb x y))

    one : (k a b s p q : ℕ) → k ≤ a + b → s ≤ p + q → k + s ≤ a + p + (b + q)
    one k a b s p q h g = omega arith

-- ---- two repeated blocks

get_or_added : (xs ys : List ℕ) (i : ℕ) → length xs ≡ length ys → get_or (added xs ys) i 0 ≡ bit_xor (get_or xs i 0) (get_or ys i 0)
unfolding added
get_or_added [] [] i e = refl
get_or_added [] (y ∷ ys) i e = absurd (omega arith)
get_or_added (x ∷ xs) [] i e = absurd (omega arith)
get_or_added (x ∷ xs) (y ∷ ys) zero e = refl
get_or_added (x ∷ xs) (y ∷ ys) (suc i) e = get_or_added xs ys i (omega arith)

pub repeated_added : (u v : List ℕ) (n : ℕ) → length u ≡ length v → added (repeated u n) (repeated v n) ≡ repeated (added u v) n
unfolding repeated circular
repeated_added u v n e =
    added_tab n (circular u) (circular v)
    ∙ tab_ext n (λ (i : ℕ). bit_xor (circular u i) (circular v i)) (circular (added u v)) (λ i h. sym (get_or_added u v (i % 32) e))

-- ---- the weight by halving a word

unfoldable pub bits_sum : ℕ → ℕ → ℕ
bits_sum zero w = 0
bits_sum (suc n) w = w % 2 + bits_sum n (w / 2)

no_sum : (n : ℕ) → bits_sum n 0 ≡ 0
unfolding bits_sum
no_sum zero = refl
no_sum (suc n) = omega (arith, no_sum n)

pub bits_sum_lem : (n : ℕ) (xs : List ℕ) → AreBits xs → bits_sum n (number_of xs) ≡ weight (take n xs)
unfolding bits_sum number_of weight
bits_sum_lem zero xs h = refl
bits_sum_lem (suc n) [] h = omega (arith, no_sum n)
bits_sum_lem (suc n) (x ∷ xs) h =
    let bit = h 0 in
    let odd : (x + 2 * number_of xs) % 2 ≡ x = omega arith in
    let half : (x + 2 * number_of xs) / 2 ≡ number_of xs = omega arith in
    ap₂ (λ (a b : ℕ). a + bits_sum n b) odd half ∙ ap (λ (k : ℕ). x + k) (bits_sum_lem n xs (λ i. h (suc i)))
