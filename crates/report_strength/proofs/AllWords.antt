-- The words of all messages, tested once: from the highest set bit down, every word has the least weight of its length and a one among
-- its first bits. The words are sums of the eleven columns.
-- Assumes nothing.
use mathlib.Core.Path.{◌≡◌, refl, sym, ◌∙◌, ap, subst}
use mathlib.Core.Bool.{Bool, true, false, ◌&&◌, and-eq-true_iff}
use mathlib.Core.List.{List, [], ◌∷◌}
use Prim.Native.Nat.{ℕ, zero, suc, ◌+◌, ◌-◌, ◌*◌, ◌^◌, ◌≤◌, ◌<◌}
use native.Mathlib.Nat.{pow-suc}
use native.Mathlib.Omega.{arith}
use lib.Dec.{T, eqb, ltb, leb}
use lib.Bits.{bit_xor, xor_shifted, xor_zero_l, xor_zero_r}
use lib.ListN.{length, get_or, take}
use lib.Seq.{take-length}
use borrow.Author.Tests.{eqb-true, eqb-false, leb-true, ltb-true, ltb-false}
use Rattle.laws.specs.Bits.{AreBits}
use Rattle.laws.specs.inner.Computed.{all_below}
use Rattle.laws.specs.Lists.{tab, tab_from}
use Rattle.laws.proofs.Bits.{xor_assoc}
use Rattle.laws.proofs.Computed.{all_below_at, T_true}
use Rattle.report_code.specs.Basis.{basis, row}
use Rattle.report_code.specs.Code.{shared, coded_bit, block}
use Rattle.report_code.specs.Words.{number_of, message_bits, word_of}
use Rattle.report_code.proofs.Linear.{word_added, block_bits_lem, length_block, block_short}
use Rattle.report_strength.specs.Strength.{weight, least_weights, least_weight, fewest_table, fewest}
use Rattle.report_strength.proofs.Weights.{weight_longer, bits_sum, bits_sum_lem}

-- ---- the columns

-- the words of the messages 1, 2, 4, ..
unfoldable columns : List ℕ
columns = 4294967295 ∷ 1269147955 ∷ 2106658394 ∷ 1831220124 ∷ 1908917216 ∷ 2114976768 ∷ 1931316836 ∷ 1799681456 ∷ 2109872364 ∷ 1302443846 ∷ 1123090431 ∷ []

column_test : ℕ → Bool
column_test k = eqb (word_of (2 ^ k)) (get_or columns k 0)

column_is : (k : ℕ) → k < 11 → word_of (2 ^ k) ≡ get_or columns k 0
unfolding all_below column_test columns word_of number_of message_bits block tab tab_from coded_bit shared row basis
column_is k h = eqb-true (word_of (2 ^ k)) (get_or columns k 0) (T_true (column_test k) (all_below_at column_test 11 tt k h))

-- ---- all words

-- what is asked of the word of a message whose highest set bit is the `level`th, counted from 1
unfoldable asked : ℕ → ℕ → Bool
asked level w = leb (least_weight level) (bits_sum 32 w) && leb 1 (bits_sum (fewest level) w)

-- the words w + (a sum of the first k columns); level is 0 until a column is taken
unfoldable spread : ℕ → ℕ → ℕ → Bool
spread zero zero w = true
spread zero (suc level) w = asked (suc level) w
spread (suc k) zero w = spread k zero w && spread k (suc k) (bit_xor w (get_or columns k 0))
spread (suc k) (suc level) w = spread k (suc level) w && spread k (suc level) (bit_xor w (get_or columns k 0))

all_words : T (spread 11 0 0)
unfolding spread asked columns bits_sum least_weight least_weights fewest fewest_table
all_words = tt

-- fewer columns
fewer : (O K : ℕ) → O ≤ K → spread K 0 0 ≡ true → spread O 0 0 ≡ true
unfolding spread
fewer O zero h t = let none : O ≡ 0 = omega arith in rw none t
fewer O (suc K) h t = go (eqb O (suc K)) refl (λ l. fewer O K l ((and-eq-true_iff (spread K 0 0) (spread K (suc K) (bit_xor 0 (get_or columns K 0)))).0 t).0)
  where
    go : (b : Bool) → eqb O (suc K) ≡ b → (O ≤ K → spread O 0 0 ≡ true) → spread O 0 0 ≡ true
    go true e f = rw (eqb-true O (suc K) e) t
    go false e f = f (omega (arith, eqb-false O (suc K) e))

-- a message without its bit k, and with it
split_word : (k m : ℕ) → k < 11 → m < 2 ^ k → word_of (2 ^ k + m) ≡ bit_xor (get_or columns k 0) (word_of m)
split_word k m l h =
    let joined : bit_xor (2 ^ k) m ≡ 2 ^ k + m = ap (λ (x : ℕ). bit_xor x m) one ∙ xor_shifted 1 k m h ∙ ap (λ (x : ℕ). x + m) (sym one) in
    ap word_of (sym joined) ∙ word_added (2 ^ k) m ∙ ap (λ (x : ℕ). bit_xor x (word_of m)) (column_is k l)
  where
    one : 2 ^ k ≡ 1 * 2 ^ k
    one = omega arith

no_word : word_of 0 ≡ 0
unfolding word_of number_of message_bits block tab tab_from coded_bit shared row basis
no_word = refl

-- what the test tells of the word w + (word of m)
record Told (B w : ℕ) : Type 0 where
  level : ℕ
  some : 0 < level
  within : level ≤ B
  passes : asked level w ≡ true

-- m has its bit k
with_bit : (k w m B : ℕ) → k < 11 → 2 ^ k ≤ m → m < 2 ^ suc k
    → (m - 2 ^ k < 2 ^ k → Told B (bit_xor (bit_xor w (get_or columns k 0)) (word_of (m - 2 ^ k)))) → Told B (bit_xor w (word_of m))
with_bit k w m B l low high g =
    let less : m - 2 ^ k < 2 ^ k = omega (arith, pow-suc 2 k) in
    let whole : 2 ^ k + (m - 2 ^ k) ≡ m = omega arith in
    let same : bit_xor (bit_xor w (get_or columns k 0)) (word_of (m - 2 ^ k)) ≡ bit_xor w (word_of m)
    = xor_assoc w (get_or columns k 0) (word_of (m - 2 ^ k)) ∙ ap (bit_xor w) (sym (split_word k (m - 2 ^ k) l less)) ∙ ap (λ (n : ℕ). bit_xor w (word_of n)) whole in
    subst (Told B) same (g less)

told : (B k level w m : ℕ) → k ≤ B → level ≤ B → k ≤ 11 → m < 2 ^ k → spread k level w ≡ true → 0 < level + m → Told B (bit_xor w (word_of m))
unfolding spread
told B zero zero w m kb lb k11 h t s = absurd (omega arith)
told B zero (suc level) w m kb lb k11 h t s =
    let none : m ≡ 0 = omega arith in
    let same : bit_xor w (word_of m) ≡ w = ap (λ (n : ℕ). bit_xor w (word_of n)) none ∙ ap (bit_xor w) no_word ∙ xor_zero_r w in
    record { level = suc level; some = omega arith; within = lb; passes = ap (asked (suc level)) same ∙ t }
told B (suc k) zero w m kb lb k11 h t s =
    go (ltb m (2 ^ k)) refl
    (λ l. told B k zero w m (omega arith) lb (omega arith) l both.0 s)
    (λ l. told B k (suc k) (bit_xor w (get_or columns k 0)) (m - 2 ^ k) (omega arith) kb (omega arith) l both.1 (omega arith))
  where
    both : (spread k zero w ≡ true) × (spread k (suc k) (bit_xor w (get_or columns k 0)) ≡ true)
    both = (and-eq-true_iff (spread k zero w) (spread k (suc k) (bit_xor w (get_or columns k 0)))).0 t

    go : (b : Bool) → ltb m (2 ^ k) ≡ b → (m < 2 ^ k → Told B (bit_xor w (word_of m)))
        → (m - 2 ^ k < 2 ^ k → Told B (bit_xor (bit_xor w (get_or columns k 0)) (word_of (m - 2 ^ k)))) → Told B (bit_xor w (word_of m))
    go true e f g = f (ltb-true m (2 ^ k) e)
    go false e f g = with_bit k w m B (omega arith) (ltb-false m (2 ^ k) e) h g
told B (suc k) (suc level) w m kb lb k11 h t s =
    go (ltb m (2 ^ k)) refl
    (λ l. told B k (suc level) w m (omega arith) lb (omega arith) l both.0 s)
    (λ l. told B k (suc level) (bit_xor w (get_or columns k 0)) (m - 2 ^ k) (omega arith) lb (omega arith) l both.1 (omega arith))
  where
    both : (spread k (suc level) w ≡ true) × (spread k (suc level) (bit_xor w (get_or columns k 0)) ≡ true)
    both = (and-eq-true_iff (spread k (suc level) w) (spread k (suc level) (bit_xor w (get_or columns k 0)))).0 t

    go : (b : Bool) → ltb m (2 ^ k) ≡ b → (m < 2 ^ k → Told B (bit_xor w (word_of m)))
        → (m - 2 ^ k < 2 ^ k → Told B (bit_xor (bit_xor w (get_or columns k 0)) (word_of (m - 2 ^ k)))) → Told B (bit_xor w (word_of m))
    go true e f g = f (ltb-true m (2 ^ k) e)
    go false e f g = with_bit k w m B (omega arith) (ltb-false m (2 ^ k) e) h g

-- ---- the tables fall and rise with O

table_test : ℕ → Bool
table_test O = all_below (λ (l : ℕ). leb (least_weight (suc O)) (least_weight (suc l)) && leb (fewest (suc l)) (fewest (suc O))) (suc O)

tables : (O l : ℕ) → O < 11 → l ≤ O → (least_weight (suc O) ≤ least_weight (suc l)) × (fewest (suc l) ≤ fewest (suc O))
unfolding all_below table_test least_weight least_weights fewest fewest_table
tables O l h g =
    let test = all_below_at (λ (l : ℕ). leb (least_weight (suc O)) (least_weight (suc l)) && leb (fewest (suc l)) (fewest (suc O))) (suc O)
    (all_below_at table_test 11 tt O h) l (omega arith) in
    let both = (and-eq-true_iff (leb (least_weight (suc O)) (least_weight (suc l))) (leb (fewest (suc l)) (fewest (suc O)))).0 (T_true _ test) in
    (leb-true _ _ both.0, leb-true _ _ both.1)

-- ---- how strong the code is

strong_level : (O level : ℕ) (b : List ℕ) → 0 < level → level ≤ O → O ≤ 11 → AreBits b → length b ≡ 32 → asked level (number_of b) ≡ true
    → (least_weight O ≤ weight b) × (1 ≤ weight (take (fewest O) b))
unfolding asked
strong_level zero level b s l h bits long t = absurd (omega arith)
strong_level (suc O) zero b s l h bits long t = absurd (omega arith)
strong_level (suc O) (suc level) b s l h bits long t =
    let both = (and-eq-true_iff (leb (least_weight (suc level)) (bits_sum 32 (number_of b))) (leb 1 (bits_sum (fewest (suc level)) (number_of b)))).0 t in
    let rise = tables O level (omega arith) (omega arith) in
    let whole : take 32 b ≡ b = ap (λ (n : ℕ). take n b) (sym long) ∙ take-length b in
    let summed : least_weight (suc level) ≤ bits_sum 32 (number_of b) = leb-true _ _ both.0 in
    let some : 1 ≤ bits_sum (fewest (suc level)) (number_of b) = leb-true _ _ both.1 in
    let heavy : least_weight (suc level) ≤ weight b = rw (bits_sum_lem 32 b bits, whole) at summed in
    let early : 1 ≤ weight (take (fewest (suc level)) b) = rw (bits_sum_lem (fewest (suc level)) b bits) at some in
    (omega (arith, rise.0), omega (arith, weight_longer (fewest (suc level)) (fewest (suc O)) b rise.1))

-- the block of a report of O bits that are not all 0 has at least the least weight, and a one among its first bits
pub strong : (O m : ℕ) → O ≤ 11 → 0 < m → m < 2 ^ O
    → (least_weight O ≤ weight (block (message_bits O m))) × (1 ≤ weight (take (fewest O) (block (message_bits O m))))
unfolding word_of
strong O m h s l =
    let found = told O O 0 0 m (omega arith) (omega arith) h l (fewer O 11 h (T_true (spread 11 0 0) all_words)) (omega arith) in
    rw (block_short O m h l) at
    (strong_level O found.level (block (message_bits 11 m)) found.some found.within h (block_bits_lem (message_bits 11 m)) (length_block (message_bits 11 m))
    (ap (asked found.level) (sym (xor_zero_l (word_of m))) ∙ found.passes))

-- ---- the tables are sharp

-- messages of the least weight, and messages whose words begin with fewer - 1 zeros
unfoldable light : List ℕ
light = 1 ∷ 2 ∷ 2 ∷ 2 ∷ 2 ∷ 2 ∷ 68 ∷ 68 ∷ 68 ∷ 68 ∷ 1025 ∷ []

unfoldable late : List ℕ
late = 1 ∷ 3 ∷ 3 ∷ 11 ∷ 16 ∷ 32 ∷ 32 ∷ 32 ∷ 32 ∷ 32 ∷ 1025 ∷ []

sharp_test : ℕ → Bool
sharp_test O =
    (ltb 0 (get_or light O 0) && (ltb (get_or light O 0) (2 ^ suc O) && eqb (bits_sum 32 (word_of (get_or light O 0))) (least_weight (suc O))))
    && (ltb 0 (get_or late O 0) && (ltb (get_or late O 0) (2 ^ suc O) && eqb (bits_sum (fewest (suc O) - 1) (word_of (get_or late O 0))) 0))

sharp_tested : T (all_below sharp_test 11)
unfolding all_below sharp_test light late word_of number_of message_bits block tab tab_from coded_bit shared row basis bits_sum least_weight least_weights fewest fewest_table
sharp_tested = tt

-- for each O a report that is not all 0 has that weight, and one has no 1 before
pub record Sharp (O : ℕ) : Type 0 where
  pub lightest : ℕ
  pub lightest_some : 0 < lightest
  pub lightest_short : lightest < 2 ^ O
  pub lightest_weight : weight (block (message_bits O lightest)) ≡ least_weight O
  pub latest : ℕ
  pub latest_some : 0 < latest
  pub latest_short : latest < 2 ^ O
  pub latest_weight : weight (take (fewest O - 1) (block (message_bits O latest))) ≡ 0

word_weight : (O m n : ℕ) → O ≤ 11 → m < 2 ^ O → bits_sum n (word_of m) ≡ weight (take n (block (message_bits O m)))
unfolding word_of
word_weight O m n h l = bits_sum_lem n (block (message_bits 11 m)) (block_bits_lem (message_bits 11 m)) ∙ ap (λ (b : List ℕ). weight (take n b)) (block_short O m h l)

pub sharp : (O : ℕ) → 0 < O → O ≤ 11 → Sharp O
unfolding sharp_test
sharp zero s h = absurd (omega arith)
sharp (suc O) s h =
    let test = T_true (sharp_test O) (all_below_at sharp_test 11 sharp_tested O (omega arith)) in
    let halves = (and-eq-true_iff _ _).0 test in
    let first = (and-eq-true_iff (ltb 0 (get_or light O 0)) _).0 halves.0 in
    let second = (and-eq-true_iff (ltb (get_or light O 0) (2 ^ suc O)) _).0 first.1 in
    let third = (and-eq-true_iff (ltb 0 (get_or late O 0)) _).0 halves.1 in
    let fourth = (and-eq-true_iff (ltb (get_or late O 0) (2 ^ suc O)) _).0 third.1 in
    let whole : take 32 (block (message_bits (suc O) (get_or light O 0))) ≡ block (message_bits (suc O) (get_or light O 0))
    = ap (λ (n : ℕ). take n (block (message_bits (suc O) (get_or light O 0)))) (sym (length_block (message_bits (suc O) (get_or light O 0))))
    ∙ take-length (block (message_bits (suc O) (get_or light O 0))) in
    record {
      lightest = get_or light O 0;
      lightest_some = ltb-true _ _ first.0;
      lightest_short = ltb-true _ _ second.0;
      lightest_weight =
          ap weight (sym whole) ∙ sym (word_weight (suc O) (get_or light O 0) 32 h (ltb-true _ _ second.0)) ∙ eqb-true _ _ second.1;
      latest = get_or late O 0;
      latest_some = ltb-true _ _ third.0;
      latest_short = ltb-true _ _ fourth.0;
      latest_weight = sym (word_weight (suc O) (get_or late O 0) (fewest (suc O) - 1) h (ltb-true _ _ fourth.0)) ∙ eqb-true _ _ fourth.1;
    }
