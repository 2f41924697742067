-- The counts of received bits tell the distance of every block, place by place: one turn, and turn after turn.
-- Assumes nothing.
use mathlib.Core.Path.{◌≡◌, refl, sym, ◌∙◌, ap, ap₂}
use mathlib.Core.Bool.{cond}
use mathlib.Core.List.{List, [], ◌∷◌, ◌++◌, append-nil}
use Prim.Native.Nat.{ℕ, zero, suc, ◌+◌, ◌-◌, ◌*◌, ◌/◌, ◌%◌, ◌≤◌, ◌<◌}
use native.Mathlib.Nat.{not-suc-le-zero, le_of_suc-le-suc, add-zero, zero-add}
use native.Mathlib.Numerals.{add-one}
use native.Mathlib.Decide.{dec_lt}
use native.Mathlib.Omega.{arith}
use lib.Dec.{eqb, lit<}
use lib.ListN.{length, get_or, take, drop, set, replicate, length-append, length-drop, take-append-drop, drop_of_length-le}
use lib.Seq.{length-take-le, get_or-take, take-length, take-add, take_at, drop_at, drop-drop}
use Rattle.laws.specs.Bits.{AreBits, EachBelow}
use Rattle.laws.specs.Lists.{tab, tab_from}
use Rattle.laws.proofs.AreBits.{take_below, drop_below}
use Rattle.laws.proofs.Tab.{length_tab, tab_from_split, tab_from_shift, tab_of}
use Rattle.report_code.specs.Code.{shared, circular, repeated}
use Rattle.report_code.specs.inner.Counts.{inverted, plus, cost}
use Rattle.report_code.specs.Nearest.{differences}
use Rattle.report_code.specs.inner.Counted.{Counted}
use Rattle.report_code.proofs.Words.{inverted_bits, length_inverted}

-- ---- runs that differ

pub differences_append : (xs us ys vs : List ℕ) → length xs ≡ length us → differences (xs ++ ys) (us ++ vs) ≡ differences xs us + differences ys vs
unfolding differences
differences_append [] [] ys vs e = omega arith
differences_append [] (u ∷ us) ys vs e = absurd (omega arith)
differences_append (x ∷ xs) [] ys vs e = absurd (omega arith)
differences_append (x ∷ xs) (u ∷ us) ys vs e =
    let rest : differences (xs ++ ys) (us ++ vs) ≡ differences xs us + differences ys vs = differences_append xs us ys vs (omega arith) in
    more (cond (eqb x u) 0 1) (differences (xs ++ ys) (us ++ vs)) (differences xs us) (differences ys vs) rest
  where
    more : (k s p q : ℕ) → s ≡ p + q → k + s ≡ k + p + q
    more k s p q h = omega arith

pub differences_front : (xs ys : List ℕ) (n : ℕ) → n ≡ length xs → differences xs (take n ys) ≡ differences xs ys
unfolding differences
differences_front [] ys n e = refl
differences_front (x ∷ xs) [] zero e = absurd (omega arith)
differences_front (x ∷ xs) [] (suc n) e = refl
differences_front (x ∷ xs) (y ∷ ys) zero e = absurd (omega arith)
differences_front (x ∷ xs) (y ∷ ys) (suc n) e = ap (λ (k : ℕ). cond (eqb x y) 0 1 + k) (differences_front xs ys n (omega arith))

-- bits that differ, as products
differ_bits : (x y : ℕ) → x < 2 → y < 2 → cond (eqb x y) 0 1 ≡ y * (1 - x) + (1 - y) * x
differ_bits zero zero h g = refl
differ_bits zero (suc zero) h g = refl
differ_bits (suc zero) zero h g = refl
differ_bits (suc zero) (suc zero) h g = refl
differ_bits (suc (suc x)) y h g = absurd (omega arith)
differ_bits zero (suc (suc y)) h g = absurd (omega arith)
differ_bits (suc zero) (suc (suc y)) h g = absurd (omega arith)

-- what a turn adds to the cost of a block is in how many places it differs
pub turn_cost : (t b : List ℕ) → AreBits t → AreBits b → cost b t (inverted t) ≡ differences t b
unfolding cost shared inverted differences
turn_cost [] [] h g = refl
turn_cost [] (y ∷ b) h g = refl
turn_cost (x ∷ t) [] h g = refl
turn_cost (x ∷ t) (y ∷ b) h g =
    let rest : shared b (inverted t) + shared (inverted b) t ≡ differences t b = turn_cost t b (λ i. h (suc i)) (λ i. g (suc i)) in
    more (y * (1 - x)) ((1 - y) * x) (shared b (inverted t)) (shared (inverted b) t) (cond (eqb x y) 0 1) (differences t b) (differ_bits x y (h 0) (g 0)) rest
  where
    more : (u v p q k d : ℕ) → k ≡ u + v → p + q ≡ d → u + p + (v + q) ≡ k + d
    more u v p q k d e f = omega arith

shared_plus : (w xs ys : List ℕ) → length ys ≤ length xs → shared w (plus xs ys) ≡ shared w xs + shared w ys
unfolding shared plus
shared_plus [] xs ys l = refl
shared_plus (z ∷ w) [] [] l = refl
shared_plus (z ∷ w) [] (y ∷ ys) l = absurd (not-suc-le-zero l)
shared_plus (z ∷ w) (x ∷ xs) [] l = omega arith
shared_plus (z ∷ w) (x ∷ xs) (y ∷ ys) l =
    more (z * (x + y)) (z * x) (z * y) (shared w (plus xs ys)) (shared w xs) (shared w ys) (omega arith) (shared_plus w xs ys (le_of_suc-le-suc l))
  where
    more : (u v p s a b : ℕ) → u ≡ v + p → s ≡ a + b → u + s ≡ v + a + (p + b)
    more u v p s a b e f = omega arith

pub cost_plus : (b A Z u v : List ℕ) → length u ≤ length A → length v ≤ length Z → cost b (plus A u) (plus Z v) ≡ cost b A Z + cost b u v
unfolding cost
cost_plus b A Z u v l k = omega (arith, shared_plus b Z v k, shared_plus (inverted b) A u l)

-- ---- counts

pub length_plus : (xs ys : List ℕ) → length (plus xs ys) ≡ length xs
unfolding plus
length_plus [] ys = refl
length_plus (x ∷ xs) [] = refl
length_plus (x ∷ xs) (y ∷ ys) = ap suc (length_plus xs ys)

pub plus_below : (n : ℕ) (xs ys : List ℕ) → EachBelow n xs → AreBits ys → EachBelow (suc n) (plus xs ys)
unfolding plus
plus_below n [] ys h g i = omega arith
plus_below n (x ∷ xs) [] h g i = omega (arith, h i)
plus_below n (x ∷ xs) (y ∷ ys) h g zero = omega (arith, h 0, g 0)
plus_below n (x ∷ xs) (y ∷ ys) h g (suc i) = plus_below n xs ys (λ k. h (suc k)) (λ k. g (suc k)) i

zero_cost : (b : List ℕ) (n : ℕ) → shared b (replicate {A = ℕ} n 0) ≡ 0
unfolding shared
zero_cost [] n = refl
zero_cost (x ∷ b) zero = refl
zero_cost (x ∷ b) (suc n) = omega (arith, zero_cost b n)

plus_none : (xs : List ℕ) → plus xs [] ≡ xs
unfolding plus
plus_none [] = refl
plus_none (x ∷ xs) = refl

-- `xs[i] = xs[i] + ys[i]`
pub plus_more : (xs ys : List ℕ) (i : ℕ) → i < length ys → length ys ≤ length xs
    → set (plus xs (take i ys)) i (get_or (plus xs (take i ys)) i 0 + get_or ys i 0) ≡ plus xs (take (i + 1) ys)
unfolding plus
plus_more xs ys i h l = rw (add-one i) (go xs ys i h l)
  where
    go : (xs ys : List ℕ) (i : ℕ) → i < length ys → length ys ≤ length xs
        → set (plus xs (take i ys)) i (get_or (plus xs (take i ys)) i 0 + get_or ys i 0) ≡ plus xs (take (suc i) ys)
    go xs [] i h l = absurd (not-suc-le-zero h)
    go [] (y ∷ ys) i h l = absurd (not-suc-le-zero l)
    go (x ∷ xs) (y ∷ ys) zero h l = ap (λ (r : List ℕ). (x + y) ∷ r) (sym (plus_none xs))
    go (x ∷ xs) (y ∷ ys) (suc i) h l = ap (λ (r : List ℕ). (x + y) ∷ r) (go xs ys i (le_of_suc-le-suc h) (le_of_suc-le-suc l))

pub plus_ahead : (xs ys : List ℕ) (i : ℕ) → get_or (plus xs (take i ys)) i 0 ≡ get_or xs i 0
unfolding plus
plus_ahead [] ys i = refl
plus_ahead (x ∷ xs) ys zero = refl
plus_ahead (x ∷ xs) [] (suc i) = refl
plus_ahead (x ∷ xs) (y ∷ ys) (suc i) = plus_ahead xs ys i

pub get_or_inverted : (xs : List ℕ) (i : ℕ) → i < length xs → get_or (inverted xs) i 0 ≡ 1 - get_or xs i 0
unfolding inverted
get_or_inverted [] i h = absurd (not-suc-le-zero h)
get_or_inverted (x ∷ xs) zero h = refl
get_or_inverted (x ∷ xs) (suc i) h = get_or_inverted xs i (le_of_suc-le-suc h)

take_all : (n : ℕ) (l : List ℕ) → length l ≤ n → take n l ≡ l
take_all n l h = sym (append-nil (take n l)) ∙ ap (λ (r : List ℕ). take n l ++ r) (sym (drop_of_length-le l h)) ∙ take-append-drop n l

-- a turn half counted: the first i bits are added
pub record Counting (turn A Z A' Z' : List ℕ) (i : ℕ) : Type 0 where
  pub within : i ≤ length turn
  pub ones_told : A' ≡ plus A (take i turn)
  pub zeros_told : Z' ≡ plus Z (take i (inverted turn))

pub counting_start : {turn A Z : List ℕ} → Counting turn A Z A Z 0
counting_start {turn} {A} {Z} = record { within = omega arith; ones_told = sym (plus_none A); zeros_told = sym (plus_none Z) }

module _ {turn A Z A' Z' : List ℕ} {i : ℕ} (w : Counting turn A Z A' Z' i) where
  pub ones_fit : EachBelow 16384 A → get_or A' i 0 < 16384
  ones_fit h = rw (w.ones_told, plus_ahead A turn i) (h i)

  pub zeros_fit : EachBelow 16384 Z → get_or Z' i 0 < 16384
  zeros_fit h = rw (w.zeros_told, plus_ahead Z (inverted turn) i) (h i)

  pub counting_next : i < length turn → length turn ≤ 32 → length A ≡ 32 → length Z ≡ 32
      → Counting turn A Z (set A' i (get_or A' i 0 + get_or turn i 0)) (set Z' i (get_or Z' i 0 + (1 - get_or turn i 0))) (i + 1)
  counting_next h l a z = record {
    within = omega arith;
    ones_told = ap (λ (r : List ℕ). set r i (get_or r i 0 + get_or turn i 0)) w.ones_told ∙ plus_more A turn i h (omega arith);
    zeros_told =
        ap (λ (r : List ℕ). set r i (get_or r i 0 + (1 - get_or turn i 0))) w.zeros_told
        ∙ ap (λ (b : ℕ). set (plus Z (take i (inverted turn))) i (get_or (plus Z (take i (inverted turn))) i 0 + b)) (sym (get_or_inverted turn i h))
        ∙ plus_more Z (inverted turn) i (rw (length_inverted turn) h) (omega (arith, length_inverted turn));
  }

  pub counting_finish : length turn ≤ i → (A' ≡ plus A turn) × (Z' ≡ plus Z (inverted turn))
  counting_finish h = (
    w.ones_told ∙ ap (plus A) (take_all i turn h),
    w.zeros_told ∙ ap (plus Z) (take_all i (inverted turn) (rw (length_inverted turn) h)),
  )

-- ---- repetition

-- one turn, or the front of one
pub turn_is : (b : List ℕ) (at k : ℕ) → length b ≡ 32 → at % 32 ≡ 0 → k ≤ 32 → tab_from at k (circular b) ≡ take k b
unfolding circular tab
turn_is b at k l z h =
    ap (λ (i : ℕ). tab_from i k (circular b)) (sym (add-zero at))
    ∙ tab_from_shift at 0 k (circular b)
    ∙ sym (tab_of (take k b) k (λ (i : ℕ). circular b (at + i)) (length-take-le k b (omega arith)) each)
  where
    place : (i : ℕ) → i < k → (at + i) % 32 ≡ i
    place i g = omega arith

    each : (i : ℕ) → i < k → get_or (take k b) i 0 ≡ circular b (at + i)
    each i g = get_or-take k b i 0 g ∙ ap (λ (j : ℕ). get_or b j 0) (sym (place i g))

pub repeated_more : (b : List ℕ) (at k : ℕ) → length b ≡ 32 → at % 32 ≡ 0 → k ≤ 32 → repeated b (at + k) ≡ repeated b at ++ take k b
unfolding repeated tab
repeated_more b at k l z h =
    tab_from_split 0 at k (circular b)
    ∙ ap (λ (r : List ℕ). tab_from 0 at (circular b) ++ r) (ap (λ (i : ℕ). tab_from i k (circular b)) (zero-add at) ∙ turn_is b at k l z h)

pub length_repeated : (b : List ℕ) (n : ℕ) → length (repeated b n) ≡ n
unfolding repeated
length_repeated b n = length_tab n (circular b)

-- ---- turn after turn

-- the counts A of the ones and Z of the zeros after `at` received bits
pub record Folding (received A Z : List ℕ) (at : ℕ) : Type 0 where
  pub within : at ≤ length received
  pub whole : at < length received → at % 32 ≡ 0
  pub ones_long : length A ≡ 32
  pub zeros_long : length Z ≡ 32
  pub ones_few : EachBelow (suc ((at + 31) / 32)) A
  pub zeros_few : EachBelow (suc ((at + 31) / 32)) Z
  pub distances : (b : List ℕ) → length b ≡ 32 → AreBits b → cost b A Z ≡ differences (take at received) (repeated b at)

zeros_below : (n i : ℕ) → get_or (replicate {A = ℕ} n 0) i 0 < 1
zeros_below zero i = lit< tt
zeros_below (suc n) zero = lit< tt
zeros_below (suc n) (suc i) = zeros_below n i

pub start : (received : List ℕ) → Folding received (replicate {A = ℕ} 32 0) (replicate {A = ℕ} 32 0) 0
unfolding cost differences
start received = record {
  within = omega arith;
  whole = λ h. refl;
  ones_long = refl;
  zeros_long = refl;
  ones_few = zeros_below 32;
  zeros_few = zeros_below 32;
  distances = λ b l h. nothing b;
}
  where
    nothing : (b : List ℕ) → shared b (replicate {A = ℕ} 32 0) + shared (inverted b) (replicate {A = ℕ} 32 0) ≡ differences [] (repeated b 0)
    nothing b = omega (arith, zero_cost b 32, zero_cost (inverted b) 32)

pub turn_bits_lem : (received : List ℕ) (at k : ℕ) → AreBits received → AreBits (take k (drop at received))
turn_bits_lem received at k bits = take_below 2 (lit< tt) k (drop at received) (drop_below 2 at received bits)

pub turn_long : (received : List ℕ) {at end : ℕ} → at < end → end ≤ length received → length (take (end - at) (drop at received)) ≡ end - at
turn_long received {at} {end} h l = length-take-le (end - at) (drop at received) (rw (length-drop at received) (omega arith))

pub few_counts : (A : List ℕ) {n at : ℕ} → n ≤ 16384 → at ≤ n → EachBelow (suc ((at + 31) / 32)) A → EachBelow 16384 A
few_counts A {n} {at} l h few i = let less = few i in omega arith

module _ {received A Z A' Z' : List ℕ} {at end : ℕ} (w : Folding received A Z at) (bits : AreBits received) (more : at < length received)
    (forth : at < end) (fits : end ≤ length received) (turn_fits : end ≤ at + 32) (turn_full : end < length received → end ≡ at + 32)
    (a : A' ≡ plus A (take (end - at) (drop at received))) (z : Z' ≡ plus Z (inverted (take (end - at) (drop at received)))) where
  abbrev turn : List ℕ
  turn = take (end - at) (drop at received)

  long : length turn ≡ end - at
  long = turn_long received forth fits

  ones_left : length turn ≤ length A
  ones_left = omega (arith, long, w.ones_long)

  zeros_left : length (inverted turn) ≤ length Z
  zeros_left = omega (arith, long, length_inverted turn, w.zeros_long)

  joined : end ≡ at + (end - at)
  joined = omega arith

  few : {n : ℕ} → n < suc (suc ((at + 31) / 32)) → n < suc ((end + 31) / 32)
  few {n} h = let z : at % 32 ≡ 0 = w.whole more in omega arith

  told : (b : List ℕ) → length b ≡ 32 → AreBits b → cost b A' Z' ≡ differences (take end received) (repeated b end)
  told b l h =
      ap₂ (λ (p q : List ℕ). cost b p q) a z
      ∙ cost_plus b A Z turn (inverted turn) ones_left zeros_left
      ∙ ap₂ (λ (p q : ℕ). p + q) (w.distances b l h) (turn_cost turn b (turn_bits_lem received at (end - at) bits) h ∙ sym (differences_front turn b (end - at) (sym long)))
      ∙ sym (differences_append (take at received) (repeated b at) turn (take (end - at) b)
      (length-take-le at received w.within ∙ sym (length_repeated b at)))
      ∙ ap₂ differences (sym (take-add at (end - at) received) ∙ ap (λ (n : ℕ). take n received) (sym joined))
      (sym (repeated_more b at (end - at) l (w.whole more) (omega arith)) ∙ ap (repeated b) (sym joined))

  pub next : Folding received A' Z' end
  next = record {
    within = fits;
    whole = λ h. let s : at % 32 ≡ 0 = w.whole more in omega (arith, turn_full h);
    ones_long = ap length a ∙ length_plus A turn ∙ w.ones_long;
    zeros_long = ap length z ∙ length_plus Z (inverted turn) ∙ w.zeros_long;
    ones_few = λ i. few (rw a (plus_below (suc ((at + 31) / 32)) A turn w.ones_few (turn_bits_lem received at (end - at) bits) i));
    zeros_few = λ i. few (rw z (plus_below (suc ((at + 31) / 32)) Z (inverted turn) w.zeros_few (inverted_bits turn) i));
    distances = told;
  }

pub finish : {received A Z : List ℕ} {at : ℕ} → Folding received A Z at → length received ≤ at → Counted received A Z
finish {received} {A} {Z} {at} w h = record {
  ones_long = w.ones_long;
  zeros_long = w.zeros_long;
  ones_few = rw all at w.ones_few;
  zeros_few = rw all at w.zeros_few;
  distances = λ b l g. w.distances b l g ∙ ap₂ differences (ap (λ (n : ℕ). take n received) all ∙ take-length received) (ap (repeated b) all);
}
  where
    all : at ≡ length received
    all = omega (arith, w.within)

-- the whole turns before the bits that are left are counted
pub record Left (received A Z rest : List ℕ) : Type 0 where
  pub left : rest ≡ drop (length received - length rest) received
  pub even : (length received - length rest) % 32 ≡ 0
  pub folding : Folding received A Z (length received - length rest)

pub left_start : {received rest : List ℕ} → rest ≡ received → Left received (replicate {A = ℕ} 32 0) (replicate {A = ℕ} 32 0) rest
left_start {received} {rest} e = record {
  left = e ∙ ap (λ (i : ℕ). drop i received) (sym at);
  even = rw at refl;
  folding = rw at (start received);
}
  where
    at : length received - length rest ≡ 0
    at = omega (arith, ap length e)

module _ {received A Z rest : List ℕ} (w : Left received A Z rest) (bits : AreBits received) where
  abbrev at : ℕ
  at = length received - length rest

  within : length rest ≤ length received
  within = omega (arith, ap length w.left, length-drop at received)

  -- a whole turn comes off the front of what is left
  module _ (turn rest' : List ℕ) (split : rest ≡ turn ++ rest') (size : length turn ≡ 32) where
    abbrev end : ℕ
    end = length received - length rest'

    parts : length rest ≡ 32 + length rest'
    parts = ap length split ∙ length-append turn rest' ∙ ap (λ (n : ℕ). n + length rest') size

    is_turn : turn ≡ take (end - at) (drop at received)
    is_turn =
        sym (take_at turn rest' (length turn) refl)
        ∙ ap (take (length turn)) (sym split ∙ w.left)
        ∙ ap (λ (k : ℕ). take k (drop at received)) (omega (arith, size, parts, within))

    pub turn_ready : (length turn ≤ 32) × AreBits turn
    turn_ready = (omega arith, rw is_turn (turn_bits_lem received at (end - at) bits))

    pub left_next : {A' Z' : List ℕ} → A' ≡ plus A turn → Z' ≡ plus Z (inverted turn) → Left received A' Z' rest'
    left_next {A'} {Z'} a z = record {
      left =
          sym (drop_at turn rest' (length turn) refl)
          ∙ ap (drop (length turn)) (sym split ∙ w.left)
          ∙ drop-drop (length turn) at received
          ∙ ap (λ (k : ℕ). drop k received) (omega (arith, size, parts, within));
      even = omega (arith, parts, within, w.even);
      folding =
          next w.folding bits (omega (arith, parts, within)) (omega (arith, parts, within)) (omega arith) (omega (arith, parts, within)) (λ h. omega (arith, parts, within))
          (a ∙ ap (plus A) is_turn) (z ∙ ap (λ (t : List ℕ). plus Z (inverted t)) is_turn);
    }

  -- what is left is less than a turn, and comes last
  module _ (few : length rest < 32) (last : List ℕ) (e : last ≡ drop (length received - length received % 32) received) where
    last_is : last ≡ drop at received
    last_is = e ∙ ap (λ (i : ℕ). drop i received) (omega (arith, within, w.even))

    pub left_finish : {A' Z' : List ℕ} → A' ≡ plus A last → Z' ≡ plus Z (inverted last) → Counted received A' Z'
    unfolding inverted
    left_finish {A'} {Z'} a z = elim (dec_lt at (length received)) [
      | yes l ↦
          let all : last ≡ take (length received - at) (drop at received) = last_is ∙ sym (take_all (length received - at) (drop at received) (omega (arith, length-drop at received))) in
          finish (next w.folding bits l l (omega arith) (omega (arith, within)) (λ h. absurd (omega arith)) (a ∙ ap (plus A) all) (z ∙ ap (λ (t : List ℕ). plus Z (inverted t)) all)) (omega arith)
      | no l ↦
          let none : last ≡ [] = last_is ∙ drop_of_length-le received (omega arith) in
          rw (a ∙ ap (plus A) none ∙ plus_none A, z ∙ ap (λ (t : List ℕ). plus Z (inverted t)) none ∙ plus_none Z) (finish w.folding (omega arith))
    ]
