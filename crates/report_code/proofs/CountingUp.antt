-- From one message to the next: the two numbers differ in the lowest set bit of the later one and all bits below, so their words differ by
-- the word of such a message.
-- Assumes nothing.
use mathlib.Core.Path.{◌≡◌, refl, sym, ◌∙◌, ap, ap₂}
use mathlib.Core.Bool.{false}
use mathlib.Core.List.{List, ◌++◌}
use Prim.Native.Nat.{ℕ, zero, suc, ◌+◌, ◌-◌, ◌*◌, ◌/◌, ◌%◌, ◌^◌, ◌≤◌, ◌<◌}
use native.Mathlib.Nat.{not-suc-le-zero, pow-suc}
use native.Mathlib.Numerals.{add-one}
use native.Mathlib.Omega.{arith}
use lib.Pow.{pow_pos, pow_mono}
use lib.Bits.{bit_xor, xor_self}
use lib.Count.{count_trailing_zeros, under}
use lib.ListN.{get_or, replicate}
use Rattle.laws.specs.Lists.{tab}
use Rattle.laws.proofs.Bits.{xor_half, xor_parity, xor_cancel}
use Rattle.report_code.specs.declared.search.Found.{Found}
use Rattle.report_code.specs.Words.{word_of}
use Rattle.report_code.specs.Nearest.{nearer_of, nearest_up_to}
use Rattle.report_code.specs.inner.Counts.{plane_distance}
use Rattle.report_code.specs.inner.Search.{word_distance, step_word}
use Rattle.report_code.proofs.Entries.{kept}
use Rattle.report_code.proofs.Linear.{word_added}

-- the lowest set bit lies below the k digits that hold the number
pub trailing_lt : (w k n : ℕ) → 0 < n → n < 2 ^ k → k ≤ w → count_trailing_zeros w n < k
unfolding count_trailing_zeros
trailing_lt w zero n p h l = absurd (omega arith)
trailing_lt zero (suc k) n p h l = absurd (not-suc-le-zero l)
trailing_lt (suc w) (suc k) n p h l = go (λ q. trailing_lt w k (n / 2) q (omega (arith, pow-suc 2 k)) (omega arith)) (n % 2) refl
  where
    go : (0 < n / 2 → count_trailing_zeros w (n / 2) < k) → (d : ℕ) → n % 2 ≡ d → under d (count_trailing_zeros w (n / 2)) < suc k
    go rest zero e = let less : count_trailing_zeros w (n / 2) < k = rest (omega arith) in omega arith
    go rest (suc d) e = omega arith

-- the bits in which a number and the next differ
pub next_differs : (w n : ℕ) → n + 1 < 2 ^ w → bit_xor n (n + 1) ≡ 2 ^ suc (count_trailing_zeros w (n + 1)) - 1
unfolding count_trailing_zeros
next_differs zero n h = absurd (omega arith)
next_differs (suc w) n h = go (λ l. next_differs w (n / 2) l) (n % 2) ((n + 1) % 2) refl refl
  where
    up : n % 2 ≡ 1 → (n + 1) / 2 ≡ n / 2 + 1
    up e = omega arith

    below : n % 2 ≡ 1 → n / 2 + 1 < 2 ^ w
    below e = omega (arith, pow-suc 2 w)

    rest : (n / 2 + 1 < 2 ^ w → bit_xor (n / 2) (n / 2 + 1) ≡ 2 ^ suc (count_trailing_zeros w (n / 2 + 1)) - 1) → n % 2 ≡ 1 → bit_xor (n / 2) ((n + 1) / 2) ≡ 2 ^ suc (count_trailing_zeros w ((n + 1) / 2)) - 1
    rest half e = rw (up e) (half (below e))

    halves : bit_xor n (n + 1) ≡ 2 * bit_xor (n / 2) ((n + 1) / 2) + (n + (n + 1)) % 2
    halves = omega (arith, xor_half n (n + 1), xor_parity n (n + 1))

    more : (t x : ℕ) → x ≡ 2 ^ suc t - 1 → 2 * x + 1 ≡ 2 ^ suc (suc t) - 1
    more t x e = let some : 0 < 2 ^ suc t = pow_pos (suc t) in omega (arith, pow-suc 2 (suc t))

    go : (n / 2 + 1 < 2 ^ w → bit_xor (n / 2) (n / 2 + 1) ≡ 2 ^ suc (count_trailing_zeros w (n / 2 + 1)) - 1) → (a d : ℕ) → n % 2 ≡ a → (n + 1) % 2 ≡ d → bit_xor n (n + 1) ≡ 2 ^ suc (under d (count_trailing_zeros w ((n + 1) / 2))) - 1
    go r zero zero e f = absurd (omega arith)
    go r zero (suc d) e f =
        let half : (n + 1) / 2 ≡ n / 2 = omega arith in
        let none : bit_xor (n / 2) ((n + 1) / 2) ≡ 0 = ap (λ (k : ℕ). bit_xor (n / 2) k) half ∙ xor_self (n / 2) in
        omega (arith, halves)
    go r (suc a) zero e f =
        let one : n % 2 ≡ 1 = omega arith in
        halves ∙ last (bit_xor (n / 2) ((n + 1) / 2)) ∙ more (count_trailing_zeros w ((n + 1) / 2)) (bit_xor (n / 2) ((n + 1) / 2)) (rest r one)
      where
        last : (x : ℕ) → 2 * x + (n + (n + 1)) % 2 ≡ 2 * x + 1
        last x = omega arith
    go r (suc a) (suc d) e f = absurd (omega arith)

-- the word of the next message
pub next_word : (m : ℕ) → 0 < m → m < 2 ^ 32 → bit_xor (word_of (m - 1)) (step_word (count_trailing_zeros 32 m)) ≡ word_of m
unfolding step_word
next_word m p h =
    let up : m - 1 + 1 ≡ m = omega arith in
    let differ : bit_xor (m - 1) m ≡ 2 ^ suc (count_trailing_zeros 32 m) - 1 = rw up at (next_differs 32 (m - 1) (rw up h)) in
    ap (λ (n : ℕ). bit_xor (word_of (m - 1)) (word_of n)) (sym differ)
    ∙ sym (word_added (m - 1) (bit_xor (m - 1) m))
    ∙ ap word_of (xor_cancel (m - 1) m)

-- ---- 1, 3, 7, ..

pub last_more : (k last : ℕ) → last ≡ 2 ^ suc k - 1 → 2 * last + 1 ≡ 2 ^ suc (k + 1) - 1
last_more k last e = rw (add-one k) (let some : 0 < 2 ^ suc k = pow_pos (suc k) in omega (arith, pow-suc 2 (suc k)))

pub last_small : (k last : ℕ) → k < 11 → last ≡ 2 ^ suc k - 1 → last < 2048
last_small k last h e = let most : 2 ^ suc k ≤ 2048 = pow_mono {i = suc k} {j = 11} (omega arith) in let some : 0 < 2 ^ suc k = pow_pos (suc k) in omega arith

-- the number of messages of O bits, as a shift gives it
few_messages : (O : ℕ) → O ≤ 11 → 2 ^ O ≤ 2048
few_messages O h = pow_mono {i = O} {j = 11} h

end_is : (O : ℕ) → O ≤ 11 → 1 * 2 ^ O % 4294967296 ≡ 2 ^ O
end_is O h = omega (arith, few_messages O h)

no_word : word_of 0 ≡ 0
no_word = word_added 0 0 ∙ xor_self (word_of 0)

-- ---- message after message

nearest_more : (f : ℕ → ℕ) (m : ℕ) {found : Found} → 0 < m → found ≡ nearest_up_to f (m - 1) → nearer_of found m (f m) ≡ nearest_up_to f (m + 1 - 1)
unfolding nearest_up_to
nearest_more f zero h e = absurd (omega arith)
nearest_more f (suc m) {found} h e =
    let back : suc m - 1 ≡ m = omega arith in
    let forth : suc m + 1 - 1 ≡ suc m = omega arith in
    rw forth (ap (λ (b : Found). nearer_of b (suc m) (f (suc m))) (e ∙ ap (nearest_up_to f) back))

-- the messages below m are looked at; word is that of the last
pub record Searching (O : ℕ) (os zs : List ℕ) (count word : ℕ) (found : Found) (m : ℕ) : Type 0 where
  pub some : 0 < m
  pub within : m ≤ 2 ^ O
  pub word_told : word ≡ word_of (m - 1)
  pub found_told : found ≡ nearest_up_to (word_distance os zs count) (m - 1)

pub start : (O : ℕ) (os zs : List ℕ) (count : ℕ) {d : ℕ} → d ≡ plane_distance 0 os zs count 0
    → Searching O os zs count 0 (record { message = 0; distance = d; tied = false }) 1
unfolding nearest_up_to word_distance
start O os zs count e = record {
  some = omega arith;
  within = pow_pos O;
  word_told = sym no_word;
  found_told =
      ap (λ (n : ℕ). record { message = 0; distance = n; tied = false })
      (e ∙ ap (λ (w : ℕ). plane_distance w os zs count 0) (sym no_word));
}

module _ {O : ℕ} {os zs : List ℕ} {count word : ℕ} {found : Found} {m : ℕ} (w : Searching O os zs count word found m) (few : O ≤ 11)
    (more : m < 1 * 2 ^ O % 4294967296) where
  pub below : m < 2 ^ O
  below = omega (arith, end_is O few)

  pub step_lt : count_trailing_zeros 32 m < O
  step_lt = trailing_lt 32 O m w.some below (omega arith)

  pub small : m < 2048
  small = omega (arith, few_messages O few, below)

  module _ {steps : List ℕ} {d : ℕ} {next_found : Found} (s : steps ≡ tab O step_word ++ replicate {A = ℕ} (11 - O) 0)
      (near : d ≡ plane_distance (bit_xor word (get_or steps (count_trailing_zeros 32 m) 0)) os zs count 0) (after : next_found ≡ nearer_of found m d) where
    word_is : bit_xor word (get_or steps (count_trailing_zeros 32 m) 0) ≡ word_of m
    word_is =
        ap₂ bit_xor w.word_told
        (ap (λ (l : List ℕ). get_or l (count_trailing_zeros 32 m) 0) s ∙ kept step_word O (11 - O) (count_trailing_zeros 32 m) step_lt)
        ∙ next_word m w.some (omega (arith, small))

    up : m + 1 - 1 ≡ m
    up = omega arith

    pub next : Searching O os zs count (bit_xor word (get_or steps (count_trailing_zeros 32 m) 0)) next_found (m + 1)
    unfolding word_distance
    next = record {
      some = omega arith;
      within = omega (arith, below);
      word_told = word_is ∙ ap word_of (sym up);
      found_told =
          after
          ∙ ap (nearer_of found m) (near ∙ ap (λ (n : ℕ). plane_distance n os zs count 0) word_is)
          ∙ nearest_more (word_distance os zs count) m w.some w.found_told;
    }

pub finish : {O : ℕ} {os zs : List ℕ} {count word : ℕ} {found : Found} {m : ℕ} → Searching O os zs count word found m → O ≤ 11
    → 1 * 2 ^ O % 4294967296 ≤ m → found ≡ nearest_up_to (word_distance os zs count) (2 ^ O - 1)
finish {O} {os} {zs} {count} {m = m} w few end = w.found_told ∙ ap (λ (n : ℕ). nearest_up_to (word_distance os zs count) (n - 1)) all
  where
    all : m ≡ 2 ^ O
    all = omega (arith, end_is O few, w.within)
