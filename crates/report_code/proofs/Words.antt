-- Laws of lists of bits as numbers: a word's ones shared with another, exclusive or, and the messages by their numbers.
-- Assumes nothing.
use mathlib.Core.Path.{◌≡◌, refl, sym, ◌∙◌, ap, ap₂}
use mathlib.Core.List.{List, [], ◌∷◌}
use Prim.Native.Nat.{ℕ, zero, suc, ◌+◌, ◌-◌, ◌*◌, ◌/◌, ◌%◌, ◌^◌, ◌≤◌, ◌<◌, min}
use native.Mathlib.Nat.{not-suc-le-zero, le_of_suc-le-suc, lt_of_lt_of_le, pow-suc}
use native.Mathlib.Omega.{arith}
use lib.Dec.{lit<}
use lib.Pow.{pow_pos, pow_mono}
use lib.Bits.{bit_and, bit_xor, and_step, and_zero_l, and_zero_r, xor_mod}
use lib.Count.{ones, ones_in, ones_step}
use lib.ListN.{length, get_or, drop, length-drop}
use Rattle.laws.specs.Bits.{AreBits}
use Rattle.laws.proofs.AreBits.{drop_below}
use Rattle.laws.proofs.Bits.{xor_half, xor_parity, xor_bit_lt}
use Rattle.laws.proofs.Writing.{drop_next}
use Rattle.report_code.specs.Code.{shared}
use Rattle.report_code.specs.Words.{number_of, message_bits}
use Rattle.report_code.specs.inner.Counts.{inverted}

-- ---- the first bit and the others

half_of : (x n : ℕ) → x < 2 → (x + 2 * n) / 2 ≡ n
half_of x n h = omega arith

odd_of : (x n : ℕ) → x < 2 → (x + 2 * n) % 2 ≡ x
odd_of x n h = omega arith

-- ---- ones that two words share

min_bits : (x y : ℕ) → x < 2 → y < 2 → min x y ≡ x * y
min_bits zero y h g = omega arith
min_bits (suc zero) y h g = omega arith
min_bits (suc (suc x)) y h g = absurd (omega arith)

and_cons : (x y m n : ℕ) → x < 2 → y < 2 → bit_and (x + 2 * m) (y + 2 * n) ≡ bit_and m n * 2 + x * y
and_cons x y m n h g =
    and_step (x + 2 * m) (y + 2 * n)
    ∙ ap₂ (λ (p q : ℕ). p * 2 + q) (ap₂ bit_and (half_of x m h) (half_of y n g))
    (ap₂ min (odd_of x m h) (odd_of y n g) ∙ min_bits x y h g)

ones_cons : (r t : ℕ) → t < 2 → ones (r * 2 + t) ≡ t + ones r
ones_cons r t h = ones_step (r * 2 + t) ∙ ap₂ (λ (p q : ℕ). p + ones q) low high
  where
    low : (r * 2 + t) % 2 ≡ t
    low = omega arith

    high : (r * 2 + t) / 2 ≡ r
    high = omega arith

no_ones : ones 0 ≡ 0
unfolding ones ones_in
no_ones = refl

product_bit : (x y : ℕ) → x < 2 → y < 2 → x * y < 2
product_bit zero y h g = omega arith
product_bit (suc zero) y h g = omega arith
product_bit (suc (suc x)) y h g = absurd (omega arith)

-- the ones of the word of xs and the word of ys together
pub ones_shared : (xs ys : List ℕ) → AreBits xs → AreBits ys → ones (bit_and (number_of xs) (number_of ys)) ≡ shared xs ys
unfolding number_of shared
ones_shared [] ys h g = ap ones (and_zero_l (number_of ys)) ∙ no_ones
ones_shared (x ∷ xs) [] h g = ap ones (and_zero_r (x + 2 * number_of xs)) ∙ no_ones
ones_shared (x ∷ xs) (y ∷ ys) h g =
    ap ones (and_cons x y (number_of xs) (number_of ys) (h 0) (g 0))
    ∙ ones_cons (bit_and (number_of xs) (number_of ys)) (x * y) (product_bit x y (h 0) (g 0))
    ∙ ap (λ (n : ℕ). x * y + n) (ones_shared xs ys (λ i. h (suc i)) (λ i. g (suc i)))

pub shared_comm : (xs ys : List ℕ) → shared xs ys ≡ shared ys xs
unfolding shared
shared_comm [] [] = refl
shared_comm [] (y ∷ ys) = refl
shared_comm (x ∷ xs) [] = refl
shared_comm (x ∷ xs) (y ∷ ys) = omega (arith, shared_comm xs ys)

-- ---- exclusive or, bit by bit

unfoldable pub added : List ℕ → List ℕ → List ℕ
added [] ys = []
added (x ∷ xs) [] = x ∷ xs
added (x ∷ xs) (y ∷ ys) = bit_xor x y ∷ added xs ys

xor_cons : (x y m n : ℕ) → x < 2 → y < 2 → bit_xor (x + 2 * m) (y + 2 * n) ≡ bit_xor x y + 2 * bit_xor m n
xor_cons x y m n h g =
    let high : bit_xor (x + 2 * m) (y + 2 * n) / 2 ≡ bit_xor m n = xor_half (x + 2 * m) (y + 2 * n) ∙ ap₂ bit_xor (half_of x m h) (half_of y n g) in
    omega (arith, high, xor_parity (x + 2 * m) (y + 2 * n), xor_parity x y, xor_bit_lt x y h g)

pub number_added : (xs ys : List ℕ) → length xs ≡ length ys → AreBits xs → AreBits ys → number_of (added xs ys) ≡ bit_xor (number_of xs) (number_of ys)
unfolding number_of added
number_added [] [] e h g = refl
number_added [] (y ∷ ys) e h g = absurd (omega arith)
number_added (x ∷ xs) [] e h g = absurd (omega arith)
number_added (x ∷ xs) (y ∷ ys) e h g =
    ap (λ (n : ℕ). bit_xor x y + 2 * n) (number_added xs ys (omega arith) (λ i. h (suc i)) (λ i. g (suc i)))
    ∙ sym (xor_cons x y (number_of xs) (number_of ys) (h 0) (g 0))

-- all bits turned: exclusive or with a word of ones
one_more : (n : ℕ) → 2 ^ suc n - 1 ≡ 1 + 2 * (2 ^ n - 1)
one_more n = let some : 0 < 2 ^ n = pow_pos n in omega (arith, pow-suc 2 n)

pub number_inverted : (xs : List ℕ) → AreBits xs → bit_xor (number_of xs) (2 ^ length xs - 1) ≡ number_of (inverted xs)
unfolding number_of inverted
number_inverted [] h = refl
number_inverted (x ∷ xs) h =
    ap (λ (n : ℕ). bit_xor (x + 2 * number_of xs) n) (one_more (length xs))
    ∙ xor_cons x 1 (number_of xs) (2 ^ length xs - 1) (h 0) (lit< tt)
    ∙ ap₂ (λ (p q : ℕ). p + 2 * q) (turned x (h 0)) (number_inverted xs (λ i. h (suc i)))
  where
    turned : (x : ℕ) → x < 2 → bit_xor x 1 ≡ 1 - x
    turned zero h = refl
    turned (suc zero) h = refl
    turned (suc (suc x)) h = absurd (omega arith)

pub inverted_bits : (xs : List ℕ) → AreBits (inverted xs)
unfolding inverted
inverted_bits [] i = lit< tt
inverted_bits (x ∷ xs) zero = omega arith
inverted_bits (x ∷ xs) (suc i) = inverted_bits xs i

pub length_inverted : (xs : List ℕ) → length (inverted xs) ≡ length xs
unfolding inverted
length_inverted [] = refl
length_inverted (x ∷ xs) = ap suc (length_inverted xs)

-- ---- messages by their numbers

pub number_lt : (xs : List ℕ) → AreBits xs → number_of xs < 2 ^ length xs
unfolding number_of
number_lt [] h = lit< tt
number_lt (x ∷ xs) h = omega (arith, h 0, number_lt xs (λ i. h (suc i)), pow-suc 2 (length xs))

pub length_message : (O m : ℕ) → length (message_bits O m) ≡ O
unfolding message_bits
length_message zero m = refl
length_message (suc O) m = ap suc (length_message O (m / 2))

pub message_bits_lem : (O m : ℕ) → AreBits (message_bits O m)
unfolding message_bits
message_bits_lem zero m i = lit< tt
message_bits_lem (suc O) m zero = omega arith
message_bits_lem (suc O) m (suc i) = message_bits_lem O (m / 2) i

half_below : (O m : ℕ) → m < 2 ^ suc O → m / 2 < 2 ^ O
half_below O m h = omega (arith, pow-suc 2 O)

-- there and back, both ways
pub number_message : (O m : ℕ) → m < 2 ^ O → number_of (message_bits O m) ≡ m
unfolding number_of message_bits
number_message zero m h = omega arith
number_message (suc O) m h = let back = number_message O (m / 2) (half_below O m h) in omega (arith, back)

pub message_number : (o : List ℕ) → AreBits o → message_bits (length o) (number_of o) ≡ o
unfolding number_of message_bits
message_number [] h = refl
message_number (x ∷ xs) h =
    ap₂ (λ (p : ℕ) (l : List ℕ). p ∷ l) (odd_of x (number_of xs) (h 0))
    (ap (message_bits (length xs)) (half_of x (number_of xs) (h 0)) ∙ message_number xs (λ i. h (suc i)))

pub message_added : (O a b : ℕ) → message_bits O (bit_xor a b) ≡ added (message_bits O a) (message_bits O b)
unfolding message_bits added
message_added zero a b = refl
message_added (suc O) a b =
    ap₂ (λ (p : ℕ) (l : List ℕ). p ∷ l) (xor_mod a b 1) (ap (message_bits O) (xor_half a b) ∙ message_added O (a / 2) (b / 2))

-- a longer message with nothing in its further bits shares as much
nothing_shared : (T : ℕ) (r : List ℕ) → shared (message_bits T 0) r ≡ 0
unfolding message_bits shared
nothing_shared zero r = refl
nothing_shared (suc T) [] = refl
nothing_shared (suc T) (y ∷ r) = omega (arith, nothing_shared T r)

pub message_shared : (O T m : ℕ) (r : List ℕ) → O ≤ T → m < 2 ^ O → shared (message_bits T m) r ≡ shared (message_bits O m) r
unfolding message_bits shared
message_shared zero T m r l h = let none : m ≡ 0 = omega arith in ap (λ (n : ℕ). shared (message_bits T n) r) none ∙ nothing_shared T r
message_shared (suc O) zero m r l h = absurd (not-suc-le-zero l)
message_shared (suc O) (suc T) m [] l h = refl
message_shared (suc O) (suc T) m (y ∷ r) l h = ap (λ (n : ℕ). m % 2 * y + n) (message_shared O T (m / 2) r (le_of_suc-le-suc l) (half_below O m h))

-- ---- a word made from the highest bit down

module _ (bits : List ℕ) (are : AreBits bits) (long : length bits ≤ 32) where
  packed_fits : (i : ℕ) → number_of (drop i bits) < 4294967296
  packed_fits i =
      lt_of_lt_of_le (number_lt (drop i bits) (drop_below 2 i bits are)) (pow_mono {i = length (drop i bits)} {j = 32} (rw (length-drop i bits) (omega arith)))

  -- one bit more
  pub packed_more : (i word : ℕ) → 0 < i → i ≤ length bits → word ≡ number_of (drop i bits)
      → (2 * word + get_or bits (i - 1) 0 ≡ number_of (drop (i - 1) bits)) × (2 * word + get_or bits (i - 1) 0 < 4294967296)
  unfolding number_of
  packed_more i word p h e =
      let back : i - 1 + 1 ≡ i = omega arith in
      let next : drop (i - 1) bits ≡ get_or bits (i - 1) 0 ∷ drop i bits = drop_next bits (i - 1) (omega arith) ∙ ap (λ (k : ℕ). get_or bits (i - 1) 0 ∷ drop k bits) back in
      let told : 2 * word + get_or bits (i - 1) 0 ≡ number_of (drop (i - 1) bits) = rw next (omega arith) in
      (told, omega (arith, packed_fits (i - 1)))

-- the ones that a number shares with a row's mask: those that its bits share with the row
pub ones_message : (T m : ℕ) (r : List ℕ) → length r ≤ T → AreBits r → ones (bit_and m (number_of r)) ≡ shared (message_bits T m) r
unfolding number_of message_bits shared
ones_message zero m [] l h = ap ones (and_zero_r m) ∙ no_ones
ones_message (suc T) m [] l h = ap ones (and_zero_r m) ∙ no_ones
ones_message zero m (y ∷ r) l h = absurd (not-suc-le-zero l)
ones_message (suc T) m (y ∷ r) l h =
    let bit : m % 2 < 2 = omega arith in
    let parts : m ≡ m % 2 + 2 * (m / 2) = omega arith in
    ap (λ (n : ℕ). ones (bit_and n (y + 2 * number_of r))) parts
    ∙ ap ones (and_cons (m % 2) y (m / 2) (number_of r) bit (h 0))
    ∙ ones_cons (bit_and (m / 2) (number_of r)) (m % 2 * y) (product_bit (m % 2) y bit (h 0))
    ∙ ap (λ (n : ℕ). m % 2 * y + n) (ones_message T (m / 2) r (le_of_suc-le-suc l) (λ i. h (suc i)))
