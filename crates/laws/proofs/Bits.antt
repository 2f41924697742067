-- Laws of exclusive or (`bit_xor`) beyond the library's, and of the bits of a number, highest first (`bits_of`).
-- Assumes nothing.
use mathlib.Core.Path.{◌≡◌, refl, sym, ◌∙◌, ap, ap₂}
use mathlib.Core.List.{List, ◌∷◌, ◌++◌}
use Prim.Native.Nat.{ℕ, zero, suc, ◌+◌, ◌-◌, ◌*◌, ◌/◌, ◌%◌, ◌^◌, ◌<◌}
use native.Mathlib.Nat.{not-suc-le-zero, zero-add, suc-add, add_comm, pow-suc, add-mul-div_right}
use native.Mathlib.Omega.{arith}
use lib.Arith.{bin_ind}
use lib.Pow.{pow_pos, shr-shr, high, split}
use lib.Bits.{bit_xor, xor_add_and, xor_shr, xor_mod, xor_lt, xor_comm, xor_self}
use lib.ListN.{length, get_or}
use Rattle.laws.specs.Bits.{bits_of, AreBits}

-- ---- exclusive or

pub xor_half : (a b : ℕ) → bit_xor a b / 2 ≡ bit_xor (a / 2) (b / 2)
xor_half a b = xor_shr a b 1

pub xor_parity : (a b : ℕ) → bit_xor a b % 2 ≡ (a + b) % 2
xor_parity a b = omega (arith, xor_add_and a b)

pub xor_bit_lt : (a b : ℕ) → a < 2 → b < 2 → bit_xor a b < 2
xor_bit_lt a b h l = xor_lt 1 a b h l

by_halves : (x y : ℕ) → x / 2 ≡ y / 2 → x % 2 ≡ y % 2 → x ≡ y
by_halves x y e f = omega arith

pub xor_assoc : (a b c : ℕ) → bit_xor (bit_xor a b) c ≡ bit_xor a (bit_xor b c)
xor_assoc = bin_ind (λ (n : ℕ). (b c : ℕ) → bit_xor (bit_xor n b) c ≡ bit_xor n (bit_xor b c)) (λ b c. refl) step
  where
    odd : (n b c : ℕ) → bit_xor (bit_xor n b) c % 2 ≡ bit_xor n (bit_xor b c) % 2
    odd n b c = omega (arith, xor_add_and (bit_xor n b) c, xor_add_and n b, xor_add_and n (bit_xor b c), xor_add_and b c)

    step : (n : ℕ) → ((b c : ℕ) → bit_xor (bit_xor (n / 2) b) c ≡ bit_xor (n / 2) (bit_xor b c)) → (b c : ℕ) → bit_xor (bit_xor n b) c ≡ bit_xor n (bit_xor b c)
    step n ih b c =
        by_halves _ _
        (xor_half (bit_xor n b) c ∙ ap (λ (x : ℕ). bit_xor x (c / 2)) (xor_half n b) ∙ ih (b / 2) (c / 2)
        ∙ ap (λ (x : ℕ). bit_xor (n / 2) x) (sym (xor_half b c)) ∙ sym (xor_half n (bit_xor b c)))
        (odd n b c)

pub xor_swap : (a b c : ℕ) → bit_xor a (bit_xor b c) ≡ bit_xor b (bit_xor a c)
xor_swap a b c = sym (xor_assoc a b c) ∙ ap (λ (x : ℕ). bit_xor x c) (xor_comm a b) ∙ xor_assoc b a c

pub xor_cancel : (a b : ℕ) → bit_xor a (bit_xor a b) ≡ b
xor_cancel a b = sym (xor_assoc a a b) ∙ ap (λ (x : ℕ). bit_xor x b) (xor_self a)

pub xor_medial : (a b c d : ℕ) → bit_xor (bit_xor a b) (bit_xor c d) ≡ bit_xor (bit_xor a c) (bit_xor b d)
xor_medial a b c d = xor_assoc a b (bit_xor c d) ∙ ap (λ (x : ℕ). bit_xor a x) (xor_swap b c d) ∙ sym (xor_assoc a c (bit_xor b d))

-- one bit of an exclusive or
pub xor_at : (a b k : ℕ) → bit_xor a b / 2 ^ k % 2 ≡ bit_xor (a / 2 ^ k % 2) (b / 2 ^ k % 2)
xor_at a b k = ap (λ (x : ℕ). x % 2) (xor_shr a b k) ∙ xor_mod (a / 2 ^ k) (b / 2 ^ k) 1

-- ---- the bits of a number

pub length_bits_of : (n x : ℕ) → length (bits_of n x) ≡ n
unfolding bits_of
length_bits_of zero x = refl
length_bits_of (suc n) x = ap suc (length_bits_of n x)

pub get_or_bits_of : (n x i d : ℕ) → i < n → get_or (bits_of n x) i d ≡ x / 2 ^ (n - (i + 1)) % 2
unfolding bits_of
get_or_bits_of zero x i d h = absurd (not-suc-le-zero h)
get_or_bits_of (suc n) x zero d h = ap (λ (k : ℕ). x / 2 ^ k % 2) (first n)
  where
    first : (n : ℕ) → n ≡ suc n - (0 + 1)
    first n = omega arith
get_or_bits_of (suc n) x (suc i) d h = get_or_bits_of n x i d (omega arith) ∙ ap (λ (k : ℕ). x / 2 ^ k % 2) (next n i)
  where
    next : (n i : ℕ) → n - (i + 1) ≡ suc n - (suc i + 1)
    next n i = omega arith

pub bits_of_bits : (n x : ℕ) → AreBits (bits_of n x)
unfolding bits_of
bits_of_bits zero x i = omega arith
bits_of_bits (suc n) x zero = omega arith
bits_of_bits (suc n) x (suc i) = bits_of_bits n x i

-- the upper m bits, then the lower n
pub bits_of_split : (m n x : ℕ) → bits_of (m + n) x ≡ bits_of m (x / 2 ^ n) ++ bits_of n x
unfolding bits_of
bits_of_split zero n x = ap (λ (k : ℕ). bits_of k x) (zero-add n)
bits_of_split (suc m) n x =
    rw suc-add (ap₂ (λ (b : ℕ) (l : List ℕ). b % 2 ∷ l) (ap (λ (k : ℕ). x / 2 ^ k) (add_comm m n) ∙ sym (shr-shr x n m)) (bits_of_split m n x))

-- what lies above the lowest n bits does not count
pub bits_of_low : (n hi lo : ℕ) → bits_of n (hi * 2 ^ n + lo) ≡ bits_of n lo
unfolding bits_of
bits_of_low zero hi lo = refl
bits_of_low (suc n) hi lo = ap₂ (λ (b : ℕ) (l : List ℕ). b ∷ l) head (ap (λ (x : ℕ). bits_of n (x + lo)) shift ∙ bits_of_low n (hi * 2) lo)
  where
    shift : hi * 2 ^ suc n ≡ hi * 2 * 2 ^ n
    shift = rw (pow-suc 2 n) (omega arith)

    head : (hi * 2 ^ suc n + lo) / 2 ^ n % 2 ≡ lo / 2 ^ n % 2
    head = ap (λ (x : ℕ). x / 2 ^ n % 2) (ap (λ (x : ℕ). x + lo) shift ∙ add_comm (hi * 2 * 2 ^ n) lo)
        ∙ ap (λ (x : ℕ). x % 2) (add-mul-div_right lo (hi * 2) (pow_pos n)) ∙ even (lo / 2 ^ n) hi
      where
        even : (a b : ℕ) → (a + b * 2) % 2 ≡ a % 2
        even a b = omega arith

pub bits_of_mod : (n x : ℕ) → bits_of n (x % 2 ^ n) ≡ bits_of n x
bits_of_mod n x = sym (bits_of_low n (x / 2 ^ n) (x % 2 ^ n)) ∙ ap (λ (y : ℕ). bits_of n y) (split x n)

pub bits_of_join : (m n hi lo : ℕ) → lo < 2 ^ n → bits_of (m + n) (hi * 2 ^ n + lo) ≡ bits_of m hi ++ bits_of n lo
bits_of_join m n hi lo h =
    bits_of_split m n (hi * 2 ^ n + lo) ∙ ap₂ (λ (k l : List ℕ). k ++ l) (ap (λ (x : ℕ). bits_of m x) (high hi n h)) (bits_of_low n hi lo)
