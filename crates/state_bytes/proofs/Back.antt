-- Numbers come back from their bytes: what is read depends on the bytes read alone, and the bytes of numbers are those numbers.
-- Assumes nothing.
use mathlib.Core.Path.{◌≡◌, refl, sym, ◌∙◌, ap, ap₂}
use mathlib.Core.List.{List, [], ◌∷◌, ◌++◌, append_assoc}
use Prim.Native.Nat.{ℕ, zero, suc, ◌+◌, ◌*◌, ◌/◌, ◌%◌, ◌^◌, ◌<◌}
use native.Mathlib.Nat.{pow-suc}
use native.Mathlib.Omega.{arith}
use lib.ListN.{length, get_or, length-append}
use lib.Seq.{get_or-append-add}
use Rattle.state_bytes.specs.Numbers.{low_bytes, in_bytes, number_from}

-- ---- what is read

pub same_number : (n : ℕ) (a b : List ℕ) (at bt : ℕ) → ((k : ℕ) → k < n → get_or a (at + k) 0 ≡ get_or b (bt + k) 0) → number_from n a at ≡ number_from n b bt
unfolding number_from
same_number zero a b at bt h = refl
same_number (suc n) a b at bt h = ap₂ (λ (x y : ℕ). x + 256 * y) first (same_number n a b (at + 1) (bt + 1) rest)
  where
    here : (i : ℕ) → i ≡ i + 0
    here i = omega arith

    on : (i k : ℕ) → i + 1 + k ≡ i + (k + 1)
    on i k = omega arith

    first : get_or a at 0 ≡ get_or b bt 0
    first = ap (λ (i : ℕ). get_or a i 0) (here at) ∙ h 0 (omega arith) ∙ ap (λ (i : ℕ). get_or b i 0) (sym (here bt))

    rest : (k : ℕ) → k < n → get_or a (at + 1 + k) 0 ≡ get_or b (bt + 1 + k) 0
    rest k l = ap (λ (i : ℕ). get_or a i 0) (on at k) ∙ h (k + 1) (omega arith) ∙ ap (λ (i : ℕ). get_or b i 0) (sym (on bt k))

-- past a front
pub skip : (n : ℕ) (a l : List ℕ) (at : ℕ) → number_from n (a ++ l) (length a + at) ≡ number_from n l at
skip n a l at = same_number n (a ++ l) l (length a + at) at (λ k b. ap (λ (i : ℕ). get_or (a ++ l) i 0) (further k) ∙ get_or-append-add a l (at + k) 0)
  where
    further : (k : ℕ) → length a + at + k ≡ length a + (at + k)
    further k = omega arith

-- ---- what was written

pub length_low : (n x : ℕ) → length (low_bytes n x) ≡ n
unfolding low_bytes
length_low zero x = refl
length_low (suc n) x = ap suc (length_low n (x / 256))

pub length_in : (w : ℕ) (xs : List ℕ) → length (in_bytes w xs) ≡ length xs * w
unfolding in_bytes
length_in w [] = omega arith
length_in w (x ∷ xs) = length-append (low_bytes w x) (in_bytes w xs) ∙ omega (arith, length_low w x, length_in w xs)

pub in_append : (w : ℕ) (xs ys : List ℕ) → in_bytes w (xs ++ ys) ≡ in_bytes w xs ++ in_bytes w ys
unfolding in_bytes
in_append w [] ys = refl
in_append w (x ∷ xs) ys = ap (λ (l : List ℕ). low_bytes w x ++ l) (in_append w xs ys) ∙ sym (append_assoc (low_bytes w x) (in_bytes w xs) (in_bytes w ys))

pub low_back : (n x : ℕ) (rest : List ℕ) → x < 256 ^ n → number_from n (low_bytes n x ++ rest) 0 ≡ x
unfolding low_bytes number_from
low_back zero x rest h = omega arith
low_back (suc n) x rest h = omega (arith, skip n (x % 256 ∷ []) (low_bytes n (x / 256) ++ rest) 0, low_back n (x / 256) rest less)
  where
    less : x / 256 < 256 ^ n
    less = omega (arith, rw (pow-suc 256 n) at h)

-- number i of several
pub numbers_back : (w : ℕ) (xs rest : List ℕ) (i : ℕ) → i < length xs → get_or xs i 0 < 256 ^ w → number_from w (in_bytes w xs ++ rest) (i * w) ≡ get_or xs i 0
unfolding in_bytes
numbers_back w [] rest i l h = absurd (omega arith)
numbers_back w (x ∷ xs) rest zero l h =
    ap₂ (number_from w) (append_assoc (low_bytes w x) (in_bytes w xs) rest) none ∙ low_back w x (in_bytes w xs ++ rest) h
  where
    none : 0 * w ≡ 0
    none = omega arith
numbers_back w (x ∷ xs) rest (suc i) l h =
    ap₂ (number_from w) (append_assoc (low_bytes w x) (in_bytes w xs) rest) past
    ∙ skip w (low_bytes w x) (in_bytes w xs ++ rest) (i * w)
    ∙ numbers_back w xs rest i (omega arith) h
  where
    past : suc i * w ≡ length (low_bytes w x) + i * w
    past = omega (arith, length_low w x)
