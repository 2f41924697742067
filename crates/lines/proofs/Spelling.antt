-- A line that can be read is its number in decimal, so that a number that is printed is the line itself.
-- Assumes nothing.
use mathlib.Core.Path.{◌≡◌, refl, sym, ◌∙◌, ap}
use mathlib.Core.Bool.{Bool, true, false, cond, ◌||◌, and-eq-true_iff, and-false}
use mathlib.Core.List.{List, [], ◌∷◌, ◌++◌}
use Prim.Native.Nat.{ℕ, zero, suc, ◌+◌, ◌-◌, ◌*◌, ◌/◌, ◌%◌, ◌^◌, ◌≤◌, ◌<◌, min}
use native.Mathlib.Nat.{pow-suc, pow-succ', div-one, one-le-pow, div-div-eq-div-mul, div-add-mod', div-eq_of_lt, div-lt_iff_lt-mul, mod-lt, mod-eq_of_lt}
use native.Mathlib.Numerals.{sub-one}
use native.Mathlib.Omega.{arith}
use lib.Dec.{leb, ltb, eqb, lit<}
use lib.Arith.{mod-mul}
use lib.ListN.{length}
use borrow.Author.Tests.{leb-true, le-leb, ltb-true, ltb-false, lt-ltb, eq-eqb, ne_eqb, eqb-false}
use Rattle.std.specs.Prelude.{Some, None}
use Rattle.lines.specs.Digits.{last_digits, hex_digit_ascii, IsDigitCount}
use Rattle.lines.specs.Line.{is_digit, read_on, too_long, leading_zero, line_of}
use Rattle.lines.specs.Row.{places_in, decimal_of}
use Rattle.lines.proofs.Decimal.{length_digits, places_fewest, decimal_is}
use Rattle.lines.proofs.Reading.{readable}

tens : (k : ℕ) → 0 < 10 ^ k
tens k = one-le-pow k 10 (lit< tt)

-- the k + 1 last digits of n begin with the one at 10 ^ k
digits_front : (k n : ℕ) → last_digits 10 (suc k) n ≡ hex_digit_ascii (n / 10 ^ k % 10) ∷ last_digits 10 k n
digits_front zero n = ap (λ (x : ℕ). hex_digit_ascii (x % 10) ∷ []) (sym (div-one n))
digits_front (suc k) n =
    ap (λ (l : List ℕ). l ++ (hex_digit_ascii (n % 10) ∷ [])) (digits_front k (n / 10))
    ∙ ap (λ (x : ℕ). hex_digit_ascii (x % 10) ∷ (last_digits 10 k (n / 10) ++ (hex_digit_ascii (n % 10) ∷ []))) (div-div-eq-div-mul n 10 (10 ^ k) ∙ ap (λ (p : ℕ). n / p) (sym (pow-succ' 10 k)))

glyph_is : (b : ℕ) → 48 ≤ b → b ≤ 57 → hex_digit_ascii (b - 48) ≡ b
glyph_is b h g = let small : b - 48 < 10 = omega arith in simp (lt-ltb _ _ small) (omega arith)

-- the first byte of a line that can be read is a digit, and the others are read on
first_read : (b : ℕ) (l : List ℕ) (m n : ℕ) → read_on m (b ∷ l) ≡ Some n → (48 ≤ b) × (b ≤ 57) × (read_on (m * 10 + (b - 48)) l ≡ Some n)
unfolding read_on is_digit
first_read b l m n e = go (is_digit b) refl e
  where
    go : (t : Bool) → is_digit b ≡ t → cond t (read_on (m * 10 + (b - 48)) l) None ≡ Some n → (48 ≤ b) × (b ≤ 57) × (read_on (m * 10 + (b - 48)) l ≡ Some n)
    go true t e = let d = (and-eq-true_iff (leb 48 b) (leb b 57)).0 t in (leb-true 48 b d.0, leb-true b 57 d.1, e)
    go false t e = let z : ◌≡◌ {A = ℕ} 0 1 = cc in let none : ⊥ = omega arith in absurd none

-- n read after m has m in front and the line behind it
spelled : (l : List ℕ) (m n : ℕ) → read_on m l ≡ Some n → (n / 10 ^ length l ≡ m) × (last_digits 10 (length l) n ≡ l)
unfolding read_on
spelled [] m n e = let same : n ≡ m = cc in (div-one n ∙ same, refl)
spelled (b ∷ l) m n e = more (first_read b l m n e) (spelled l (m * 10 + (b - 48)) n (first_read b l m n e).2)
  where
    more : (48 ≤ b) × (b ≤ 57) × (read_on (m * 10 + (b - 48)) l ≡ Some n) → (n / 10 ^ length l ≡ m * 10 + (b - 48)) × (last_digits 10 (length l) n ≡ l)
        → (n / 10 ^ suc (length l) ≡ m) × (last_digits 10 (suc (length l)) n ≡ b ∷ l)
    more d r = (
      ap (λ (p : ℕ). n / p) (pow-suc 10 (length l)) ∙ sym (div-div-eq-div-mul n (10 ^ length l) 10) ∙ ap (λ (x : ℕ). x / 10) r.0 ∙ front,
      digits_front (length l) n ∙ ap (λ (x : ℕ). hex_digit_ascii (x % 10) ∷ last_digits 10 (length l) n) r.0 ∙ ap (λ (x : ℕ). hex_digit_ascii x ∷ last_digits 10 (length l) n) back
          ∙ ap (λ (x : ℕ). x ∷ last_digits 10 (length l) n) (glyph_is b d.0 d.1) ∙ ap (λ (k : List ℕ). b ∷ k) r.1,
    )
      where
        front : (m * 10 + (b - 48)) / 10 ≡ m
        front = omega (arith, d.0, d.1)

        back : (m * 10 + (b - 48)) % 10 ≡ b - 48
        back = omega (arith, d.0, d.1)

neither : (x y : Bool) → x || y ≡ false → (x ≡ false) × (y ≡ false)
neither false y e = (refl, e)
neither true y e = let z : ◌≡◌ {A = ℕ} 0 1 = cc in let none : ⊥ = omega arith in absurd none

below : (n p : ℕ) → 0 < p → n / p ≡ 0 → n < p
below n p h e = omega (arith, rw e at (div-add-mod' n p), mod-lt n h)

at_least : (n p : ℕ) → 0 < n / p → p ≤ n
at_least n p h = go (ltb n p) refl
  where
    go : (b : Bool) → ltb n p ≡ b → p ≤ n
    go true e = let none : ⊥ = omega (arith, div-eq_of_lt (ltb-true n p e), h) in absurd none
    go false e = ltb-false n p e

-- the digits of a line that can be read are the fewest
fewest : (l : List ℕ) (n : ℕ) → (length l ≡ 0 → ⊥) → leading_zero l ≡ false → read_on 0 l ≡ Some n → IsDigitCount 10 1 n (length l)
unfolding leading_zero
fewest [] n h z e = absurd (h refl)
fewest (b ∷ l) n h z e = (omega arith, below n (10 ^ suc (length l)) (tens (suc (length l))) (spelled (b ∷ l) 0 n e).0, λ (g : 1 < suc (length l)). rw sub-one (low g))
  where
    low : 1 < suc (length l) → 10 ^ length l ≤ n
    low g = at_least n (10 ^ length l) (omega (arith, r.0, d.0, other))
      where
        d : (48 ≤ b) × (b ≤ 57) × (read_on (0 * 10 + (b - 48)) l ≡ Some n)
        d = first_read b l 0 n e

        r : (n / 10 ^ length l ≡ 0 * 10 + (b - 48)) × (last_digits 10 (length l) n ≡ l)
        r = spelled l (0 * 10 + (b - 48)) n d.2

        other : b ≡ 48 → ⊥
        other q = let c : ◌≡◌ {A = Bool} true false = sym (simp (eq-eqb b 48 q, lt-ltb 1 (suc (length l)) g)) ∙ z in let y : ◌≡◌ {A = ℕ} 0 1 = cc in omega arith

-- a line that can be read is its number in decimal
pub line_is : (most : ℕ) (l : List ℕ) (n : ℕ) → line_of most l ≡ Some n → decimal_of n ≡ l
unfolding line_of
line_is most l n e = go (eqb (length l) 0 || too_long most l || leading_zero l) refl e
  where
    go : (t : Bool) → (eqb (length l) 0 || too_long most l || leading_zero l) ≡ t → cond t None (read_on 0 l) ≡ Some n → decimal_of n ≡ l
    go true t e = let z : ◌≡◌ {A = ℕ} 0 1 = cc in let none : ⊥ = omega arith in absurd none
    go false t e =
        let first = neither (eqb (length l) 0 || too_long most l) (leading_zero l) t in
        let empty = neither (eqb (length l) 0) (too_long most l) first.0 in
        sym (decimal_is n (length l) (fewest l n (eqb-false (length l) 0 empty.0) first.1 e)) ∙ (spelled l 0 n e).1

-- ---- and the other way: every number of so few digits can be read

is_digit_lem : (d : ℕ) → d < 10 → (is_digit (hex_digit_ascii d) ≡ true) × (hex_digit_ascii d - 48 ≡ d)
unfolding is_digit
is_digit_lem d h = (simp (lt-ltb d 10 h, le-leb 48 (48 + d) (omega arith), le-leb (48 + d) 57 (omega arith)), simp (lt-ltb d 10 h) (omega arith))

read_digit : (d : ℕ) (l : List ℕ) (m : ℕ) → d < 10 → read_on m (hex_digit_ascii d ∷ l) ≡ read_on (m * 10 + d) l
unfolding read_on
read_digit d l m h = let b = is_digit_lem d h in simp (b.0, b.1)

read_digits : (k m n : ℕ) → read_on m (last_digits 10 k n) ≡ Some (m * 10 ^ k + n % 10 ^ k)
unfolding read_on
read_digits zero m n = let same : m ≡ m * 1 + n % 1 = omega arith in ap Some same
read_digits (suc k) m n =
    ap (read_on m) (digits_front k n)
    ∙ read_digit (n / 10 ^ k % 10) (last_digits 10 k n) m (omega arith)
    ∙ read_digits k (m * 10 + n / 10 ^ k % 10) n
    ∙ ap Some same
  where
    same : (m * 10 + n / 10 ^ k % 10) * 10 ^ k + n % 10 ^ k ≡ m * 10 ^ suc k + n % 10 ^ suc k
    same = rw (pow-succ' 10 k, mod-mul n (lit< tt) (tens k)) (omega arith)

-- no 0 stands in front
no_zero : (n k : ℕ) → IsDigitCount 10 1 n k → leading_zero (last_digits 10 k n) ≡ false
unfolding leading_zero
no_zero n zero f = let none : ⊥ = omega (arith, f.0) in absurd none
no_zero n (suc zero) f = and-false (eqb (hex_digit_ascii (n % 10)) 48)
no_zero n (suc (suc k)) f = rw (digits_front (suc k) n) (rw (ne_eqb _ 48 other) refl)
  where
    low : 10 ^ suc k ≤ n
    low = rw sub-one at (f.2 (omega arith))

    one_digit : n / 10 ^ suc k < 10
    one_digit = (div-lt_iff_lt-mul (tens (suc k))).1 (rw (pow-succ' 10 (suc k)) at f.1)

    other : hex_digit_ascii (n / 10 ^ suc k % 10) ≡ 48 → ⊥
    other e =
        let nought : n / 10 ^ suc k ≡ 0 = omega (arith, (is_digit_lem (n / 10 ^ suc k % 10) (omega arith)).1, e, one_digit) in
        omega (arith, below n (10 ^ suc k) (tens (suc k)) nought, low)

-- a number in decimal can be read as that number
pub decimal_read : (most n : ℕ) → length (decimal_of n) ≤ min most 19 → line_of most (decimal_of n) ≡ Some n
unfolding decimal_of
decimal_read most n h = sym (readable most (last_digits 10 k n) some h (no_zero n k f)) ∙ read_digits k 0 n ∙ ap Some whole
  where
    k : ℕ
    k = places_in n n

    f : IsDigitCount 10 1 n k
    f = places_fewest n n (omega arith)

    some : length (last_digits 10 k n) ≡ 0 → ⊥
    some e = omega (arith, f.0, length_digits 10 k n, e)

    whole : 0 * 10 ^ k + n % 10 ^ k ≡ n
    whole = rw (mod-eq_of_lt f.1) (omega arith)
