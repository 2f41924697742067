-- Laws of reading a line (`read_on`): one byte more, and the bound that keeps the number below 2 ^ 64.
-- Assumes nothing.
use mathlib.Core.Path.{◌≡◌, refl, sym, ◌∙◌, ap}
use mathlib.Core.Bool.{true, false, cond}
use mathlib.Core.List.{List}
use Prim.Native.Nat.{ℕ, ◌+◌, ◌-◌, ◌*◌, ◌^◌, ◌≤◌, ◌<◌, min}
use native.Mathlib.Nat.{pow-suc, pow-le-pow_right}
use native.Mathlib.Numerals.{add-one}
use native.Mathlib.Omega.{arith}
use lib.Dec.{lit<}
use lib.ListN.{length, get_or, drop, drop_of_length-le}
use borrow.Author.Tests.{ne_eqb, le-ltb}
use Rattle.std.proofs.Common.{Some, None}
use Rattle.std.proofs.lemmas.Bool.Decides.{nat_tests}
use Rattle.laws.proofs.Writing.{drop_next}
use Rattle.lines.specs.Line.{is_digit, read_on, too_long, leading_zero, line_of}

-- after i bytes of the line, which gave n: what is still read is what the whole line says
pub record Reading (line : List ℕ) (n i : ℕ) : Type 0 where
  pub within : i ≤ length line
  pub small : n < 10 ^ i
  pub told : read_on n (drop i line) ≡ read_on 0 line

pub start : (line : List ℕ) → Reading line 0 0
start line = record { within = omega arith; small = omega arith; told = refl }

digit_small : (b : ℕ) → is_digit b ≡ true → b ≤ 57
unfolding is_digit
digit_small b e = grind (arith, nat_tests)

-- the byte at i is looked at
turn : (line : List ℕ) (n i : ℕ) → i < length line
    → read_on n (drop i line) ≡ cond (is_digit (get_or line i 0)) (read_on (n * 10 + (get_or line i 0 - 48)) (drop (i + 1) line)) None
unfolding read_on
turn line n i h = rw (drop_next line i h)

module _ {line : List ℕ} {n i : ℕ} (r : Reading line n i) (h : i < length line) where
  pub next : is_digit (get_or line i 0) ≡ true → Reading line (n * 10 + (get_or line i 0 - 48)) (i + 1)
  next e = record {
    within = omega arith;
    small = rw (add-one i, pow-suc 10 i) (omega (arith, r.small, digit_small (get_or line i 0) e));
    told = sym (simp e at (turn line n i h)) ∙ r.told;
  }

  pub other : is_digit (get_or line i 0) ≡ false → None ≡ read_on 0 line
  other e = sym (simp e at (turn line n i h)) ∙ r.told

pub finish : {line : List ℕ} {n i : ℕ} → Reading line n i → length line ≤ i → Some n ≡ read_on 0 line
unfolding read_on
finish {line} {n} {i} r h = sym (ap (λ (l : List ℕ). read_on n l) (drop_of_length-le line h)) ∙ r.told

-- one digit more keeps a number of at most 19 digits below 2 ^ 64
pub held : (line : List ℕ) (n i : ℕ) → Reading line n i → i < length line → length line ≤ 19 → n < 10 ^ 18
held line n i r h l = omega (arith, r.small, up)
  where
    up : 10 ^ i ≤ 10 ^ 18
    up = let less : i ≤ 18 = omega arith in pow-le-pow_right (lit< tt) less

-- a line that passes the tests on its length and its first byte
pub readable : (most : ℕ) (l : List ℕ) → (length l ≡ 0 → ⊥) → length l ≤ min most 19 → leading_zero l ≡ false → read_on 0 l ≡ line_of most l
unfolding line_of too_long
readable most l a b e = simp (ne_eqb _ _ a, le-ltb _ _ b, e)
