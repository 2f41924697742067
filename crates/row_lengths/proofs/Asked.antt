-- The numbers of a line are below 2 ^ 64: no number of more than 19 digits is read.
-- Assumes nothing.
use mathlib.Core.Path.{◌≡◌, refl, ap}
use mathlib.Core.Bool.{Bool, true, false, cond, ◌||◌}
use mathlib.Core.List.{List}
use Prim.Native.Nat.{ℕ, ◌+◌, ◌-◌, ◌^◌, ◌≤◌, ◌<◌, min}
use native.Mathlib.Nat.{pow-le-pow_right}
use native.Mathlib.Omega.{arith}
use lib.Dec.{eqb, ltb, lit<}
use lib.ListN.{length}
use borrow.Author.Tests.{ltb-false}
use Rattle.std.specs.Prelude.{Option, None, Some, unwrap_or}
use Rattle.lines.specs.Line.{read_on, too_long, leading_zero, line_of}
use Rattle.lines.specs.Row.{places_in, decimal_of}
use Rattle.lines.proofs.Decimal.{length_digits, places_fewest}
use Rattle.lines.proofs.Spelling.{line_is}
use Rattle.requests.specs.declared.Form.{Form}
use Rattle.requests.specs.declared.Request.{Request}
use Rattle.requests.specs.declared.Verb.{Verb}
use Rattle.requests.specs.declared.Verb.TheVariants.{Nothing, Unreadable}
use Rattle.line_words.specs.Words.{word_at}
use Rattle.requests.specs.Verbs.{verb_of, form_of}
use Rattle.requests.specs.Numbers.{digits_at, read_word, number_at, field, fields}
use Rattle.requests.specs.Request.{longest_line, is_silent, well_formed, bare, call, asked_by, asked_for, request_of}
use Rattle.call_rows.specs.Rows.{at}

-- ---- a number that is read

few_digits : (n : ℕ) → length (decimal_of n) ≤ 19 → n < 2 ^ 64
unfolding decimal_of
few_digits n h =
    let less : places_in n n ≤ 19 = omega (arith, length_digits 10 (places_in n n) n) in
    let up : 10 ^ places_in n n ≤ 10 ^ 19 = pow-le-pow_right (lit< tt) less in
    omega (arith, (places_fewest n n (omega arith)).1)

read_short : (most : ℕ) (l : List ℕ) (n : ℕ) → line_of most l ≡ Some n → length l ≤ 19
unfolding line_of too_long
read_short most l n e = go (eqb (length l) 0) (ltb (min most 19) (length l)) (leading_zero l) refl e
  where
    go : (empty long zero : Bool) → ltb (min most 19) (length l) ≡ long → cond (empty || long || zero) None (read_on 0 l) ≡ Some n → length l ≤ 19
    go empty false zero q e = omega (arith, ltb-false (min most 19) (length l) q)
    go true true zero q e = let z : ◌≡◌ {A = ℕ} 0 1 = cc in let none : ⊥ = omega arith in absurd none
    go false true zero q e = let z : ◌≡◌ {A = ℕ} 0 1 = cc in let none : ⊥ = omega arith in absurd none

value_small : (most : ℕ) (l : List ℕ) → unwrap_or (line_of most l) 0 < 2 ^ 64
value_small most l = go (line_of most l) refl
  where
    go : (said : Option ℕ) → line_of most l ≡ said → unwrap_or said 0 < 2 ^ 64
    go (Some n) e = few_digits n (omega (arith, ap length (line_is most l n e), read_short most l n e))
    go None e = omega arith

-- ---- the numbers of a line

field_small : (l : List ℕ) (f : Form) (i : ℕ) → field l f i < 2 ^ 64
unfolding field number_at read_word
field_small l f i = go (ltb f.numbers i)
  where
    go : (fewer : Bool) → cond fewer 0 (unwrap_or (line_of (digits_at f i) (word_at l i)) 0) < 2 ^ 64
    go true = omega arith
    go false = value_small (digits_at f i) (word_at l i)

-- the one that is soft bits where a slot is opened for a downlink
pub soft_small : (l : List ℕ) → at (request_of l).numbers 6 < 2 ^ 64
unfolding request_of asked_for asked_by bare fields
soft_small l = go (is_silent l) (ltb longest_line (length l)) (form_of v)
  where
    v : Verb
    v = verb_of (word_at l 0)

    formed : (f : Form) (t : Bool) → at (cond {A = Request} t (call l v f) (bare Unreadable)).numbers 6 < 2 ^ 64
    formed f true = field_small l f 7
    formed f false = omega arith

    go : (silent long : Bool) (form : Option Form) → at (cond {A = Request} silent (bare Nothing) (cond long (bare Unreadable) (asked_by l v form))).numbers 6 < 2 ^ 64
    go true long form = omega arith
    go false true form = omega arith
    go false false None = omega arith
    go false false (Some f) = formed f (well_formed l f)
