-- Laws of a line that asks for a call (`request_of`): it is no longer than a line may be, its numbers are its words', and its terminal is a 16-bit number.
-- Assumes nothing.
use Rattle.std.proofs.Common.{◌≡◌, refl, sym, ◌∙◌, ap, Bool, true, false, cond, not, ◌&&◌, ◌||◌, Option, None, Some, List, ℕ, ◌≤◌, leb, ltb, length, get_or, arith}
use mathlib.Core.Bool.{false≢true}
use Rattle.std.proofs.lemmas.Option.{same_Some}
use borrow.Author.Tests.{leb-true, ltb-false}
use Rattle.line_words.specs.Words.{word_at}
use Rattle.requests.specs.declared.Form.{Form}
use Rattle.requests.specs.declared.Verb.{Verb}
use Rattle.requests.specs.declared.Verb.TheVariants.{Nothing, Unreadable}
use Rattle.requests.specs.Verbs.{form_of, verb_of}
use Rattle.requests.specs.Numbers.{field, fields, number_at}
use Rattle.requests.specs.Request.{longest_line, is_silent, right_words, right_terminal, right_bits, well_formed, bare, asked_by, asked_for, request_of}

-- what a line that asks for a call with this form has
pub record Asked (l : List ℕ) (f : Form) : Type 0 where
  pub short : length l ≤ longest_line
  pub formed : well_formed l f ≡ true
  pub numbers_are : (request_of l).numbers ≡ fields l f

for_is : (l : List ℕ) (w : Verb) → asked_for l w ≡ asked_by l w (form_of w)
unfolding asked_for
for_is l w = refl

module _ (l : List ℕ) (v : Verb) (f : Form) (is : (request_of l).verb ≡ v) (known : form_of v ≡ Some f) where
  -- a line that asks for no call has not this verb
  other : (w : Verb) → (request_of l).verb ≡ w → form_of w ≡ None → ⊥
  other w e no_call = let both : ◌≡◌ {A = Option Form} (Some f) None = sym known ∙ ap form_of (sym is ∙ e) ∙ no_call in cc

  abbrev w : Verb
  w = verb_of (word_at l 0)

  found : (a b : Bool) (o : Option Form) → is_silent l ≡ a → ltb longest_line (length l) ≡ b → form_of w ≡ o → Asked l f
  unfolding request_of asked_by bare form_of
  found true b o ea eb eo = absurd (other Nothing (simp (ea)) refl)
  found false true o ea eb eo = absurd (other Unreadable (simp (ea, eb)) refl)
  found false false None ea eb eo = absurd (other Unreadable (simp (ea, eb, for_is l w, eo)) refl)
  found false false (Some g) ea eb eo = go (well_formed l g) refl
    where
      go : (c : Bool) → well_formed l g ≡ c → Asked l f
      go false ec = absurd (other Unreadable (simp (ea, eb, for_is l w, eo, ec)) refl)
      go true ec =
          let same : w ≡ v = sym (simp (ea, eb, for_is l w, eo, ec)) ∙ is in
          let form : g ≡ f = same_Some g f (sym eo ∙ ap form_of same ∙ known) in
          record {
            short = ltb-false _ _ eb;
            formed = rw (← form) ec;
            numbers_are = rw (← form) (simp (ea, eb, for_is l w, eo, ec));
          }

  pub asked : Asked l f
  asked = found (is_silent l) (ltb longest_line (length l)) (form_of w) refl refl refl

  -- the terminal of a call that has one
  pub terminal_fits : f.terminal ≡ true → get_or (request_of l).numbers 1 0 ≤ 65535
  unfolding well_formed right_terminal fields field
  terminal_fits has =
      rw asked.numbers_are (at_most (ltb f.numbers 2) (leb-true _ _ (go f.terminal (right_words l f) (leb (number_at l f 2) 65535) (right_bits l f) has asked.formed)))
    where
      at_most : (t : Bool) {n : ℕ} → n ≤ 65535 → cond t 0 n ≤ 65535
      at_most true h = omega arith
      at_most false h = h

      go : (s w t b : Bool) → s ≡ true → (w && ((not s || t) && b)) ≡ true → t ≡ true
      go true true true b e h = refl
      go true true false b e h = h
      go true false t b e h = absurd (false≢true h)
      go false w t b e h = absurd (false≢true e)
