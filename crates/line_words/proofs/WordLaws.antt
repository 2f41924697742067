-- Laws of the words of a line (`words_of`): they are the parts between its blanks.
-- Assumes nothing.
use Rattle.std.proofs.Common.{◌≡◌, ℕ, zero, suc, ◌+◌, ◌≤◌, Bool, true, false, cond, List, [], ◌∷◌, length, get_or, refl, sym, ◌∙◌, ap, eqb, count_by, arith}
use mir.Val.{bool_byte}
use Rattle.std.specs.List.{slice_split, onto_first}
use Rattle.std.proofs.lemmas.List.Splits.{length-slice_split}
use Rattle.lines.specs.Text.{onto}
use Rattle.line_words.specs.Words.{blank, words_of, word_at}

-- a test as a number is at most 1
pub byte_le : (b : Bool) → bool_byte b ≤ 1
byte_le true = omega arith
byte_le false = omega arith

onto_is : (b : ℕ) (ws : List (List ℕ)) → onto b ws ≡ onto_first b ws
unfolding onto
onto_is b [] = refl
onto_is b (w ∷ ws) = refl

pub words_split : (l : List ℕ) → slice_split (λ b. eqb b blank) l ≡ words_of l
unfolding words_of
words_split [] = refl
words_split (b ∷ l) = ap (λ (ws : List (List ℕ)). cond (eqb b blank) ([] ∷ ws) (onto_first b ws)) (words_split l) ∙ ap (cond (eqb b blank) ([] ∷ words_of l)) (sym (onto_is b (words_of l)))

-- one word more than blanks
pub words_counted : (l : List ℕ) → count_by (λ b. eqb b blank) l + 1 ≡ length (words_of l)
words_counted l = sym (length-slice_split (λ b. eqb b blank) l) ∙ ap length (words_split l)

-- no word is longer than its line
short : (l : List ℕ) (i : ℕ) → length (get_or (words_of l) i []) ≤ length l
unfolding words_of onto
short [] zero = omega arith
short [] (suc i) = omega arith
short (b ∷ l) i = go (eqb b blank) (words_of l) i (short l)
  where
    go : (ends : Bool) (ws : List (List ℕ)) (k : ℕ) → ((j : ℕ) → length (get_or ws j []) ≤ length l)
        → length (get_or (cond ends ([] ∷ ws) (onto b ws)) k []) ≤ suc (length l)
    go true ws zero h = omega arith
    go true ws (suc k) h = omega (arith, h k)
    go false [] zero h = omega arith
    go false [] (suc k) h = omega arith
    go false (w ∷ ws) zero h = omega (arith, h 0)
    go false (w ∷ ws) (suc k) h = omega (arith, h (suc k))

pub word_short : (l : List ℕ) (i : ℕ) → length (word_at l i) ≤ length l
unfolding word_at
word_short l i = short l i
