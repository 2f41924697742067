-- The words of a line of the yard's log, parted by single blanks, and a run of digits as bits.
-- Assumes nothing.
use Rattle.std.specs.Prelude.{Bool, true, false, cond, not, ◌&&◌, List, [], ◌∷◌, ℕ, ◌-◌, eqb, length, get_or}
use Rattle.lines.specs.Line.{is_digit}
use Rattle.lines.specs.Text.{onto}

abbrev pub blank : ℕ
blank = 32

-- the words of a line: each blank ends one, so that a line has one word more than blanks
unfoldable pub words_of : List ℕ → List (List ℕ)
words_of [] = [] ∷ []
words_of (b ∷ l) = cond (eqb b blank) ([] ∷ words_of l) (onto b (words_of l))

-- word i of a line, the first being word 0: empty where the line has fewer
unfoldable pub word_at : List ℕ → ℕ → List ℕ
word_at l i = get_or (words_of l) i []

-- two runs of bytes are the same
unfoldable pub same_bytes : List ℕ → List ℕ → Bool
same_bytes [] [] = true
same_bytes [] (y ∷ ys) = false
same_bytes (x ∷ xs) [] = false
same_bytes (x ∷ xs) (y ∷ ys) = cond (eqb x y) (same_bytes xs ys) false

-- digits alone
unfoldable pub all_digits : List ℕ → Bool
all_digits [] = true
all_digits (b ∷ l) = cond (is_digit b) (all_digits l) false

-- BITS: a run of digits, at least one
unfoldable pub is_run : List ℕ → Bool
is_run w = not (eqb (length w) 0) && all_digits w

-- the byte that a digit stands for
unfoldable pub bit_of : ℕ → ℕ
bit_of b = b - 48
