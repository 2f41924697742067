-- A line of a program's input: one decimal number of 1 to `most` digits with no leading zero, 0 itself allowed (01, "The sizes program").
-- Assumes nothing.
use Rattle.std.specs.Prelude.{Bool, cond, ◌&&◌, ◌||◌, Option, None, Some, List, [], ◌∷◌, ℕ, ◌+◌, ◌-◌, ◌*◌, min, eqb, leb, ltb, length, get_or}

-- the digits are the bytes 48 to 57, and nothing else
unfoldable pub is_digit : ℕ → Bool
is_digit b = leb 48 b && leb b 57

-- the number that n becomes when the bytes are put behind it as digits; none where one of them is no digit
unfoldable pub read_on : ℕ → List ℕ → Option ℕ
read_on n [] = Some n
read_on n (b ∷ l) = cond (is_digit b) (read_on (n * 10 + (b - 48)) l) None

-- more digits than allowed; a limit above 19 counts as 19, since every number of 19 digits is below 2 ^ 64
unfoldable pub too_long : ℕ → List ℕ → Bool
too_long most l = ltb (min most 19) (length l)

-- a 0 before another byte
unfoldable pub leading_zero : List ℕ → Bool
leading_zero l = eqb (get_or l 0 0) 48 && ltb 1 (length l)

-- what the bytes of a line, without its newline, say: a number, or none where the line can't be read
unfoldable pub line_of : ℕ → List ℕ → Option ℕ
line_of most l = cond (eqb (length l) 0 || too_long most l || leading_zero l) None (read_on 0 l)
