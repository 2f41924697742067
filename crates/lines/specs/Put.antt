-- Bytes put into an output at a place: all of them where they fit, else none.
-- Assumes nothing.
use Rattle.std.specs.Prelude.{Bool, cond, List, ◌++◌, ℕ, ◌+◌, leb, length, take, drop}

-- the output with the bytes w from place `at` on: all other bytes stay
unfoldable pub put_over : ℕ → List ℕ → List ℕ → List ℕ
put_over at w out = take at out ++ (w ++ drop (at + length w) out)

-- whether there is room for them
unfoldable pub fits : ℕ → List ℕ → List ℕ → Bool
fits at w out = leb (at + length w) (length out)

-- the output after a put
unfoldable pub put_at : ℕ → List ℕ → List ℕ → List ℕ
put_at at w out = cond (fits at w out) (put_over at w out) out

-- the place after the bytes, or `at` where they do not fit
unfoldable pub end_at : ℕ → List ℕ → List ℕ → ℕ
end_at at w out = cond (fits at w out) (at + length w) at
