-- The message whose repeated code differs from the received control bits in the fewest places (02, E3), and whether another is as near.
-- Assumes nothing.
use Rattle.std.specs.Prelude.{Bool, true, false, cond, ◌||◌, List, [], ◌∷◌, ℕ, zero, suc, ◌+◌, ◌-◌, ◌^◌, eqb, ltb, length}
use Rattle.codeword.specs.Build.{bad_bits}
use Rattle.report_code.specs.declared.search.Found.{Found}
use Rattle.report_code.specs.Code.{control_bits}
use Rattle.report_code.specs.Words.{message_bits}

-- in how many places two runs differ
unfoldable pub differences : List ℕ → List ℕ → ℕ
differences [] ys = 0
differences (x ∷ xs) [] = 0
differences (x ∷ xs) (y ∷ ys) = cond (eqb x y) 0 1 + differences xs ys

-- in how many places the received control bits differ from those of a report
unfoldable pub distance : List ℕ → List ℕ → ℕ
distance received o = differences received (control_bits o (length received))

-- the same for message number m of O bits
unfoldable pub distance_of : ℕ → List ℕ → ℕ → ℕ
distance_of O received m = distance received (message_bits O m)

-- the nearest so far, after message number m at distance d
unfoldable pub nearer_of : Found → ℕ → ℕ → Found
nearer_of found m d =
    cond (ltb d found.distance) (record { message = m; distance = d; tied = false })
    (cond (eqb d found.distance) (record { message = found.message; distance = found.distance; tied = true }) found)

-- the nearest of the messages 0, .., n at distances f 0, .., f n
unfoldable pub nearest_up_to : (ℕ → ℕ) → ℕ → Found
nearest_up_to f zero = record { message = 0; distance = f 0; tied = false }
nearest_up_to f (suc n) = nearer_of (nearest_up_to f n) (suc n) (f (suc n))

-- the nearest of all messages of O bits
unfoldable pub nearest_message : ℕ → List ℕ → Found
nearest_message O received = nearest_up_to (distance_of O received) (2 ^ O - 1)

-- more bits than a report has, more control bits than four layers carry, or what is no bit
unfoldable pub unfit : ℕ → List ℕ → Bool
unfit O received = ltb 11 O || (ltb 16384 (length received) || bad_bits received)

-- what `nearest` answers: where its arguments are unfit, nothing that could be taken for an answer
unfoldable pub nearest_of : ℕ → List ℕ → Found
nearest_of O received = cond (unfit O received) (record { message = 0; distance = 0; tied = true }) (nearest_message O received)
