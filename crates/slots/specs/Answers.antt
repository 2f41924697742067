-- 01's number and values of an answer, and the refusals that bring a number (01 and 02, E1).
-- Assumes nothing.
use Rattle.std.specs.Prelude.{Bool, true, false, cond, List, [], ◌∷◌, ℕ, eqb}
use Rattle.slots.specs.Outcome.{Answer}
use Rattle.slots.specs.Outcome.{Done, StillLacking, Refused, RefusedWith}
use Rattle.slots.specs.Outcome.{Outcome}
use Rattle.slots.specs.declared.State.{State}

-- the number given back: 0 where the call is accepted
unfoldable pub number_of : Answer → ℕ
number_of Done = 0
number_of (StillLacking n) = 0
number_of (Refused n) = n
number_of (RefusedWith n x) = n

-- what is also returned
unfoldable pub values_of : Answer → List ℕ
values_of Done = []
values_of (StillLacking n) = n ∷ []
values_of (Refused n) = []
values_of (RefusedWith n x) = x ∷ []

-- 11, with how many data places lack a bit
abbrev pub Lacking : ℕ → Answer
Lacking n = RefusedWith 11 n

-- 16, with the first code block whose check is wrong
abbrev pub WrongBlock : ℕ → Answer
WrongBlock r = RefusedWith 16 r

-- accepted, with nothing to tell but what was written
unfoldable pub is_done : Answer → Bool
is_done Done = true
is_done (StillLacking n) = false
is_done (Refused n) = false
is_done (RefusedWith n x) = false

-- the number's refusal with the state as it came, or the accepted outcome
unfoldable pub unless_refused : ℕ → State → Outcome → Outcome
unless_refused number state accepted =
    cond (eqb number 0) accepted (record { answer = Refused number; state = state })
