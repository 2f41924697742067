-- The calls after an opening, demand 3: whether one of them ends what it began, the receptions that they had accepted, and a read that gives nothing out.
-- Assumes nothing.
use Rattle.std.specs.Prelude.{◌≡◌, Bool, true, false, ◌&&◌, List, [], ◌∷◌, ◌++◌, ℕ, eqb, length}
use Rattle.slots.specs.declared.State.{State}
use Rattle.slots.specs.Answers.{Lacking}
use Rattle.slots.specs.Calls.{read_outcome, read_output, close_number}
use Rattle.history.specs.Links.{opening_number}
use Rattle.history.specs.Calls.{Reception, Call, opening, receiving, reading, streaming, closing, History}
use Rattle.history.specs.Accepted.{lent_length, heads_after, since_call}

-- an Open or a Close
unfoldable pub opens_or_closes : Call → Bool
opens_or_closes (opening link slot terminal A) = true
opens_or_closes (receiving slot terminal r) = false
opens_or_closes (reading slot terminal size) = false
opens_or_closes (streaming slot terminal block size) = false
opens_or_closes (closing slot terminal) = true

-- an accepted opening or closing of the slot
unfoldable pub restarts : State → ℕ → ℕ → Call → Bool
restarts state lent slot (opening link s terminal A) = eqb s slot && eqb (opening_number link state lent s A) 0
restarts state lent slot (receiving s terminal r) = false
restarts state lent slot (reading s terminal size) = false
restarts state lent slot (streaming s terminal block size) = false
restarts state lent slot (closing s terminal) = eqb s slot && eqb (close_number state s terminal) 0

-- none of the later calls, made after the history h, is an accepted opening or closing of the slot
abbrev pub Undisturbed : ℕ → ℕ → ℕ → ℕ → History → History → Type 0
Undisturbed S M n slot [] h = Unit {0}
Undisturbed S M n slot (m ∷ later) h =
    (restarts (heads_after S M n (later ++ h)) (lent_length (heads_after S M n (later ++ h)) n m.past) slot m.call ≡ false)
    × Undisturbed S M n slot later h

-- the accepted receptions of the slot among the later calls, latest first (since the last that restarts it, if one does); those of h are not looked at
unfoldable pub accepted_in : ℕ → ℕ → ℕ → ℕ → History → History → List Reception
accepted_in S M n slot [] h = []
accepted_in S M n slot (m ∷ later) h =
    since_call
    (heads_after S M n (later ++ h))
    (lent_length (heads_after S M n (later ++ h)) n m.past)
    slot
    m.call
    (accepted_in S M n slot later h)

-- a read answers that n data places lack a bit, the state stays, and no byte of the output is written
abbrev pub Withheld : State → List ℕ → ℕ → ℕ → List ℕ → ℕ → Type 0
Withheld state store slot terminal out n =
    (read_outcome state store slot terminal (length out) ≡ record { answer = Lacking n; state = state })
    × (read_output state store slot terminal out ≡ out)
