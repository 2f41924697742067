-- After a history, demand 3: the state, the store that the next call is lent, and what was accepted for a slot since it was last opened or closed.
-- Assumes nothing.
use Rattle.std.specs.Prelude.{List, ◌∷◌, ℕ, length}
use Rattle.slots.specs.declared.State.{State}
use Rattle.history.specs.Calls.{Reception, Call, History}
use Rattle.history.specs.Run.{lent, begin, run}
use Rattle.history.specs.Accepted.{since}

-- one more call, and the bytes that stand past the rooms when it is made
abbrev pub made : Call → List ℕ → History → History
made call past h = record { call = call; past = past } ∷ h

abbrev pub state_after : ℕ → ℕ → List ℕ → History → State
state_after S M store₀ h = (run S M store₀ h).state

abbrev pub rooms_after : ℕ → ℕ → List ℕ → History → List ℕ
rooms_after S M store₀ h = (run S M store₀ h).rooms

-- the rooms, with the bytes that stand past them
abbrev pub store_after : ℕ → ℕ → List ℕ → History → List ℕ → List ℕ
store_after S M store₀ h past = lent (run S M store₀ h) past

-- the length of the rooms, which stays
abbrev pub rooms_long : ℕ → ℕ → List ℕ → ℕ
rooms_long S M store₀ = length (begin S M store₀).rooms

-- the receptions, latest first
abbrev pub accepted_after : ℕ → ℕ → List ℕ → History → ℕ → List Reception
accepted_after S M store₀ h slot = since S M (rooms_long S M store₀) slot h
