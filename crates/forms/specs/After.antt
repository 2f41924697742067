-- After a history with changes of form strewn in, 02 E7: the state, the form, the places of the rooms, the store that the next call is lent, and the same calls without the changes.
-- Assumes nothing.
use Rattle.std.specs.Prelude.{Bool, List, ℕ}
use Rattle.slots.specs.declared.State.{State}
use Rattle.packing.specs.Store.{places_in}
use Rattle.history.specs.Calls.{Reception}
use Rattle.history.specs.After.{accepted_after}
use Rattle.forms.specs.Run.{Event, lent_in, run_in, without_changes}

abbrev pub state_then : Bool → ℕ → ℕ → List ℕ → List Event → State
state_then four S M store₀ es = (run_in four S M store₀ es).state

abbrev pub form_then : Bool → ℕ → ℕ → List ℕ → List Event → Bool
form_then four S M store₀ es = (run_in four S M store₀ es).four

-- what the rooms keep
abbrev pub places_then : Bool → ℕ → ℕ → List ℕ → List Event → List ℕ
places_then four S M store₀ es = places_in (form_then four S M store₀ es) (run_in four S M store₀ es).rooms

-- the rooms, with the bytes that stand past them
abbrev pub store_then : Bool → ℕ → ℕ → List ℕ → List Event → List ℕ → List ℕ
store_then four S M store₀ es past = lent_in (run_in four S M store₀ es) past

-- the receptions of the calls alone, latest first
abbrev pub accepted_then : Bool → ℕ → ℕ → List ℕ → List Event → ℕ → List Reception
accepted_then four S M store₀ es slot = accepted_after S M (places_in four store₀) (without_changes four S M store₀ es) slot
