-- A call on a store in either form, 02 E7: what the contracts of the calls say for a store with one place a byte, or four.
-- The answer and the state are those of 01's call on the places that the store keeps, and the store keeps the places that that call leaves.
-- Assumes nothing.
use Rattle.std.specs.Prelude.{Bool, List, ℕ}
use Rattle.slots.specs.declared.State.{State}
use Rattle.slots.specs.Outcome.{Outcome}
use Rattle.slots.specs.Calls.{read_output, streams_output}
use Rattle.packing.specs.Store.{places_in, in_form}
use Rattle.history.specs.Calls.{Call}
use Rattle.history.specs.Run.{outcome_of, store_after_call}

unfoldable pub outcome_in : Bool → State → List ℕ → Call → Outcome
outcome_in four state store call = outcome_of state (places_in four store) call

-- a call that does not write the store leaves the places, and so the store (`left_alone`)
unfoldable pub store_after_in : Bool → State → List ℕ → Call → List ℕ
store_after_in four state store call = in_form four (store_after_call state (places_in four store) call)

-- the outputs of Read and Streams
unfoldable pub read_output_in : Bool → State → List ℕ → ℕ → ℕ → List ℕ → List ℕ
read_output_in four state store slot terminal out = read_output state (places_in four store) slot terminal out

unfoldable pub streams_output_in : Bool → State → List ℕ → ℕ → ℕ → ℕ → List ℕ → List ℕ
streams_output_in four state store slot terminal r out = streams_output state (places_in four store) slot terminal r out
