-- What a history does, demand 3: it starts from New over a store of any bytes, each call is handed the state that the last one returned and the same rooms.
-- The steps are the definitions that the calls' contracts cite.
-- Assumes nothing.
use Rattle.std.specs.Prelude.{cond, List, [], ◌∷◌, ◌++◌, ℕ, ltb, length, take}
use Rattle.slots.specs.declared.State.{State}
use Rattle.slots.specs.Outcome.{Outcome}
use Rattle.slots.specs.State.{store_length}
use Rattle.slots.specs.Calls.{new_outcome, receive_outcome, receive_store, read_outcome, streams_outcome, close_outcome}
use Rattle.history.specs.Links.{opening_outcome, opening_store}
use Rattle.history.specs.Calls.{Call, opening, receiving, reading, streaming, closing, Made, History}

-- the state, and the rooms: as much of the store as the state's rooms take
pub record World : Type 0 where
  pub state : State
  pub rooms : List ℕ

-- the store that a call is lent: the rooms, and where they are all there whatever stands past them
unfoldable pub lent : World → List ℕ → List ℕ
lent w past = cond (ltb (length w.rooms) (store_length w.state)) w.rooms (w.rooms ++ past)

-- the outcome of a call on a lent store
unfoldable pub outcome_of : State → List ℕ → Call → Outcome
outcome_of state store (opening link slot terminal A) = opening_outcome link state (length store) slot terminal A
outcome_of state store (receiving slot terminal r) =
    receive_outcome state slot terminal r.Q r.N r.version r.bits store
outcome_of state store (reading slot terminal size) = read_outcome state store slot terminal size
outcome_of state store (streaming slot terminal block size) =
    streams_outcome state (length store) slot terminal block size
outcome_of state store (closing slot terminal) = close_outcome state slot terminal

-- the store after a call: Read, Streams and Close do not write it
unfoldable pub store_after_call : State → List ℕ → Call → List ℕ
store_after_call state store (opening link slot terminal A) = opening_store link state slot A store
store_after_call state store (receiving slot terminal r) =
    receive_store state slot terminal r.Q r.N r.version r.bits store
store_after_call state store (reading slot terminal size) = store
store_after_call state store (streaming slot terminal block size) = store
store_after_call state store (closing slot terminal) = store

unfoldable pub step : World → Made → World
step w m =
    record {
      state = (outcome_of w.state (lent w m.past) m.call).state;
      rooms = take (length w.rooms) (store_after_call w.state (lent w m.past) m.call);
    }

-- New over a store of any bytes
unfoldable pub begin : ℕ → ℕ → List ℕ → World
begin S M store =
    record { state = (new_outcome S M).state; rooms = take (store_length (new_outcome S M).state) store }

-- after the history
unfoldable pub run : ℕ → ℕ → List ℕ → History → World
run S M store [] = begin S M store
run S M store (m ∷ h) = step (run S M store h) m
