-- A history with changes of form strewn in, 02 E7: calls on a store in the form that it has at the time, and changes of every room.
-- Assumes nothing.
use Rattle.std.specs.Prelude.{Bool, true, false, cond, List, [], ◌∷◌, ◌++◌, ℕ, ◌*◌, eqb, ltb, length, take}
use Rattle.slots.specs.declared.State.{State}
use Rattle.slots.specs.Calls.{new_outcome}
use Rattle.packing.specs.Store.{places_in}
use Rattle.history.specs.Calls.{Made, History}
use Rattle.forms.specs.Calls.{outcome_in, store_after_in}
use Rattle.forms.specs.Change.{room_in, rooms_changed, rooms_number}

-- a call with the bytes that stand past the rooms when it is made, or a change of every room into a form, in a buffer of any bytes
pub data Event : Type 0 where
  calling : Made → Event
  changing : (four : Bool) (to : List ℕ) → Event

-- the state, the form of the store, and the rooms: as much of the store as the state's rooms take
pub record FormWorld : Type 0 where
  pub state : State
  pub four : Bool
  pub rooms : List ℕ

-- the bytes that the rooms of a state take
unfoldable pub store_in : Bool → State → ℕ
store_in four state = state.slots * room_in four state.blocks

-- the store that a call is lent: the rooms, and where they are all there whatever stands past them
unfoldable pub lent_in : FormWorld → List ℕ → List ℕ
lent_in w past = cond (ltb (length w.rooms) (store_in w.four w.state)) w.rooms (w.rooms ++ past)

-- after a call: the form stays
unfoldable pub called : FormWorld → Made → FormWorld
called w m =
    record {
      state = (outcome_in w.four w.state (lent_in w m.past) m.call).state;
      four = w.four;
      rooms = take (length w.rooms) (store_after_in w.four w.state (lent_in w m.past) m.call);
    }

-- after every room was brought into the form; a refused change leaves all
unfoldable pub changed : Bool → FormWorld → List ℕ → FormWorld
changed four w to =
    cond (eqb (rooms_number four w.state.blocks w.state.slots (length w.rooms) (length to)) 0)
    (record {
      state = w.state;
      four = four;
      rooms = take (store_in four w.state) (rooms_changed four w.state.blocks w.state.slots w.rooms to);
    })
    w

-- where the store has the form already nothing changes
unfoldable pub same : Bool → Bool → Bool
same true four = four
same false four = cond four false true

unfoldable pub step_in : FormWorld → Event → FormWorld
step_in w (calling m) = called w m
step_in w (changing four to) = cond (same four w.four) w (changed four w to)

-- New over a store of any bytes, in one of the forms
unfoldable pub begin_in : Bool → ℕ → ℕ → List ℕ → FormWorld
begin_in four S M store =
    record { state = (new_outcome S M).state; four = four; rooms = take (store_in four (new_outcome S M).state) store }

-- after the events, the latest first
unfoldable pub run_in : Bool → ℕ → ℕ → List ℕ → List Event → FormWorld
run_in four S M store [] = begin_in four S M store
run_in four S M store (e ∷ es) = step_in (run_in four S M store es) e

-- the same calls without the changes, on rooms of one place a byte; what stands past the rooms is read as places too
unfoldable pub without_changes : Bool → ℕ → ℕ → List ℕ → List Event → History
without_changes four S M store [] = []
without_changes four S M store (calling m ∷ es) =
    record { call = m.call; past = places_in (run_in four S M store es).four m.past } ∷ without_changes four S M store es
without_changes four S M store (changing form to ∷ es) = without_changes four S M store es
