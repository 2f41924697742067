-- A call that a line of the yard's log asks for, by its verb, on a state and the rooms in either form: what it answers, the state and the store
-- afterwards.
-- Assumes nothing.
use Rattle.std.specs.Prelude.{Bool, List, ℕ, length}
use Rattle.slots.specs.declared.State.{State}
use Rattle.slots.specs.Outcome.{Done}
use Rattle.slots.specs.Outcome.{Outcome}
use Rattle.slots.specs.Calls.{new_outcome, open_outcome, open_store, open_down_outcome, open_down_store, receive_outcome, receive_store, close_outcome}
use Rattle.packing.specs.Store.{places_in, in_form}
use Rattle.requests.specs.declared.Verb.{Verb}
use Rattle.requests.specs.declared.Verb.TheVariants.{New, Open, OpenDown, Close, Receive, Read, Streams, Build, BuildDown, Sizes, Worst, Pack, Unpack, Nothing, Unreadable}
use Rattle.call_rows.specs.Rows.{at}

-- a call that leaves the state as it is
abbrev pub unchanged : State → Outcome
unchanged state = record { answer = Done; state = state }

-- what a call on the places of the rooms answers, and the state afterwards, by the verb, its numbers n, the second of them a terminal where it has
-- one, and its bits
unfoldable pub outcome_by : Verb → List ℕ → ℕ → List ℕ → State → List ℕ → Outcome
outcome_by New n terminal bits state places = new_outcome (at n 0) (at n 1)
outcome_by Open n terminal bits state places = open_outcome state (length places) (at n 0) terminal (at n 2)
outcome_by OpenDown n terminal bits state places =
    open_down_outcome state (length places) (at n 0) terminal (at n 2) (at n 3) (at n 4) (at n 5) (at n 6) (at n 7)
outcome_by Close n terminal bits state places = close_outcome state (at n 0) terminal
outcome_by Receive n terminal bits state places =
    receive_outcome state (at n 0) terminal (at n 2) (at n 3) (at n 4) bits places
outcome_by Read n terminal bits state places = unchanged state
outcome_by Streams n terminal bits state places = unchanged state
outcome_by Build n terminal bits state places = unchanged state
outcome_by BuildDown n terminal bits state places = unchanged state
outcome_by Sizes n terminal bits state places = unchanged state
outcome_by Worst n terminal bits state places = unchanged state
outcome_by Pack n terminal bits state places = unchanged state
outcome_by Unpack n terminal bits state places = unchanged state
outcome_by Nothing n terminal bits state places = unchanged state
outcome_by Unreadable n terminal bits state places = unchanged state

-- the store afterwards: Open and Receive write it, in the form that it has
unfoldable pub store_by : Verb → List ℕ → ℕ → List ℕ → State → Bool → List ℕ → List ℕ
store_by New n terminal bits state four store = store
store_by Open n terminal bits state four store = in_form four (open_store state (at n 0) (at n 2) (places_in four store))
store_by OpenDown n terminal bits state four store =
    in_form four (open_down_store state (at n 0) (at n 2) (at n 3) (at n 4) (at n 5) (at n 6) (at n 7) (places_in four store))
store_by Close n terminal bits state four store = store
store_by Receive n terminal bits state four store =
    in_form four (receive_store state (at n 0) terminal (at n 2) (at n 3) (at n 4) bits (places_in four store))
store_by Read n terminal bits state four store = store
store_by Streams n terminal bits state four store = store
store_by Build n terminal bits state four store = store
store_by BuildDown n terminal bits state four store = store
store_by Sizes n terminal bits state four store = store
store_by Worst n terminal bits state four store = store
store_by Pack n terminal bits state four store = store
store_by Unpack n terminal bits state four store = store
store_by Nothing n terminal bits state four store = store
store_by Unreadable n terminal bits state four store = store
