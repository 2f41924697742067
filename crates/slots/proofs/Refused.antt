-- Refused calls of 01's slots, 'Numbers given back': where the number of an answer is not 0, 11, 16 and 12 among them, the state is the one given and no lent byte is written.
-- Assumes nothing.
use mathlib.Core.Path.{◌≡◌, refl}
use mathlib.Core.Bool.{Bool, true, false, cond}
use mathlib.Core.List.{List}
use Prim.Native.Nat.{ℕ}
use lib.Dec.{eqb}
use lib.ListN.{length}
use Rattle.slots.specs.Outcome.{Answer}
use Rattle.slots.specs.Outcome.{Done, StillLacking, Refused, RefusedWith}
use Rattle.slots.specs.declared.State.{State}
use Rattle.slots.specs.Outcome.{Outcome}
use Rattle.slots.specs.State.{new_state}
use Rattle.slots.specs.Answers.{number_of, is_done, unless_refused}
use Rattle.slots.specs.Calls.{new_outcome, open_number, open_outcome, open_store, open_down_number, open_down_outcome, open_down_store, receive_number, receive_outcome, receive_store, released, read_outcome, read_output, streams_number, streams_outcome, streams_output, close_number, close_outcome}

-- the number of an answer that is not 0 comes of a refusal
refused : (number : ℕ) (state : State) (accepted : Outcome) → number_of accepted.answer ≡ 0 → (number_of (unless_refused number state accepted).answer ≡ 0 → ⊥)
    → (eqb number 0 ≡ false) × ((unless_refused number state accepted).state ≡ state)
unfolding unless_refused number_of
refused number state accepted zero h = go (eqb number 0) refl h
  where
    go : (t : Bool) → eqb number 0 ≡ t → (number_of (cond t accepted (record { answer = Refused number; state = state })).answer ≡ 0 → ⊥)
        → (eqb number 0 ≡ false) × ((cond t accepted (record { answer = Refused number; state = state })).state ≡ state)
    go true e h = absurd (h zero)
    go false e h = (e, refl)

-- New, refused, gives a state of S = 0 and M = 0 with all heads closed; it is lent nothing.
pub new_refused : (S M : ℕ) → (number_of (new_outcome S M).answer ≡ 0 → ⊥) → (new_outcome S M).state ≡ new_state 0 0
unfolding new_outcome number_of
new_refused S M h = (refused _ (new_state 0 0) (record { answer = Done; state = new_state S M }) refl h).1

pub open_refused : (state : State) (slot terminal A : ℕ) (store : List ℕ) → (number_of (open_outcome state (length store) slot terminal A).answer ≡ 0 → ⊥)
    → ((open_outcome state (length store) slot terminal A).state ≡ state) × (open_store state slot A store ≡ store)
unfolding open_outcome open_store number_of
open_refused state slot terminal A store h = let r = refused (open_number state (length store) slot A) state _ refl h in (r.1, rw r.0)

pub open_down_refused : (state : State) (slot terminal A release k_mimo processes Nsoft layers : ℕ) (store : List ℕ)
    → (number_of (open_down_outcome state (length store) slot terminal A release k_mimo processes Nsoft layers).answer ≡ 0 → ⊥)
    → ((open_down_outcome state (length store) slot terminal A release k_mimo processes Nsoft layers).state ≡ state)
    × (open_down_store state slot A release k_mimo processes Nsoft layers store ≡ store)
unfolding open_down_outcome open_down_store number_of
open_down_refused state slot terminal A release k_mimo processes Nsoft layers store h =
    let r = refused (open_down_number state (length store) slot A release k_mimo processes Nsoft layers) state _ refl h in (r.1, rw r.0)

pub receive_refused : (state : State) (slot terminal Q N v : ℕ) (bits store : List ℕ) → (number_of (receive_outcome state slot terminal Q N v bits store).answer ≡ 0 → ⊥)
    → ((receive_outcome state slot terminal Q N v bits store).state ≡ state) × (receive_store state slot terminal Q N v bits store ≡ store)
unfolding receive_outcome receive_store number_of
receive_refused state slot terminal Q N v bits store h = let r = refused (receive_number state (length store) slot terminal Q N v bits) state _ refl h in (r.1, rw r.0)

-- a number that is not 0 is no release
not_done : (a : Answer) → (number_of a ≡ 0 → ⊥) → is_done a ≡ false
unfolding number_of is_done
not_done Done h = absurd (h refl)
not_done (StillLacking n) h = refl
not_done (Refused n) h = refl
not_done (RefusedWith n x) h = refl

-- whatever the answer, Read and Streams return the state that they were given and lend the store unwritten
same_state : (number : ℕ) (state : State) (answer : Answer) → (unless_refused number state (record { answer = answer; state = state })).state ≡ state
unfolding unless_refused
same_state number state answer = go (eqb number 0)
  where
    go : (t : Bool) → (cond {A = Outcome} t (record { answer = answer; state = state }) (record { answer = Refused number; state = state })).state ≡ state
    go true = refl
    go false = refl

-- Read: 11, 16 and 12 are refusals like any other.
pub read_refused : (state : State) (slot terminal : ℕ) (store out : List ℕ) → (number_of (read_outcome state store slot terminal (length out)).answer ≡ 0 → ⊥)
    → ((read_outcome state store slot terminal (length out)).state ≡ state) × (read_output state store slot terminal out ≡ out)
unfolding read_output released read_outcome
read_refused state slot terminal store out h = (same_state _ state _, rw (not_done _ h))

pub streams_refused : (state : State) (slot terminal r : ℕ) (store out : List ℕ) → (number_of (streams_outcome state (length store) slot terminal r (length out)).answer ≡ 0 → ⊥)
    → ((streams_outcome state (length store) slot terminal r (length out)).state ≡ state) × (streams_output state store slot terminal r out ≡ out)
unfolding streams_outcome streams_output number_of
streams_refused state slot terminal r store out h = let n = refused (streams_number state (length store) slot terminal r (length out)) state _ refl h in (n.1, rw n.0)

-- Close is lent nothing.
pub close_refused : (state : State) (slot terminal : ℕ) → (number_of (close_outcome state slot terminal).answer ≡ 0 → ⊥) → (close_outcome state slot terminal).state ≡ state
unfolding close_outcome number_of
close_refused state slot terminal h = (refused (close_number state slot terminal) state _ refl h).1
