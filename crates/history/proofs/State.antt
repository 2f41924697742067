-- The state after a history: the rooms keep their length, and the heads are those that the calls alone say.
-- Assumes nothing.
use mathlib.Core.Path.{◌≡◌, refl, ◌∙◌, ap, ap₂}
use mathlib.Core.Bool.{Bool, true, false, cond}
use mathlib.Core.List.{List, [], ◌∷◌, ◌++◌}
use Prim.Native.Nat.{ℕ, ◌+◌, ◌≤◌}
use native.Mathlib.Omega.{arith}
use lib.Dec.{eqb, ltb}
use lib.ListN.{length, length-append, length-set}
use lib.Seq.{length-take-le}
use borrow.Author.Tests.{eqb-true}
use Rattle.slots.specs.declared.State.{State}
use Rattle.slots.specs.Outcome.{Refused}
use Rattle.slots.specs.declared.Head.{Head}
use Rattle.slots.specs.Outcome.{Outcome}
use Rattle.slots.specs.State.{store_length, room_start, room_length, closed_head, open_head}
use Rattle.slots.specs.Room.{agreeing, room_at, with_room, cleared}
use Rattle.slots.specs.Reception.{received}
use Rattle.slots.specs.Answers.{unless_refused}
use Rattle.slots.specs.Calls.{with_head, size_at_head, share_at_head, new_outcome, receive_number, receive_outcome, receive_store, read_outcome, streams_outcome, close_number, close_outcome}
use Rattle.slots.proofs.RoomLaws.{length_cleared, length_received, length_with_room}
use Rattle.history.specs.Links.{Link, share_in, opening_number}
use Rattle.history.specs.Calls.{Reception, Call, opening, receiving, reading, streaming, closing, Made, History, grant_of}
use Rattle.history.specs.Run.{World, lent, outcome_of, store_after_call, step, begin, run}
use Rattle.history.specs.Accepted.{lent_length, heads_after_call, heads_after}
use Rattle.history.proofs.Links.{opening_fits, opening_outcome_lem, opening_store_lem}

-- ---- one call

-- an accepted opening has the slot's room in its store
pub room_lent : (link : Link) (state : State) (room slot A : ℕ) → opening_number link state room slot A ≡ 0
    → room_start state.blocks slot + room_length state.blocks ≤ room
room_lent link state room slot A e = (opening_fits state room slot A link e).slot_stored.within

-- the store after an opening and after a reception, by what the test of their number gives
pub open_writes : (link : Link) (state : State) (store : List ℕ) (slot terminal A : ℕ) (b : Bool) → eqb (opening_number link state (length store) slot A) 0 ≡ b
    → store_after_call state store (opening link slot terminal A) ≡ cond b (cleared state.blocks slot store) store
unfolding store_after_call
open_writes link state store slot terminal A b e = opening_store_lem link state slot A store ∙ ap (λ (t : Bool). cond t (cleared state.blocks slot store) store) e

-- the store with a reception in the slot's room
abbrev pub with_reception : State → ℕ → Reception → List ℕ → List ℕ
with_reception state slot x store =
    with_room state.blocks slot
    (received agreeing (share_at_head state slot) (size_at_head state slot) (grant_of x) x.bits (room_at state.blocks slot store))
    store

pub receive_writes : (state : State) (store : List ℕ) (slot terminal : ℕ) (x : Reception) (b : Bool)
    → eqb (receive_number state (length store) slot terminal x.Q x.N x.version x.bits) 0 ≡ b
    → store_after_call state store (receiving slot terminal x)
    ≡ cond b (with_reception state slot x store) store
unfolding store_after_call receive_store
receive_writes state store slot terminal x b e =
    ap (λ (t : Bool). cond t (with_reception state slot x store) store) e

-- no call changes the length of the store
pub length_after : (state : State) (store : List ℕ) (call : Call) → length (store_after_call state store call) ≡ length store
unfolding store_after_call receive_store
length_after state store (opening link slot terminal A) = ap length (opening_store_lem link state slot A store) ∙ go (eqb (opening_number link state (length store) slot A) 0) refl
  where
    go : (b : Bool) → eqb (opening_number link state (length store) slot A) 0 ≡ b → length (cond b (cleared state.blocks slot store) store) ≡ length store
    go true e = length_cleared state.blocks slot store (room_lent link state (length store) slot A (eqb-true _ _ e))
    go false e = refl
length_after state store (receiving slot terminal x) =
    go (eqb (receive_number state (length store) slot terminal x.Q x.N x.version x.bits) 0)
  where
    go : (b : Bool) → length (cond b (with_reception state slot x store) store) ≡ length store
    go true = length_with_room state.blocks slot _ store (length_received agreeing (share_at_head state slot) (size_at_head state slot) (grant_of x) x.bits _)
    go false = refl
length_after state store (reading slot terminal size) = refl
length_after state store (streaming slot terminal block size) = refl
length_after state store (closing slot terminal) = refl

state_of : (number : ℕ) (state : State) (o : Outcome) → (unless_refused number state o).state ≡ cond (eqb number 0) o.state state
unfolding unless_refused
state_of number state o = go (eqb number 0) (record { answer = Refused number; state = state })
  where
    go : (b : Bool) (other : Outcome) → (cond b o other).state ≡ cond b o.state other.state
    go true other = refl
    go false other = refl

state_stays : (number : ℕ) (state : State) (o : Outcome) → o.state ≡ state → (unless_refused number state o).state ≡ state
state_stays number state o e = state_of number state o ∙ go (eqb number 0)
  where
    go : (b : Bool) → cond b o.state state ≡ state
    go true = e
    go false = refl

-- the state that a call returns follows from the state it was handed, the length of the store and the arguments
pub state_after_lem : (state : State) (store : List ℕ) (call : Call) → (outcome_of state store call).state ≡ heads_after_call state (length store) call
unfolding outcome_of heads_after_call receive_outcome read_outcome streams_outcome close_outcome
state_after_lem state store (opening link slot terminal A) =
    ap (λ (o : Outcome). o.state) (opening_outcome_lem link state (length store) slot terminal A) ∙ state_of (opening_number link state (length store) slot A) state _
state_after_lem state store (receiving slot terminal r) = state_stays _ state _ refl
state_after_lem state store (reading slot terminal size) = state_stays _ state _ refl
state_after_lem state store (streaming slot terminal block size) = state_stays _ state _ refl
state_after_lem state store (closing slot terminal) = state_of (close_number state slot terminal) state _

-- S, M and the number of heads stay
pub record SameShape (state other : State) : Type 0 where
  pub slots : state.slots ≡ other.slots
  pub blocks : state.blocks ≡ other.blocks
  pub heads : length state.heads ≡ length other.heads

shape_kept : (state : State) (room : ℕ) (call : Call) → SameShape (heads_after_call state room call) state
unfolding heads_after_call with_head
shape_kept state room call = by call
  where
    same : SameShape state state
    same = record { slots = refl; blocks = refl; heads = refl }

    either : (b : Bool) (slot : ℕ) (h : Head) → SameShape (cond b (with_head state slot h) state) state
    either true slot h = record { slots = refl; blocks = refl; heads = length-set state.heads slot h }
    either false slot h = same

    by : (call : Call) → SameShape (heads_after_call state room call) state
    by (opening link slot terminal A) = either (eqb (opening_number link state room slot A) 0) slot (open_head terminal A (share_in link A))
    by (receiving slot terminal r) = same
    by (reading slot terminal size) = same
    by (streaming slot terminal block size) = same
    by (closing slot terminal) = either (eqb (close_number state slot terminal) 0) slot closed_head

-- ---- a history

pub length_lent : (w : World) (past : List ℕ) → length (lent w past) ≡ lent_length w.state (length w.rooms) past
unfolding lent lent_length
length_lent w past = go (ltb (length w.rooms) (store_length w.state))
  where
    go : (b : Bool) → length (cond b w.rooms (w.rooms ++ past)) ≡ cond b (length w.rooms) (length w.rooms + length past)
    go true = refl
    go false = length-append w.rooms past

pub rooms_lent : (w : World) (past : List ℕ) → length w.rooms ≤ length (lent w past)
unfolding lent_length
rooms_lent w past = rw (length_lent w past) (go (ltb (length w.rooms) (store_length w.state)))
  where
    go : (b : Bool) → length w.rooms ≤ cond b (length w.rooms) (length w.rooms + length past)
    go true = omega arith
    go false = omega arith

pub length_step : (w : World) (m : Made) → length (step w m).rooms ≡ length w.rooms
unfolding step
length_step w m =
    length-take-le (length w.rooms) (store_after_call w.state (lent w m.past) m.call)
    (rw (length_after w.state (lent w m.past) m.call) (rooms_lent w m.past))

pub shape_step : (w : World) (m : Made) → SameShape (step w m).state w.state
unfolding step
shape_step w m = rw (state_after_lem w.state (lent w m.past) m.call) (shape_kept w.state (length (lent w m.past)) m.call)

module _ (S M : ℕ) (store : List ℕ) where
  -- S, M and the number of heads stay those of New
  pub shape_stays : (h : History) → SameShape (run S M store h).state (new_outcome S M).state
  unfolding run begin
  shape_stays [] = record { slots = refl; blocks = refl; heads = refl }
  shape_stays (m ∷ h) =
      let k = shape_step (run S M store h) m in
      let l = shape_stays h in
      record { slots = k.slots ∙ l.slots; blocks = k.blocks ∙ l.blocks; heads = k.heads ∙ l.heads }

  -- the rooms keep their length
  pub rooms_long_lem : (h : History) → length (run S M store h).rooms ≡ length (begin S M store).rooms
  unfolding run
  rooms_long_lem [] = refl
  rooms_long_lem (m ∷ h) = length_step (run S M store h) m ∙ rooms_long_lem h

  -- the state after a history is what its calls and the length of the rooms say
  pub heads : (h : History) → (run S M store h).state ≡ heads_after S M (length (begin S M store).rooms) h
  unfolding run heads_after begin step
  heads [] = refl
  heads (m ∷ h) =
      state_after_lem (run S M store h).state (lent (run S M store h) m.past) m.call
      ∙ ap₂ (λ (state : State) (n : ℕ). heads_after_call state n m.call) (heads h)
      (length_lent (run S M store h) m.past
      ∙ ap₂ (λ (state : State) (n : ℕ). lent_length state n m.past) (heads h) (rooms_long_lem h))
