-- Calls on other slots, 01 'Slots': they change neither this slot's head nor its room, and no call changes a byte past the rooms.
-- Assumes nothing.
use mathlib.Core.Path.{◌≡◌, refl, sym, ◌∙◌, ap}
use mathlib.Core.Bool.{Bool, true, false, cond}
use mathlib.Core.List.{List, ◌++◌}
use Prim.Native.Nat.{ℕ, ◌+◌, ◌≤◌, ◌<◌}
use native.Mathlib.Decide.{dec_lt}
use native.Mathlib.Omega.{arith}
use lib.Dec.{eqb, ltb}
use lib.ListN.{length, get_or, take, get_or-append, get_or-eq_default}
use lib.Seq.{get_or-take, take-length, take-append_seam}
use borrow.Author.Tests.{eqb-true, ltb-false}
use Rattle.segmentation.specs.Segmentation.{blocks}
use Rattle.slots.specs.declared.Head.{Head}
use Rattle.slots.specs.declared.State.{State}
use Rattle.slots.specs.State.{store_length, room_length, room_start, closed_head, open_head, head_at}
use Rattle.slots.specs.Room.{cleared}
use Rattle.slots.specs.Calls.{with_head, size_at_head, share_at_head, receive_number, receive_store, close_number}
use Rattle.slots.proofs.RoomLaws.{InRoom, AllPlaces, room_within, rooms_apart, room_byte, cleared_out, stored_out}
use Rattle.slots.proofs.Accepted.{good}
use Rattle.slots.proofs.HeadLaws.{open_size, other_head}
use Rattle.slots.proofs.PlaceBounds.{sent_below}
use Rattle.slots.proofs.Acceptance.{receives}
use Rattle.history.specs.Links.{share_in, opening_number}
use Rattle.history.specs.Calls.{Reception, Call, opening, receiving, reading, streaming, closing, Made, grant_of}
use Rattle.history.specs.Run.{World, lent, store_after_call, step}
use Rattle.history.specs.Accepted.{heads_after_call}
use Rattle.history.specs.Answered.{slot_of, SameRoom}
use Rattle.history.proofs.Links.{opening_store_lem}
use Rattle.history.proofs.State.{with_reception, room_lent, state_after_lem, length_step}

-- ---- the head

module _ (state : State) (room slot : ℕ) where
  -- of the state that the calls alone say
  pub head_stays : (call : Call) → (slot ≡ slot_of call → ⊥) → head_at (heads_after_call state room call) slot ≡ head_at state slot
  unfolding heads_after_call slot_of
  head_stays (opening link s terminal A) n = go (eqb (opening_number link state room s A) 0) (open_head terminal A (share_in link A))
    where
      go : (b : Bool) (h : Head) → head_at (cond b (with_head state s h) state) slot ≡ head_at state slot
      go true h = other_head state s h slot n
      go false h = refl
  head_stays (receiving s terminal r) n = refl
  head_stays (reading s terminal size) n = refl
  head_stays (streaming s terminal block size) n = refl
  head_stays (closing s terminal) n = go (eqb (close_number state s terminal) 0)
    where
      go : (b : Bool) → head_at (cond b (with_head state s closed_head) state) slot ≡ head_at state slot
      go true = other_head state s closed_head slot n
      go false = refl

-- ---- the store

-- an accepted reception finds the slot's room in its store, and sends places of code blocks, all of which are in the room
pub record ReceptionFits (state : State) (lent slot : ℕ) (r : Reception) : Type 0 where
  pub room : room_start state.blocks slot + room_length state.blocks ≤ lent
  pub few : blocks (size_at_head state slot + 24) ≤ state.blocks
  pub places : AllPlaces (share_at_head state slot) (size_at_head state slot + 24) (grant_of r)

pub reception_fits : (state : State) (lent slot terminal : ℕ) (r : Reception) → receive_number state lent slot terminal r.Q r.N r.version r.bits ≡ 0
    → ReceptionFits state lent slot r
unfolding store_length
reception_fits state lent slot terminal r e =
    let a = receives state lent slot terminal r.Q r.N r.version r.bits e in
    let o = open_size state a.sound slot a.below a.opened in
    record {
      room = omega (arith, a.long, room_within state.slots state.blocks slot a.below);
      few = o.1;
      places = λ q. sent_below (size_at_head state slot) o.0 ((good state a.sound).wide slot a.below a.opened) (grant_of r) q a.version;
    }

-- a call changes no byte outside the room of the slot that it names
pub bytes_stay : (state : State) (store : List ℕ) (call : Call) (at : ℕ) → (InRoom state.blocks (slot_of call) at → ⊥)
    → get_or (store_after_call state store call) at 0 ≡ get_or store at 0
unfolding store_after_call slot_of receive_store
bytes_stay state store (opening link slot terminal A) at n =
    ap (λ (l : List ℕ). get_or l at 0) (opening_store_lem link state slot A store) ∙ go (eqb (opening_number link state (length store) slot A) 0) refl
  where
    go : (b : Bool) → eqb (opening_number link state (length store) slot A) 0 ≡ b → get_or (cond b (cleared state.blocks slot store) store) at 0 ≡ get_or store at 0
    go true e = cleared_out state.blocks slot store (room_lent link state (length store) slot A (eqb-true _ _ e)) at n
    go false e = refl
bytes_stay state store (receiving slot terminal r) at n = go (eqb number 0) refl
  where
    number : ℕ
    number = receive_number state (length store) slot terminal r.Q r.N r.version r.bits

    go : (b : Bool) → eqb number 0 ≡ b
        → get_or (cond b (with_reception state slot r store) store) at 0 ≡ get_or store at 0
    go true e =
        let f = reception_fits state (length store) slot terminal r (eqb-true _ _ e) in
        stored_out (share_at_head state slot) state.blocks slot (size_at_head state slot) (grant_of r) r.bits store f.room f.few f.places at n
    go false e = refl
bytes_stay state store (reading slot terminal size) at n = refl
bytes_stay state store (streaming slot terminal block size) at n = refl
bytes_stay state store (closing slot terminal) at n = refl

-- ---- a step of a history

-- where the stores have the same bytes from a room's start on, the rooms have
pub room_bytes : (M slot : ℕ) (store other : List ℕ) → ((k : ℕ) → k < room_length M → get_or store (room_start M slot + k) 0 ≡ get_or other (room_start M slot + k) 0) → SameRoom M slot store other
room_bytes M slot store other same k l = room_byte M slot store k ∙ same k l ∙ sym (room_byte M slot other k)

-- and the other way
pub bytes_room : (M slot : ℕ) (store other : List ℕ) → SameRoom M slot store other → (k : ℕ) → k < room_length M → get_or store (room_start M slot + k) 0 ≡ get_or other (room_start M slot + k) 0
bytes_room M slot store other same k l = sym (room_byte M slot store k) ∙ same k l ∙ room_byte M slot other k

module _ (w : World) (m : Made) where
  -- the rooms are the front of the store that is lent
  pub lent_at : (at : ℕ) → at < length w.rooms → get_or (lent w m.past) at 0 ≡ get_or w.rooms at 0
  unfolding lent
  lent_at at l = go (ltb (length w.rooms) (store_length w.state))
    where
      go : (b : Bool) → get_or (cond b w.rooms (w.rooms ++ m.past)) at 0 ≡ get_or w.rooms at 0
      go true = refl
      go false = get_or-append w.rooms m.past 0 at l

  -- a store that is long enough has all rooms
  pub rooms_whole : store_length w.state ≤ length (lent w m.past) → store_length w.state ≤ length w.rooms
  unfolding lent
  rooms_whole h = go (ltb (length w.rooms) (store_length w.state)) refl h
    where
      go : (b : Bool) → ltb (length w.rooms) (store_length w.state) ≡ b → store_length w.state ≤ length (cond b w.rooms (w.rooms ++ m.past))
          → store_length w.state ≤ length w.rooms
      go true e g = g
      go false e g = ltb-false (length w.rooms) (store_length w.state) e

  -- a call that leaves the store leaves the rooms
  pub same_rooms : store_after_call w.state (lent w m.past) m.call ≡ lent w m.past → (step w m).rooms ≡ w.rooms
  unfolding step lent
  same_rooms e = ap (take (length w.rooms)) e ∙ go (ltb (length w.rooms) (store_length w.state))
    where
      go : (b : Bool) → take (length w.rooms) (cond b w.rooms (w.rooms ++ m.past)) ≡ w.rooms
      go true = take-length w.rooms
      go false = take-append_seam w.rooms m.past

  pub step_at : (at : ℕ) → at < length w.rooms
      → get_or (step w m).rooms at 0 ≡ get_or (store_after_call w.state (lent w m.past) m.call) at 0
  unfolding step
  step_at at l = get_or-take (length w.rooms) (store_after_call w.state (lent w m.past) m.call) at 0 l

  pub rooms_stay : (at : ℕ) → (InRoom w.state.blocks (slot_of m.call) at → ⊥) → get_or (step w m).rooms at 0 ≡ get_or w.rooms at 0
  rooms_stay at n = elim (dec_lt at (length w.rooms)) [
    | yes l ↦ step_at at l ∙ bytes_stay w.state (lent w m.past) m.call at n ∙ lent_at at l
    | no l ↦
        get_or-eq_default (step w m).rooms 0 {n = at} (rw (length_step w m) (omega arith))
        ∙ sym (get_or-eq_default w.rooms 0 {n = at} (omega arith))
  ]

  -- where all rooms are there, the room of a slot is that of the store that is lent, before the call and after it
  module _ (slot : ℕ) (below : slot < w.state.slots) (enough : store_length w.state ≤ length (lent w m.past)) where
    inside : (k : ℕ) → k < room_length w.state.blocks → room_start w.state.blocks slot + k < length w.rooms
    unfolding store_length
    inside k l = omega (arith, rooms_whole enough, room_within w.state.slots w.state.blocks slot below)

    pub room_before : SameRoom w.state.blocks slot (lent w m.past) w.rooms
    room_before = room_bytes w.state.blocks slot (lent w m.past) w.rooms (λ k l. lent_at _ (inside k l))

    pub room_after : SameRoom w.state.blocks slot (step w m).rooms (store_after_call w.state (lent w m.past) m.call)
    room_after = room_bytes w.state.blocks slot (step w m).rooms _ (λ k l. step_at _ (inside k l))

  module _ (slot : ℕ) (other : slot ≡ slot_of m.call → ⊥) where
    -- a call on another slot leaves this slot's head
    pub others_head : head_at (step w m).state slot ≡ head_at w.state slot
    unfolding step
    others_head =
        ap (λ (state : State). head_at state slot) (state_after_lem w.state (lent w m.past) m.call)
        ∙ head_stays w.state (length (lent w m.past)) slot m.call other

    -- and its room
    pub others_room : SameRoom w.state.blocks slot (step w m).rooms w.rooms
    others_room = room_bytes w.state.blocks slot (step w m).rooms w.rooms
        (λ k l. rooms_stay (room_start w.state.blocks slot + k)
        (λ i. other (rooms_apart w.state.blocks slot (slot_of m.call) (room_start w.state.blocks slot + k) (omega arith, omega arith) i)))
