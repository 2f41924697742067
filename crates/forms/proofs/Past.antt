-- The rooms after a call do not depend on what stands past them, 01 'Slots' and 02 E7, nor on a value above 3 being 2 but for that change.
-- Assumes nothing.
use mathlib.Core.Path.{◌≡◌, refl, sym, ◌∙◌, ap}
use mathlib.Core.Bool.{Bool, true, false, cond}
use mathlib.Core.List.{List, ◌++◌, map}
use Prim.Native.Nat.{ℕ, ◌+◌, ◌-◌, ◌≤◌, ◌<◌}
use native.Mathlib.Nat.{mul-le-mul_right}
use native.Mathlib.Decide.{dec_lt, dec_le}
use native.Mathlib.Omega.{arith}
use lib.Dec.{ltb}
use lib.ListN.{length, get_or, take, length-append, length-map, get_or-append}
use lib.Seq.{ext_get_or, length-take-le, get_or-take}
use borrow.Author.Tests.{ltb-false}
use Rattle.slots.specs.declared.State.{State}
use Rattle.slots.specs.State.{room_length, room_start, store_length}
use Rattle.slots.proofs.RoomLaws.{InRoom, room_within}
use Rattle.packing.specs.Packing.{in_two_bits}
use Rattle.history.specs.Calls.{Call}
use Rattle.history.specs.Run.{store_after_call}
use Rattle.history.specs.Answered.{slot_of, SameSlot}
use Rattle.history.proofs.State.{length_after}
use Rattle.history.proofs.Others.{bytes_stay, room_bytes, bytes_room}
use Rattle.history.proofs.Depends.{room_depends}
use Rattle.forms.proofs.Lists.{map-append, map_take}
use Rattle.forms.proofs.TwoBits.{list_twice}
use Rattle.forms.proofs.Calls.{store_two}

-- the rooms, with the bytes past them where they are all there
abbrev pub with_past : State → List ℕ → List ℕ → List ℕ
with_past state rooms past = cond (ltb (length rooms) (store_length state)) rooms (rooms ++ past)

-- the rooms after a call
abbrev pub front : State → List ℕ → List ℕ → Call → List ℕ
front state rooms past call = take (length rooms) (store_after_call state (with_past state rooms past) call)

module _ (state : State) (rooms past past' : List ℕ) (call : Call) (whole : length rooms ≡ store_length state) (as_long : length past ≡ length past') where
  slot : ℕ
  slot = slot_of call

  M : ℕ
  M = state.blocks

  in_front : (p : List ℕ) (k : ℕ) → k < length rooms → get_or (rooms ++ p) k 0 ≡ get_or rooms k 0
  in_front p k h = get_or-append rooms p 0 k h

  -- a byte of the rooms that is in the room of the slot: there is such a slot
  present : (k : ℕ) → k < length rooms → room_start M slot ≤ k → slot < state.slots
  unfolding room_start store_length M
  present k h l = elim (dec_lt slot state.slots) [
    | yes b ↦ b
    | no b ↦ let more : state.slots ≤ slot = omega arith in absurd (omega (arith, mul-le-mul_right (room_length state.blocks) more, whole))
  ]

  same_slot : slot < state.slots → SameSlot slot state state (rooms ++ past) (rooms ++ past')
  unfolding store_length
  same_slot b = record {
    slots = refl;
    blocks = refl;
    broken = refl;
    head = refl;
    long = rw (length-append rooms past, length-append rooms past') (omega arith);
    room = room_bytes state.blocks slot (rooms ++ past) (rooms ++ past') (λ k l.
        let inside : room_start state.blocks slot + k < length rooms = omega (arith, whole, room_within state.slots state.blocks slot b) in
        in_front past (room_start state.blocks slot + k) inside ∙ sym (in_front past' (room_start state.blocks slot + k) inside));
  }

  at : (k : ℕ) → k < length rooms → get_or (store_after_call state (rooms ++ past) call) k 0 ≡ get_or (store_after_call state (rooms ++ past') call) k 0
  unfolding slot M
  at k h = elim (dec_le (room_start M slot) k) [
    | yes l ↦ elim (dec_lt k (room_start M slot + room_length M)) [
      | yes u ↦
          let place : room_start M slot + (k - room_start M slot) ≡ k = omega arith in
          rw place at
          (bytes_room M slot _ _ (room_depends slot state state (rooms ++ past) (rooms ++ past') (same_slot (present k h l)) call refl) (k - room_start M slot) (omega arith))
      | no u ↦ outside (λ i. omega arith)
    ]
    | no l ↦ outside (λ i. omega arith)
  ]
    where
      outside : (InRoom state.blocks (slot_of call) k → ⊥) → get_or (store_after_call state (rooms ++ past) call) k 0 ≡ get_or (store_after_call state (rooms ++ past') call) k 0
      outside n =
          bytes_stay state (rooms ++ past) call k n
          ∙ in_front past k h
          ∙ sym (in_front past' k h)
          ∙ sym (bytes_stay state (rooms ++ past') call k n)

  -- as many bytes past them, whatever they are
  pub front_same : take (length rooms) (store_after_call state (rooms ++ past) call) ≡ take (length rooms) (store_after_call state (rooms ++ past') call)
  front_same =
      ext_get_or 0 _ _ (long past ∙ sym (long past'))
      (λ k h.
      let l : k < length rooms = omega (arith, long past) in
      get_or-take (length rooms) _ k 0 l ∙ at k l ∙ sym (get_or-take (length rooms) _ k 0 l))
    where
      long : (p : List ℕ) → length (take (length rooms) (store_after_call state (rooms ++ p) call)) ≡ length rooms
      long p = length-take-le (length rooms) _ (rw (length_after state (rooms ++ p) call, length-append rooms p) (omega arith))

-- ---- values above 3

module _ (state : State) (rooms past : List ℕ) where
  -- the store that is lent
  pub past_two : map in_two_bits (with_past state (map in_two_bits rooms) past) ≡ map in_two_bits (with_past state rooms past)
  past_two = rw (length-map rooms in_two_bits) (go (ltb (length rooms) (store_length state)))
    where
      go : (b : Bool) → map in_two_bits (cond b (map in_two_bits rooms) (map in_two_bits rooms ++ past)) ≡ map in_two_bits (cond b rooms (rooms ++ past))
      go true = list_twice rooms
      go false =
          map-append in_two_bits (map in_two_bits rooms) past
          ∙ ap (λ (l : List ℕ). l ++ map in_two_bits past) (list_twice rooms)
          ∙ sym (map-append in_two_bits rooms past)

  -- the rooms afterwards
  pub front_two : length rooms ≤ store_length state → (call : Call) → front state (map in_two_bits rooms) past call ≡ map in_two_bits (front state rooms past call)
  front_two fits call = rw (length-map rooms in_two_bits) (go (ltb (length rooms) (store_length state)) refl)
    where
      two : List ℕ
      two = map in_two_bits rooms

      long : length two ≡ length rooms
      long = length-map rooms in_two_bits

      carried : (store : List ℕ) → take (length rooms) (store_after_call state (map in_two_bits store) call) ≡ map in_two_bits (take (length rooms) (store_after_call state store call))
      carried store =
          ap (take (length rooms)) (store_two state store call) ∙ sym (map_take in_two_bits (length rooms) (store_after_call state store call))

      go : (b : Bool) → ltb (length rooms) (store_length state) ≡ b
          → take (length rooms) (store_after_call state (cond b two (two ++ past)) call) ≡ map in_two_bits (take (length rooms) (store_after_call state (cond b rooms (rooms ++ past)) call))
      go true e = carried rooms
      go false e =
          let enough : store_length state ≤ length rooms = ltb-false (length rooms) (store_length state) e in
          let whole : length two ≡ store_length state = omega (arith, long) in
          (rw long at (front_same state two past (map in_two_bits past) call whole (sym (length-map past in_two_bits))))
          ∙ ap (λ (l : List ℕ). take (length rooms) (store_after_call state l call)) (sym (map-append in_two_bits rooms past))
          ∙ carried (rooms ++ past)
