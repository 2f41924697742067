-- A code block's circle from a room of either form, 02 E7: lent from the room itself, or unpacked from its bytes.
-- Assumes nothing.
use mathlib.Core.Path.{◌≡◌, refl, sym, ◌∙◌, ap, ap₂}
use mathlib.Core.Bool.{Bool, true, false, not}
use mathlib.Core.List.{List, [], ◌∷◌, ◌++◌}
use Prim.Native.Nat.{ℕ, ◌+◌, ◌-◌, ◌*◌, ◌/◌, ◌≤◌, min}
use native.Mathlib.Nat.{add-sub_cancel_left}
use native.Mathlib.Omega.{arith}
use lib.Dec.{ltb}
use lib.ListN.{length, get_or, drop, get_or-append}
use borrow.Rule.Slice.PartMut.{mid_of}
use Rattle.laws.proofs.Parts.{length_mid, get_or_mid}
use Rattle.refusals.specs.Refusals.{rule}
use Rattle.segmentation.specs.Segmentation.{blocks, size_of}
use Rattle.slots.specs.declared.State.{State}
use Rattle.slots.specs.State.{per_block}
use Rattle.slots.specs.Room.{circle_at}
use Rattle.slots.specs.Calls.{owner_rules, size_at_head, read_number, streams_number}
use Rattle.packing.specs.Packing.{unpacked, unpacked_over}
use Rattle.packing.specs.Store.{places_a_byte, bytes_a_block, places_in, places_asked}
use Rattle.packing.proofs.Forms.{length_unpacked}
use Rattle.packing.proofs.Stores.{places_are, places_mid, asked_enough}
use Rattle.rate_matching.specs.SubBlocks.{rows}
use Rattle.rate_matching.specs.Circle.{circle_length}
use Rattle.slots.proofs.RoomLaws.{circle_entry}
use Rattle.kept_bits.specs.Circle.{reach_of}
use Rattle.kept_bits.specs.inner.Rows.{Streams, Stretch}
use Rattle.reading.specs.inner.Form.{HasCircle}
use Rattle.kept_bits.proofs.Rows.{reach_most, reach_last}
use Rattle.reading.proofs.Lent.{Alike, circle_alike}

-- the numbers of either form
four_slim : bytes_a_block true ≡ 4632
unfolding bytes_a_block
four_slim = refl

plain_slim : bytes_a_block false ≡ per_block
unfolding bytes_a_block
plain_slim = refl

four_a_byte : places_a_byte true ≡ 4
unfolding places_a_byte
four_a_byte = refl

one_a_byte : places_a_byte false ≡ 1
unfolding places_a_byte
one_a_byte = refl

four_times : (l : List ℕ) → length (places_in true l) ≡ 4 * length l
four_times l = places_are true l ∙ ap (λ (n : ℕ). n * length l) four_a_byte

plain_times : (l : List ℕ) → length (places_in false l) ≡ length l
unfolding places_in
plain_times l = refl

-- the bytes of code block r are there
pub bytes_there : (four : Bool) (r : ℕ) (room : List ℕ) → r * per_block + per_block ≤ length (places_in four room)
    → r * bytes_a_block four + bytes_a_block four ≤ length room
unfolding bytes_a_block places_a_byte
bytes_there true r room h = omega (arith, places_are true room)
bytes_there false r room h = omega (arith, places_are false room)

-- the places of a stretch lie on any circle of enough places
pub stretch_on : {long long' D s i n : ℕ} → Stretch long D s i n → per_block ≤ long' → Stretch long' D s i n
stretch_on {s = s} w h = record { sized = w.sized; stream = w.stream; begin = w.begin; within = w.within; room = omega (arith, h, reach_most s w.sized.most) }

pub stretch_in : {long long' D s i n : ℕ} → Stretch long D s i n → reach_of D s ≤ long' → Stretch long' D s i n
stretch_in w h = record { sized = w.sized; stream = w.stream; begin = w.begin; within = w.within; room = h }

pub plain_long : {four : Bool} → four ≡ false → bytes_a_block four ≡ per_block
unfolding bytes_a_block
plain_long f = rw f

-- ---- a code block's part is lent

module _ {four : Bool} {r : ℕ} {room : List ℕ} (w : HasCircle four r room) {long : ℕ} (e : long ≡ bytes_a_block four) where
  pub part_within : r * long + long ≤ length room
  part_within = rw e (bytes_there four r room w.enough)

  pub part_long : length (mid_of (r * long) (r * long + long - r * long) room) ≡ bytes_a_block four
  part_long = length_mid (r * long) (r * long + long) room part_within ∙ add-sub_cancel_left (r * long) long ∙ e

plain_is : {four : Bool} → four ≡ false → (l : List ℕ) → places_in four l ≡ l
unfolding places_in
plain_is f l = rw f

-- where the form is plain the part is the circle's front
pub plain_alike : {four : Bool} {long : ℕ} (r : ℕ) (room : List ℕ) → long ≡ bytes_a_block four → four ≡ false
    → Alike per_block (mid_of (r * long) (r * long + long - r * long) room) (circle_at r (places_in four room))
plain_alike r room e f = rw (plain_is f room, e ∙ plain_long f) (circle_alike r room refl)

-- where it is packed, n of its bytes are unpacked over the front of the buffer, which then has the first 4·n places of the circle
module _ {four : Bool} {r n : ℕ} {room : List ℕ} (w : HasCircle four r room) (f : four ≡ true) {long : ℕ} (e : long ≡ bytes_a_block four) (few : n ≤ 4632) where
  abbrev front : List ℕ
  front = mid_of (r * long) (r * long + n - r * long) room

  slim : long ≡ 4632
  slim = e ∙ ap bytes_a_block f ∙ four_slim

  pub front_within : r * long + n ≤ length room
  front_within = omega (arith, part_within w e, slim)

  front_long : length front ≡ n
  front_long = length_mid (r * long) (r * long + n) room front_within ∙ add-sub_cancel_left (r * long) n

  front_places : unpacked n front ≡ mid_of (r * per_block) (4 * n) (places_in true room)
  unfolding places_in
  front_places =
      ap (λ (m : ℕ). unpacked m front) (sym front_long)
      ∙ places_mid true (r * long) (r * long + n) room (omega arith) front_within
      ∙ ap₂ (λ (a k : ℕ). mid_of a k (unpacked (length room) room)) starts counts
    where
      starts : places_a_byte true * (r * long) ≡ r * per_block
      starts = rw (four_a_byte, slim) (omega arith)

      counts : places_a_byte true * (r * long + n) - places_a_byte true * (r * long) ≡ 4 * n
      counts = rw four_a_byte (omega arith)

  pub front_alike : (circle : List ℕ) → 4 * n ≤ length circle → {circle' : List ℕ} → circle' ≡ unpacked_over (min (length front) (length circle / 4)) front circle
      → Alike (4 * n) circle' (circle_at r (places_in four room))
  unfolding unpacked_over
  front_alike circle fits o = record {
    same = λ p h.
        ap (λ (l : List ℕ). get_or l p 0) (o ∙ ap (λ (m : ℕ). unpacked m front ++ drop (4 * m) circle) all)
        ∙ get_or-append (unpacked n front) (drop (4 * n) circle) 0 p (omega (arith, length_unpacked n front))
        ∙ ap (λ (l : List ℕ). get_or l p 0) front_places
        ∙ get_or_mid (r * per_block) (4 * n) (places_in true room) p 0 h
        ∙ sym (circle_entry r (places_in true room) p 0)
        ∙ ap (λ (t : Bool). get_or (circle_at r (places_in t room)) p 0) (sym f);
  }
    where
      all : min (length front) (length circle / 4) ≡ n
      all = omega (arith, front_long)

-- the bytes of stream 0, 8 a row, and those of the circle, 24 a row
pub data_few : (k : ℕ) → Streams (k + 4) → 8 * ((k + 35) / 32) ≤ 1544
data_few k w = omega (arith, w.most)

pub data_reach : (k : ℕ) → reach_of (k + 4) 0 ≤ 4 * (8 * ((k + 35) / 32))
unfolding reach_of rows
data_reach k = omega arith

pub circle_few : {d : ℕ} → Streams d → 24 * ((d + 31) / 32) ≤ 4632
circle_few w = omega (arith, w.most)

pub circle_reach : (d s : ℕ) → reach_of d s ≤ 4 * (24 * ((d + 31) / 32))
unfolding circle_length rows
circle_reach d s = omega (arith, reach_last d s)

-- ---- a slot's room is lent

module _ (four : Bool) (M slot : ℕ) (store : List ℕ) (h : slot * (M * per_block) + M * per_block ≤ length (places_in four store)) where
  there : slot * (M * bytes_a_block four) + M * bytes_a_block four ≤ length store
  there = go four h
    where
      go : (four : Bool) → slot * (M * per_block) + M * per_block ≤ length (places_in four store) → slot * (M * bytes_a_block four) + M * bytes_a_block four ≤ length store
      go true h = rw four_slim (omega (arith, four_times store))
      go false h = rw plain_slim (omega (arith, plain_times store))

  pub room_there : {B : ℕ} → B ≡ bytes_a_block four → slot * (M * B) + M * B ≤ length store
  room_there e = rw e there

  pub room_places : {B : ℕ} → B ≡ bytes_a_block four
      → places_in four (mid_of (slot * (M * B)) (slot * (M * B) + M * B - slot * (M * B)) store)
      ≡ mid_of (slot * (M * per_block)) (slot * (M * per_block) + M * per_block - slot * (M * per_block)) (places_in four store)
  room_places {B} e =
      places_mid four (slot * (M * B)) (slot * (M * B) + M * B) store (omega arith) (room_there e)
      ∙ ap₂ (λ (a b : ℕ). mid_of a (b - a) (places_in four store)) (first four e) (last four e)
    where
      first : (four : Bool) → B ≡ bytes_a_block four → places_a_byte four * (slot * (M * B)) ≡ slot * (M * per_block)
      first true e = rw (e, four_slim, four_a_byte) (omega arith)
      first false e = rw (e, plain_slim, one_a_byte) (omega arith)

      last : (four : Bool) → B ≡ bytes_a_block four → places_a_byte four * (slot * (M * B) + M * B) ≡ slot * (M * per_block) + M * per_block
      last true e = rw (e, four_slim, four_a_byte) (omega arith)
      last false e = rw (e, plain_slim, one_a_byte) (omega arith)

-- what Read asks of the store's length
pub read_asked : (four : Bool) (state : State) (store : List ℕ) (slot terminal size : ℕ) {room n : ℕ} → room ≡ places_asked four (length store)
    → n ≡ read_number state room slot terminal size → n ≡ read_number state (length (places_in four store)) slot terminal size
unfolding read_number
read_asked four state store slot terminal size r e =
    e ∙ rw r (asked_enough four state store slot (owner_rules state slot terminal ++ (rule (ltb size (size_at_head state slot)) 5 ∷ [])))

-- and Streams
pub streams_asked : (four : Bool) (state : State) (store : List ℕ) (slot terminal r size : ℕ) {room n : ℕ} → room ≡ places_asked four (length store)
    → n ≡ streams_number state room slot terminal r size → n ≡ streams_number state (length (places_in four store)) slot terminal r size
unfolding streams_number
streams_asked four state store slot terminal r size e n =
    n
    ∙ rw e (asked_enough four state store slot (owner_rules state slot terminal
    ++ (rule (not (ltb r (blocks (size_at_head state slot + 24)))) 14 ∷ rule (ltb size (3 * (size_of (size_at_head state slot + 24) r + 4))) 5 ∷ [])))
