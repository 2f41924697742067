-- The room of a slot lent from a store of either form, 01 'Receive' and 02 E7: where it lies, and the store when it came back with the bits in it.
-- Assumes nothing.
use mathlib.Core.Path.{◌≡◌, refl, sym, ◌∙◌, ap, ap₂}
use mathlib.Core.Bool.{Bool, true, false}
use mathlib.Core.List.{List, ◌++◌}
use Prim.Native.Nat.{ℕ, ◌+◌, ◌-◌, ◌*◌, ◌≤◌}
use native.Mathlib.Nat.{mul-le-mul, add-sub_cancel_left}
use native.Mathlib.Omega.{arith}
use lib.ListN.{length, take, drop, take-append-drop}
use borrow.Author.Tests.{le-ltb}
use borrow.Rule.Slice.PartMut.{mid_of, put_mid}
use Rattle.laws.proofs.Parts.{length_mid}
use Rattle.segmentation.specs.Segmentation.{blocks}
use Rattle.codeword.specs.declared.Grant.{Grant}
use Rattle.codeword.specs.Build.{bad_version}
use Rattle.slots.specs.State.{per_block, room_length, room_start}
use Rattle.slots.specs.Room.{agreeing, room_at, with_room}
use Rattle.slots.specs.Reception.{received}
use Rattle.slots.specs.Reading.{lacking}
use Rattle.slots.proofs.RoomLaws.{AllPlaces}
use Rattle.slots.proofs.PlaceBounds.{sent_below}
use Rattle.packing.specs.Store.{places_a_byte, bytes_a_block, places_in}
use Rattle.packing.proofs.Stores.{places_are, places_put}
use Rattle.reading.proofs.Lent.{mid_put, lacking_lent}
use Rattle.reading.proofs.Form.{room_there, room_places}
use Rattle.reception.specs.inner.Parts.{Accepted, InSlot}
use Rattle.reception.proofs.Behind.{received_behind}

-- a code block has at most as many bytes as places, and n of them have n times a code block's places
bytes_most : (four : Bool) {B : ℕ} → B ≡ bytes_a_block four → B ≤ per_block
unfolding bytes_a_block
bytes_most true e = omega arith
bytes_most false e = omega arith

in_places : (four : Bool) (n : ℕ) {B : ℕ} → B ≡ bytes_a_block four → places_a_byte four * (n * B) ≡ n * per_block
unfolding places_a_byte bytes_a_block
in_places true n e = rw e (omega arith)
in_places false n e = rw e (omega arith)

accepted_still : {A soft n m : ℕ} {g : Grant} {bits : List ℕ} → Accepted A soft g bits n → m ≡ n → Accepted A soft g bits m
accepted_still a e = rw e a

module _ (four : Bool) {M slot size soft : ℕ} {g : Grant} {bits : List ℕ} (store : List ℕ) (is : InSlot M slot size soft g bits (length (places_in four store))) {B : ℕ} (b : B ≡ bytes_a_block four) where
  -- where it lies can be computed
  pub room_small : M * B ≤ 92640
  room_small = omega (arith, mul-le-mul is.blocks_few (bytes_most four b))

  pub room_near : slot * (M * B) ≤ 741120
  room_near = omega (arith, mul-le-mul is.slots_few room_small)

  abbrev places : List ℕ
  places = places_in four store

  abbrev first : ℕ
  first = slot * (M * per_block)

  abbrev many : ℕ
  many = M * per_block

  within : first + many ≤ length places
  unfolding room_start room_length
  within = is.within

  abbrev from : ℕ
  from = slot * (M * B)

  abbrev lent : List ℕ
  lent = mid_of from (from + M * B - from) store

  -- and it is in the store
  pub room_in : from + M * B ≤ length store
  room_in = room_there four M slot store within b

  lent_places : places_in four lent ≡ mid_of first (first + many - first) places
  lent_places = room_places four M slot store within b

  lent_long : length (places_in four lent) ≡ many
  lent_long = ap length lent_places ∙ length_mid first (first + many) places within ∙ add-sub_cancel_left first many

  pub room_ready : Accepted size soft g bits (length (places_in four lent))
  unfolding room_length
  room_ready = accepted_still is.accepted lent_long

  all_places : AllPlaces soft (size + 24) g
  unfolding bad_version
  all_places r = sent_below size is.accepted.size is.accepted.wide g r (le-ltb 3 g.version is.accepted.version)

  -- the room came back with the bits in it
  module _ {count : ℕ} (last : List ℕ) (kept : length last ≡ length lent)
      (put : (places_in four last ≡ received agreeing soft size g bits (places_in four lent)) × (count ≡ lacking size (places_in four last))) where
    abbrev store' : List ℕ
    store' = put_mid from (from + M * B - from) store last

    back : places_in four store' ≡ put_mid first (first + many - first) places (places_in four last)
    back =
        places_put four from (from + M * B) store last (omega arith) room_in (kept ∙ length_mid from (from + M * B) store room_in)
        ∙ ap₂ (λ (a z : ℕ). put_mid a (z - a) places (places_in four last)) begin end
      where
        begin : places_a_byte four * from ≡ first
        begin = ap (λ (n : ℕ). places_a_byte four * n) (omega arith) ∙ in_places four (slot * M) b ∙ omega arith

        end : places_a_byte four * (from + M * B) ≡ first + many
        end = ap (λ (n : ℕ). places_a_byte four * n) (omega arith) ∙ in_places four (slot * M + M) b ∙ omega arith

    last_long : length (places_in four last) ≡ first + many - first
    last_long = places_are four last ∙ ap (λ (n : ℕ). places_a_byte four * n) kept ∙ sym (places_are four lent) ∙ lent_long ∙ sym (add-sub_cancel_left first many)

    pub room_stored : places_in four store' ≡ with_room M slot (received agreeing soft size g bits (room_at M slot places)) places
    unfolding with_room room_at room_start room_length
    room_stored =
        back
        ∙ ap (put_mid first (first + many - first) places) (put.0 ∙ ap (received agreeing soft size g bits) lent_places)
        ∙ ap (λ (l : List ℕ). take first places ++ l)
        (sym (received_behind agreeing soft size g bits all_places (mid_of first (first + many - first) places) _ enough)
        ∙ ap (received agreeing soft size g bits) (take-append-drop (first + many - first) (drop first places)))
      where
        enough : blocks (size + 24) * per_block ≤ length (mid_of first (first + many - first) places)
        enough = omega (arith, is.accepted.fits, ap length lent_places, lent_long)

    pub room_counted : count ≡ lacking size (room_at M slot (places_in four store'))
    unfolding room_start room_length
    room_counted =
        put.1
        ∙ ap (lacking size) (sym (mid_put first (first + many - first) places (places_in four last) (omega (arith, within)) last_long))
        ∙ lacking_lent M slot size (put_mid first (first + many - first) places (places_in four last)) is.accepted.size few refl refl
        ∙ ap (λ (l : List ℕ). lacking size (room_at M slot l)) (sym back)
      where
        few : blocks (size + 24) ≤ M
        few = omega (arith, is.accepted.fits)
