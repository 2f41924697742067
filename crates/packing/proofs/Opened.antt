-- A packed store whose room was lent and came back with four times unheard in each byte is the packed form of the cleared store, 02 E7.
-- Assumes nothing.
use mathlib.Core.Path.{◌≡◌, refl, sym, ◌∙◌, ap}
use mathlib.Core.Bool.{true}
use mathlib.Core.List.{List}
use Prim.Native.Nat.{ℕ, zero, suc, ◌+◌, ◌-◌, ◌*◌, ◌/◌, ◌%◌, ◌≤◌, ◌<◌}
use native.Mathlib.Nat.{add-sub_cancel_left}
use native.Mathlib.Omega.{arith}
use lib.ListN.{length, replicate, length-replicate, get_or-replicate}
use lib.Seq.{ext_get_or}
use borrow.Rule.Slice.PartMut.{mid_of, put_mid}
use Rattle.laws.specs.Bits.{EachBelow}
use Rattle.laws.proofs.Parts.{length_mid}
use Rattle.segmentation.specs.Segmentation.{blocks}
use Rattle.rate_matching.specs.SoftBuffer.{soft_share, whole_share}
use Rattle.slots.specs.declared.State.{State}
use Rattle.slots.specs.State.{room_length, room_start}
use Rattle.slots.specs.Answers.{unless_refused}
use Rattle.slots.specs.Calls.{opened_for, store_rules, open_rules, open_number, open_outcome, open_down_number, open_down_outcome}
use Rattle.slots.specs.Room.{unheard, cleared}
use Rattle.slots.proofs.Cleared.{room_cleared}
use Rattle.packing.specs.Packing.{standing_at, place_in, unpacked}
use Rattle.packing.specs.Store.{unheard_byte, places_a_byte, places_in, in_form, places_asked}
use Rattle.packing.proofs.Forms.{length_unpacked}
use Rattle.packing.proofs.Stores.{get_or_unpacked, places_are, places_put, form_back, asked_enough}

-- 170 is unheard four times
stands_unheard : (k : ℕ) → standing_at k unheard_byte ≡ unheard
unfolding standing_at
stands_unheard zero = refl
stands_unheard (suc zero) = refl
stands_unheard (suc (suc zero)) = refl
stands_unheard (suc (suc (suc k))) = refl

unpacked_unheard : (n : ℕ) → places_in true (replicate {A = ℕ} n unheard_byte) ≡ replicate {A = ℕ} (4 * n) unheard
unfolding places_in place_in
unpacked_unheard n =
    ext_get_or 0 (unpacked (length bytes) bytes) (replicate {A = ℕ} (4 * n) unheard)
    (whole ∙ sym (length-replicate (4 * n) unheard))
    (λ j h.
    let l : j < 4 * n = omega (arith, whole) in
    get_or_unpacked (length bytes) bytes j (omega (arith, length-replicate n unheard_byte))
    ∙ ap (standing_at (j % 4)) (get_or-replicate n (j / 4) unheard_byte 0 (omega arith))
    ∙ stands_unheard (j % 4)
    ∙ sym (get_or-replicate (4 * n) j unheard 0 l))
  where
    bytes : List ℕ
    bytes = replicate {A = ℕ} n unheard_byte

    whole : length (unpacked (length bytes) bytes) ≡ 4 * n
    whole = length_unpacked (length bytes) bytes ∙ ap (λ (m : ℕ). 4 * m) (length-replicate n unheard_byte)

-- the bytes of a room for M code blocks, and where it starts
module _ (M slot : ℕ) (store part : List ℕ) where
  abbrev pub long : ℕ
  long = M * 4632

  abbrev pub from : ℕ
  from = slot * long

  pub room_cleared_packed : from + long ≤ length store
      → part ≡ replicate (length (mid_of from (from + long - from) store)) unheard_byte
      → EachBelow 256 (put_mid from (from + long - from) store part)
      → put_mid from (from + long - from) store part ≡ in_form true (cleared M slot (places_in true store))
  unfolding places_a_byte room_start room_length
  room_cleared_packed ends filled bytes = sym (form_back true (put_mid from (from + long - from) store part) bytes) ∙ ap (in_form true) cleared_places
    where
      places : List ℕ
      places = places_in true store

      whole : length places ≡ 4 * length store
      whole = places_are true store

      bytes_long : length (mid_of from (from + long - from) store) ≡ from + long - from
      bytes_long = length_mid from (from + long) store ends

      four_times : 4 * (from + long) ≡ 4 * from + 4 * long
      four_times = omega arith

      fits : 4 * from + 4 * long ≤ length places
      fits = omega (arith, whole)

      part_places : places_in true part ≡ replicate (length (mid_of (4 * from) (4 * from + 4 * long - 4 * from) places)) unheard
      part_places =
          ap (places_in true) (filled ∙ ap (λ (n : ℕ). replicate {A = ℕ} n unheard_byte) (bytes_long ∙ add-sub_cancel_left from long))
          ∙ unpacked_unheard long
          ∙ ap (λ (n : ℕ). replicate {A = ℕ} n unheard) (sym (length_mid (4 * from) (4 * from + 4 * long) places fits ∙ add-sub_cancel_left (4 * from) (4 * long)))

      cleared_places : places_in true (put_mid from (from + long - from) store part) ≡ cleared M slot places
      cleared_places =
          places_put true from (from + long) store part (omega arith) ends (ap length filled ∙ length-replicate _ unheard_byte ∙ bytes_long)
          ∙ ap (λ (n : ℕ). put_mid (4 * from) (n - 4 * from) places (places_in true part)) four_times
          ∙ room_cleared M slot {from = 4 * from} {long = 4 * long} places (places_in true part) (omega arith) (omega arith) fits part_places

-- ---- what the calls ask of the store

module _ (state : State) (store : List ℕ) (slot terminal A : ℕ) where
  pub asked_open : open_outcome state (places_asked true (length store)) slot terminal A ≡ open_outcome state (length (places_in true store)) slot terminal A
  unfolding open_outcome open_number open_rules
  asked_open = ap (λ (n : ℕ). unless_refused n state (opened_for state slot terminal A whole_share)) (asked_enough true state store slot _)

  pub asked_down : (release k_mimo processes Nsoft layers : ℕ)
      → open_down_outcome state (places_asked true (length store)) slot terminal A release k_mimo processes Nsoft layers
      ≡ open_down_outcome state (length (places_in true store)) slot terminal A release k_mimo processes Nsoft layers
  unfolding open_down_outcome open_down_number open_rules store_rules
  asked_down release k_mimo processes Nsoft layers =
      ap (λ (n : ℕ). unless_refused n state (opened_for state slot terminal A (soft_share (blocks (A + 24)) release k_mimo processes Nsoft layers))) (asked_enough true state store slot _)
