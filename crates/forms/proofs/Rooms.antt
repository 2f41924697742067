-- Every room of a store changed into the other form, 02 E7: the store keeps the same places, with values above 3 become 2 where four stand in a byte.
-- Assumes nothing.
use mathlib.Core.Path.{◌≡◌, refl, sym, ◌∙◌, ap, ap₂}
use mathlib.Core.Bool.{Bool, true, false, not}
use mathlib.Core.List.{List, [], ◌++◌}
use Prim.Native.Nat.{ℕ, zero, suc, ◌+◌, ◌*◌, ◌≤◌}
use native.Mathlib.Omega.{arith}
use lib.ListN.{length, take, drop, length-drop}
use lib.Seq.{length-take-le, take-add, take-append-add}
use Rattle.slots.specs.State.{room_length}
use Rattle.packing.specs.Packing.{packed, unpacked}
use Rattle.packing.specs.Change.{packed_length, bad_blocks}
use Rattle.packing.specs.Store.{bytes_a_block, places_in}
use Rattle.packing.proofs.Forms.{length_packed, length_unpacked, there_and_back}
use Rattle.packing.proofs.Carried.{four_times, packs, unpacks}
use Rattle.forms.specs.Change.{room_in, room_changed, rooms_changed}
use Rattle.forms.proofs.Places.{places_append, places_none, kept_in, kept_append}

module _ (M : ℕ) (good : bad_blocks M ≡ false) where
  -- one room
  room_long : (four : Bool) (room old : List ℕ) → length room ≡ room_in (not four) M → length old ≡ room_in four M → length (room_changed four M room old) ≡ room_in four M
  unfolding room_changed room_in bytes_a_block packed_length room_length
  room_long true room old e f = ap length (packs M good room old e f) ∙ length_packed (M * 4632) room
  room_long false room old e f = ap length (unpacks M good room old e f) ∙ length_unpacked (M * 4632) room ∙ sym (four_times M)

  room_places : (four : Bool) (room old : List ℕ) → length room ≡ room_in (not four) M → length old ≡ room_in four M
      → places_in four (room_changed four M room old) ≡ kept_in four (places_in (not four) room)
  unfolding room_changed room_in bytes_a_block packed_length room_length places_in
  room_places true room old e f =
      ap (λ (l : List ℕ). unpacked (length l) l) (packs M good room old e f)
      ∙ ap (λ (m : ℕ). unpacked m (packed (M * 4632) room)) (length_packed (M * 4632) room)
      ∙ there_and_back (M * 4632) room (e ∙ four_times M)
  room_places false room old e f = unpacks M good room old e f ∙ ap (λ (m : ℕ). unpacked m room) (sym e)

  -- n rooms
  pub rooms_places : (four : Bool) (n : ℕ) (from to : List ℕ) → n * room_in (not four) M ≤ length from → n * room_in four M ≤ length to
      → places_in four (take (n * room_in four M) (rooms_changed four M n from to)) ≡ kept_in four (places_in (not four) (take (n * room_in (not four) M) from))
  unfolding rooms_changed
  rooms_places four zero from to h g = rw (none (room_in four M), none (room_in (not four) M)) (places_none four ∙ sym (ap (kept_in four) (places_none (not four)) ∙ nothing four))
    where
      none : (n : ℕ) → 0 * n ≡ 0
      none n = omega arith

      nothing : (four : Bool) → kept_in four [] ≡ []
      nothing true = refl
      nothing false = refl
  rooms_places four (suc n) from to h g =
      ap (λ (k : ℕ). places_in four (take k (first ++ others))) (more b ∙ ap (λ (k : ℕ). k + n * b) (sym long))
      ∙ ap (places_in four) (take-append-add first others (n * b))
      ∙ places_append four first (take (n * b) others)
      ∙ ap₂ ◌++◌
      (room_places four (take a from) (take b to) from_long to_long)
      (rooms_places four n (drop a from) (drop b to) (rw (length-drop a from) (omega (arith, more a))) (rw (length-drop b to) (omega (arith, more b))))
      ∙ sym
      (ap (λ (k : ℕ). kept_in four (places_in (not four) (take k from))) (more a)
      ∙ ap (λ (l : List ℕ). kept_in four (places_in (not four) l)) (take-add a (n * a) from)
      ∙ ap (kept_in four) (places_append (not four) (take a from) (take (n * a) (drop a from)))
      ∙ kept_append four (places_in (not four) (take a from)) _)
    where
      a : ℕ
      a = room_in (not four) M

      b : ℕ
      b = room_in four M

      more : (k : ℕ) → suc n * k ≡ k + n * k
      more k = omega arith

      first : List ℕ
      first = room_changed four M (take a from) (take b to)

      others : List ℕ
      others = rooms_changed four M n (drop a from) (drop b to)

      from_long : length (take a from) ≡ a
      from_long = length-take-le a from (omega (arith, more a))

      to_long : length (take b to) ≡ b
      to_long = length-take-le b to (omega (arith, more b))

      long : length first ≡ b
      long = room_long four (take a from) (take b to) from_long to_long
