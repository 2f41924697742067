-- A room carried over and back by the two calls, 02 E7: there and back gives the old room with values above 3 become 2, back and there gives the new room itself.
-- Assumes nothing.
use mathlib.Core.Path.{◌≡◌, refl, sym, ◌∙◌, ap}
use mathlib.Core.Bool.{false}
use mathlib.Core.List.{List, ◌++◌, append-nil, map}
use Prim.Native.Nat.{ℕ, ◌*◌}
use native.Mathlib.Omega.{arith}
use lib.ListN.{length, drop_of_length-le}
use Rattle.laws.specs.Bits.{EachBelow}
use Rattle.slots.specs.State.{room_length}
use Rattle.packing.specs.Packing.{in_two_bits, packed, packed_over, unpacked, unpacked_over}
use Rattle.packing.specs.Change.{packed_length, bad_blocks, pack_number, pack_output, unpack_number, unpack_output}
use Rattle.packing.proofs.Forms.{length_packed, length_unpacked, there_and_back, back_and_there}
use Rattle.packing.proofs.Rooms.{accepted}

-- a room is four times its packed form
pub four_times : (M : ℕ) → room_length M ≡ 4 * packed_length M
unfolding room_length packed_length
four_times M = omega arith

module _ (M : ℕ) (good : bad_blocks M ≡ false) where
  -- the call gives the packed room, and the call back the unpacked one
  pub packs : (room old : List ℕ) → length room ≡ room_length M → length old ≡ packed_length M → pack_output M room old ≡ packed (packed_length M) room
  unfolding pack_output pack_number packed_over
  packs room old e f =
      sym (accepted M (length room) (length old) (room_length M) (packed_length M) (packed_over (packed_length M) room old) old good (omega arith) (omega arith) refl).1
      ∙ ap (λ (l : List ℕ). packed (packed_length M) room ++ l) (drop_of_length-le old {i = packed_length M} (omega arith))
      ∙ append-nil (packed (packed_length M) room)

  pub unpacks : (room old : List ℕ) → length room ≡ packed_length M → length old ≡ room_length M → unpack_output M room old ≡ unpacked (packed_length M) room
  unfolding unpack_output unpack_number unpacked_over
  unpacks room old e f =
      sym (accepted M (length room) (length old) (packed_length M) (room_length M) (unpacked_over (packed_length M) room old) old good (omega arith) (omega arith) refl).1
      ∙ ap (λ (l : List ℕ). unpacked (packed_length M) room ++ l) (drop_of_length-le old {i = 4 * packed_length M} (omega (arith, four_times M)))
      ∙ append-nil (unpacked (packed_length M) room)

  -- there and back, whatever the buffers held
  pub room_there_and_back : (room old back : List ℕ) → length room ≡ room_length M → length old ≡ packed_length M → length back ≡ room_length M
      → unpack_output M (pack_output M room old) back ≡ map in_two_bits room
  room_there_and_back room old back e f g =
      ap (λ (l : List ℕ). unpack_output M l back) (packs room old e f)
      ∙ unpacks (packed (packed_length M) room) back (length_packed (packed_length M) room) g
      ∙ there_and_back (packed_length M) room (e ∙ four_times M)

  -- back and there
  pub room_back_and_there : (room old back : List ℕ) → EachBelow 256 room → length room ≡ packed_length M → length old ≡ room_length M → length back ≡ packed_length M
      → pack_output M (unpack_output M room old) back ≡ room
  room_back_and_there room old back bytes e f g =
      ap (λ (l : List ℕ). pack_output M l back) (unpacks room old e f)
      ∙ packs (unpacked (packed_length M) room) back (length_unpacked (packed_length M) room ∙ sym (four_times M)) g
      ∙ back_and_there (packed_length M) room e bytes
