-- A reception in a room leaves what stands behind its code blocks, 01 'Receive': so a room may be lent without it.
-- Assumes nothing.
use mathlib.Core.Path.{◌≡◌, refl, sym, ◌∙◌, ap, ap₂}
use mathlib.Core.List.{List, ◌++◌, append_assoc}
use Prim.Native.Nat.{ℕ, zero, suc, ◌+◌, ◌*◌, ◌≤◌}
use native.Mathlib.Nat.{zero-add}
use native.Mathlib.Omega.{arith}
use lib.ListN.{length, take, drop, length-drop}
use lib.Seq.{take-append-le, drop-append-le}
use Rattle.segmentation.specs.Segmentation.{blocks}
use Rattle.codeword.specs.declared.Grant.{Grant}
use Rattle.slots.specs.State.{per_block}
use Rattle.slots.specs.Putting.{Keeping, put_along}
use Rattle.slots.specs.Room.{circle_at, with_circle}
use Rattle.slots.specs.Reception.{block_places, block_values, put_on, put_blocks, received}
use Rattle.slots.proofs.RoomLaws.{AllPlaces, length_with, length_put_on}
use Rattle.bit_placement.proofs.Putting.{along_front}

module _ {X Y : Type 0} (how : Keeping X Y) (soft B : ℕ) (g : Grant) (values : List Y) (places : AllPlaces soft B g) where
  -- the room after the values of code block r
  abbrev after_block : ℕ → List X → List X
  after_block r room = with_circle r (put_on how soft B g values r (circle_at r room)) room

  block_behind : (r : ℕ) (room rest : List X) → (r + 1) * per_block ≤ length room → after_block r (room ++ rest) ≡ after_block r room ++ rest
  unfolding with_circle put_on circle_at
  block_behind r room rest h =
      ap₂ (λ (a b : List X). a ++ put_along how js ws b) (take-append-le (r * per_block) room rest (omega arith)) (drop-append-le (r * per_block) room rest (omega arith))
      ∙ ap (λ (l : List X). take (r * per_block) room ++ l)
      (along_front how js ws (drop (r * per_block) room) rest (λ i l. rw (length-drop (r * per_block) room) (omega (arith, places r i l))))
      ∙ sym (append_assoc (take (r * per_block) room) (put_along how js ws (drop (r * per_block) room)) rest)
    where
      js : List ℕ
      js = block_places soft B g r

      ws : List Y
      ws = block_values B g values r

  blocks_behind : (r n : ℕ) (room rest : List X) → (r + n) * per_block ≤ length room
      → put_blocks how soft B g values r n (room ++ rest) ≡ put_blocks how soft B g values r n room ++ rest
  unfolding put_blocks
  blocks_behind r zero room rest h = refl
  blocks_behind r (suc n) room rest h =
      ap (put_blocks how soft B g values (suc r) n) (block_behind r room rest (omega arith))
      ∙ blocks_behind (suc r) n (after_block r room) rest (rw (length_with r _ room (length_put_on how soft B g values r (circle_at r room))) (omega arith))

pub received_behind : {X Y : Type 0} (how : Keeping X Y) (soft A : ℕ) (g : Grant) (values : List Y) → AllPlaces soft (A + 24) g
    → (room rest : List X) → blocks (A + 24) * per_block ≤ length room
    → received how soft A g values (room ++ rest) ≡ received how soft A g values room ++ rest
unfolding received
received_behind how soft A g values places room rest h =
    blocks_behind how soft (A + 24) g values places 0 (blocks (A + 24)) room rest (rw (zero-add (blocks (A + 24))) h)
