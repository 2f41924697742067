-- What is read of a room, and what a reception leaves in it, follow from the bytes of the room alone.
-- Assumes nothing.
use mathlib.Core.Path.{◌≡◌, sym, ◌∙◌, ap}
use mathlib.Core.Bool.{false}
use mathlib.Core.List.{List}
use Prim.Native.Nat.{ℕ, ◌+◌, ◌*◌, ◌≤◌, ◌<◌}
use native.Mathlib.Nat.{mul-le-mul_right}
use native.Mathlib.Decide.{dec_lt}
use native.Mathlib.Omega.{arith}
use lib.ListN.{length, get_or}
use Rattle.segmentation.specs.Segmentation.{blocks, size_of}
use Rattle.segmentation.specs.Sizes.{bad_size}
use Rattle.rate_matching.specs.Places.{place_number}
use Rattle.codeword.specs.declared.Grant.{Grant}
use Rattle.slots.specs.State.{per_block, room_length}
use Rattle.slots.specs.Putting.{met_by}
use Rattle.slots.specs.Room.{agreeing, circle_at}
use Rattle.slots.specs.Circle.{kept_on}
use Rattle.slots.specs.Reception.{received}
use Rattle.slots.specs.Reading.{lacking, heard_answer, heard_block, three_streams}
use Rattle.slots.proofs.RoomLaws.{AllPlaces, circle_entry, place_in_room, by_place, brought, received_here, received_past}
use Rattle.slots.proofs.PlaceBounds.{place_below}
use Rattle.slots.proofs.SameKept as SameKept

-- two rooms for M code blocks that are open for a block of A bits
module _ (M A : ℕ) (admitted : bad_size A ≡ false) (fits : blocks (A + 24) ≤ M) (room other : List ℕ)
    (same : (k : ℕ) → k < room_length M → get_or room k 0 ≡ get_or other k 0)
  where
    same_byte : (r j : ℕ) → r < M → j < per_block → get_or (circle_at r room) j 0 ≡ get_or (circle_at r other) j 0
    same_byte r j h l = circle_entry r room j 0 ∙ same (r * per_block + j) (place_in_room M r j h l) ∙ sym (circle_entry r other j 0)

    same_kept : (r s i : ℕ) → r < blocks (A + 24) → s < 3 → i < size_of (A + 24) r + 4
        → kept_on (circle_at r room) (size_of (A + 24) r + 4) s i ≡ kept_on (circle_at r other) (size_of (A + 24) r + 4) s i
    unfolding kept_on
    same_kept r s i h u l = same_byte r (place_number (size_of (A + 24) r + 4) s i) (omega arith) (place_below A admitted r s i u l)

    -- how many data places lack a bit
    pub same_lacking : lacking A room ≡ lacking A other
    same_lacking = SameKept.same_lacking A room other same_kept

    -- what Read answers
    pub same_answer : heard_answer A room ≡ heard_answer A other
    same_answer = SameKept.same_answer A room other same_kept

    pub same_block : heard_block A room ≡ heard_block A other
    same_block = SameKept.same_block A room other same_kept

    -- the three streams of a code block
    pub same_streams : (r : ℕ) → r < blocks (A + 24) → three_streams (A + 24) room r ≡ three_streams (A + 24) other r
    same_streams = SameKept.same_streams A room other same_kept

    -- what a reception leaves
    pub same_received : (soft : ℕ) (g : Grant) (bits : List ℕ) → AllPlaces soft (A + 24) g
        → blocks (A + 24) * per_block ≤ length room → blocks (A + 24) * per_block ≤ length other
        → (k : ℕ) → k < room_length M → get_or (received agreeing soft A g bits room) k 0 ≡ get_or (received agreeing soft A g bits other) k 0
    unfolding agreeing
    same_received soft g bits places long long' =
        by_place M (λ (k : ℕ). get_or (received agreeing soft A g bits room) k 0 ≡ get_or (received agreeing soft A g bits other) k 0) at_place
      where
        at_place : (r j : ℕ) → r < M → j < per_block
            → get_or (received agreeing soft A g bits room) (r * per_block + j) 0 ≡ get_or (received agreeing soft A g bits other) (r * per_block + j) 0
        at_place r j h l =
            elim (dec_lt r (blocks (A + 24))) [
              | yes early ↦
                  sym (circle_entry r _ j 0)
                  ∙ received_here agreeing soft A g bits room long places r j early l
                  ∙ ap (λ (x : ℕ). met_by agreeing x (brought agreeing soft (A + 24) g bits r j)) (same_byte r j h l)
                  ∙ sym (received_here agreeing soft A g bits other long' places r j early l)
                  ∙ circle_entry r _ j 0
              | no late ↦
                  let after : blocks (A + 24) ≤ r = omega arith in
                  let past : blocks (A + 24) * per_block ≤ r * per_block + j = omega (arith, mul-le-mul_right per_block after) in
                  received_past agreeing soft A g bits room long places (r * per_block + j) past
                  ∙ same (r * per_block + j) (place_in_room M r j h l)
                  ∙ sym (received_past agreeing soft A g bits other long' places (r * per_block + j) past)
            ]
