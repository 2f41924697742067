-- That a room follows what was received, demand 3: what the receptions brought for a place meets there, in arrival order, from what an opening wrote on. Whatever a
-- reception is, whatever it brings and however the two meet; bits that must agree (02, E2) are one case.
-- Assumes nothing.
use mathlib.Core.Path.{◌≡◌, sym, ◌∙◌, ap₂}
use mathlib.Core.List.{List, [], ◌∷◌}
use Prim.Native.Nat.{ℕ, ◌+◌, ◌*◌, ◌≤◌, ◌<◌}
use native.Mathlib.Nat.{mul-le-mul_right}
use native.Mathlib.Omega.{arith}
use lib.ListN.{length, get_or}
use Rattle.segmentation.specs.Segmentation.{blocks}
use Rattle.codeword.specs.declared.Grant.{Grant}
use Rattle.slots.specs.State.{per_block, room_length}
use Rattle.slots.specs.Putting.{Keeping, met_by}
use Rattle.slots.specs.Room.{unheard, agreeing, circle_at}
use Rattle.slots.specs.Reception.{received}
use Rattle.slots.proofs.Putting.{met_append}
use Rattle.slots.proofs.RoomLaws.{AllPlaces, circle_entry, place_in_room, brought, received_here, received_past}
use Rattle.history.specs.Calls.{Reception}
use Rattle.history.specs.Accepted.{in_order, bits_for}

-- a room for M code blocks after receptions, latest first, for C of them; `brings r j` says what a reception brings for place j of code block r
pub record Follows {R X Y : Type 0} (how : Keeping X Y) (start : X) (brings : ℕ → ℕ → R → List Y) (C M : ℕ) (xs : List R) (room : List X) : Type 0 where
  pub place : (r j : ℕ) → r < C → j < per_block → get_or (circle_at r room) j how.none ≡ met_by how start (in_order (brings r j) xs)
  pub rest : (r j : ℕ) → C ≤ r → r < M → j < per_block → get_or (circle_at r room) j how.none ≡ start

module _ {R X Y : Type 0} (how : Keeping X Y) (start : X) (brings : ℕ → ℕ → R → List Y) (M : ℕ) where
  -- an opened room
  pub follows_none : {C : ℕ} (room : List X) → C ≤ M → ((k : ℕ) → k < room_length M → get_or room k how.none ≡ start) → Follows how start brings C M [] room
  unfolding in_order met_by
  follows_none room few h = record {
    place = λ r j l k. circle_entry r room j how.none ∙ h (r * per_block + j) (place_in_room M r j (omega arith) k);
    rest = λ r j g l k. circle_entry r room j how.none ∙ h (r * per_block + j) (place_in_room M r j l k);
  }

  -- a room with the same bytes
  pub follows_same : {C : ℕ} {xs : List R} (room after : List X) → C ≤ M → ((k : ℕ) → k < room_length M → get_or after k how.none ≡ get_or room k how.none)
      → Follows how start brings C M xs room → Follows how start brings C M xs after
  follows_same room after few same f = record {
    place = λ r j l k. byte r j (omega arith) k ∙ f.place r j l k;
    rest = λ r j g l k. byte r j l k ∙ f.rest r j g l k;
  }
    where
      byte : (r j : ℕ) → r < M → j < per_block → get_or (circle_at r after) j how.none ≡ get_or (circle_at r room) j how.none
      byte r j l k =
          circle_entry r after j how.none ∙ same (r * per_block + j) (place_in_room M r j l k) ∙ sym (circle_entry r room j how.none)

  -- one more reception
  pub follows_more : (soft A : ℕ) (g : Grant) (values : List Y) (x : R) → ((r j : ℕ) → brings r j x ≡ brought how soft (A + 24) g values r j)
      → {xs : List R} (room : List X) → blocks (A + 24) * per_block ≤ length room → AllPlaces soft (A + 24) g
      → Follows how start brings (blocks (A + 24)) M xs room → Follows how start brings (blocks (A + 24)) M (x ∷ xs) (received how soft A g values room)
  unfolding in_order
  follows_more soft A g values x is {xs} room fits places f = record {
    place = λ r j l k.
        received_here how soft A g values room fits places r j l k
        ∙ ap₂ (met_by how) (f.place r j l k) (sym (is r j))
        ∙ sym (met_append how start (in_order (brings r j) xs) (brings r j x));
    rest = λ r j late l k.
        circle_entry r _ j how.none
        ∙ received_past how soft A g values room fits places (r * per_block + j) (omega (arith, mul-le-mul_right per_block late))
        ∙ sym (circle_entry r room j how.none)
        ∙ f.rest r j late l k;
  }

-- receptions of bits for a block of A bits
abbrev pub Met : ℕ → ℕ → ℕ → List Reception → List ℕ → Type 0
Met soft A M xs room = Follows agreeing unheard (bits_for soft A) (blocks (A + 24)) M xs room
