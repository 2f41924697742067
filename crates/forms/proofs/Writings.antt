-- What Open and a reception leave of a store with values above 3 become 2, 01 'Open' and 'Receive', 02 E7: what they leave of the store, with that change.
-- Assumes nothing.
use mathlib.Core.Path.{◌≡◌, refl, sym, ◌∙◌, ap, ap₂}
use mathlib.Core.Bool.{Bool, true, false, cond}
use mathlib.Core.List.{List, [], ◌∷◌, ◌++◌, map}
use Prim.Native.Nat.{ℕ, zero, suc, ◌+◌, ◌*◌}
use lib.Dec.{eqb}
use lib.ListN.{length, get_or, take, drop, set, replicate, length-map}
use borrow.Author.Tests.{eqb-true}
use Rattle.laws.specs.Bits.{AreBits}
use Rattle.laws.proofs.AreBits.{drop_below}
use Rattle.segmentation.specs.Segmentation.{blocks}
use Rattle.codeword.specs.declared.Grant.{Grant}
use Rattle.codeword.specs.Shares.{grant, granted_before}
use Rattle.codeword.proofs.Accepted.{given_bits}
use Rattle.slots.specs.declared.State.{State}
use Rattle.slots.specs.State.{per_block, room_start, room_length}
use Rattle.slots.specs.Putting.{put_along}
use Rattle.slots.specs.Room.{unheard, meet, agreeing, room_at, circle_at, with_room, with_circle, cleared}
use Rattle.slots.specs.Reception.{block_places, block_values, put_on, put_blocks, received}
use Rattle.slots.specs.Calls.{size_at_head, share_at_head, receive_number, receive_store}
use Rattle.slots.proofs.Acceptance.{receives}
use Rattle.packing.specs.Packing.{in_two_bits}
use Rattle.history.specs.Links.{Link, opening_number, opening_store}
use Rattle.history.proofs.Links.{opening_store_lem}
use Rattle.forms.proofs.Lists.{map-append, map_take, map_drop, map_replicate, map_set}
use Rattle.forms.proofs.TwoBits.{meet_alike, get_or_two, room_two, circle_two}

module _ (M slot : ℕ) where
  cleared_two : (store : List ℕ) → cleared M slot (map in_two_bits store) ≡ map in_two_bits (cleared M slot store)
  unfolding cleared in_two_bits
  cleared_two store =
      ap₂ ◌++◌ (sym (map_take in_two_bits (room_start M slot) store))
      (ap₂ ◌++◌ (sym (map_replicate in_two_bits (room_length M) unheard)) (sym (map_drop in_two_bits (room_start M slot + room_length M) store))
      ∙ sym (map-append in_two_bits (replicate {A = ℕ} (room_length M) unheard) _))
      ∙ sym (map-append in_two_bits (take (room_start M slot) store) _)

-- bits put at places
puts_two : (js bits kept : List ℕ) → AreBits bits → put_along agreeing js bits (map in_two_bits kept) ≡ map in_two_bits (put_along agreeing js bits kept)
unfolding put_along agreeing
puts_two [] bits kept h = refl
puts_two (j ∷ js) bits kept h =
    ap (put_along agreeing js (drop 1 bits))
    (ap (set (map in_two_bits kept) j) (ap (λ (x : ℕ). meet x (get_or bits 0 0)) (get_or_two kept j) ∙ meet_alike (get_or kept j 0) (get_or bits 0 0) (h 0))
    ∙ sym (map_set in_two_bits kept j (meet (get_or kept j 0) (get_or bits 0 0))))
    ∙ puts_two js (drop 1 bits) (set kept j (meet (get_or kept j 0) (get_or bits 0 0))) (drop_below 2 1 bits h)

blocks_two : (soft B : ℕ) (g : Grant) (bits : List ℕ) → AreBits bits → (r n : ℕ) (room : List ℕ)
    → put_blocks agreeing soft B g bits r n (map in_two_bits room) ≡ map in_two_bits (put_blocks agreeing soft B g bits r n room)
unfolding put_blocks put_on block_values with_circle
blocks_two soft B g bits h r zero room = refl
blocks_two soft B g bits h r (suc n) room =
    let before : ℕ = granted_before (blocks B) g r in
    let places : List ℕ = block_places soft B g r in
    let at : ℕ = r * per_block in
    let circle : List ℕ = put_along agreeing places (drop before bits) (circle_at r room) in
    let same : put_along agreeing places (drop before bits) (circle_at r (map in_two_bits room)) ≡ map in_two_bits circle =
    ap (put_along agreeing places (drop before bits)) (circle_two r room) ∙ puts_two places (drop before bits) (circle_at r room) (drop_below 2 before bits h) in
    ap (put_blocks agreeing soft B g bits (suc r) n)
    (ap₂ ◌++◌ (sym (map_take in_two_bits at room)) same ∙ sym (map-append in_two_bits (take at room) circle))
    ∙ blocks_two soft B g bits h (suc r) n (take at room ++ circle)

-- a reception in a room of the store
received_two : (M slot soft A : ℕ) (g : Grant) (bits store : List ℕ) → AreBits bits
    → with_room M slot (received agreeing soft A g bits (room_at M slot (map in_two_bits store))) (map in_two_bits store)
    ≡ map in_two_bits (with_room M slot (received agreeing soft A g bits (room_at M slot store)) store)
unfolding received with_room
received_two M slot soft A g bits store h =
    ap₂ ◌++◌ (sym (map_take in_two_bits (room_start M slot) store))
    (ap (put_blocks agreeing soft (A + 24) g bits 0 (blocks (A + 24))) (room_two M slot store)
    ∙ blocks_two soft (A + 24) g bits h 0 (blocks (A + 24)) (room_at M slot store))
    ∙ sym (map-append in_two_bits (take (room_start M slot) store) _)

-- by the test of the call's number: where it is accepted the new store, else the old one
either : (number number' : ℕ) (new new' store : List ℕ) → number ≡ number' → (number' ≡ 0 → new ≡ map in_two_bits new')
    → cond (eqb number 0) new (map in_two_bits store) ≡ map in_two_bits (cond (eqb number' 0) new' store)
either number number' new new' store e f = rw e (go (eqb number' 0) refl)
  where
    go : (b : Bool) → eqb number' 0 ≡ b → cond b new (map in_two_bits store) ≡ map in_two_bits (cond b new' store)
    go true t = f (eqb-true number' 0 t)
    go false t = refl

module _ (state : State) (store : List ℕ) (slot : ℕ) where
  pub open_two : (link : Link) (A : ℕ) → opening_store link state slot A (map in_two_bits store) ≡ map in_two_bits (opening_store link state slot A store)
  open_two link A =
      opening_store_lem link state slot A (map in_two_bits store)
      ∙ either _ _ _ _ store (ap (λ (n : ℕ). opening_number link state n slot A) (length-map store in_two_bits)) (λ z. cleared_two state.blocks slot store)
      ∙ ap (map in_two_bits) (sym (opening_store_lem link state slot A store))

  pub receive_two : (terminal Q N v : ℕ) (bits : List ℕ)
      → receive_store state slot terminal Q N v bits (map in_two_bits store) ≡ map in_two_bits (receive_store state slot terminal Q N v bits store)
  unfolding receive_store
  receive_two terminal Q N v bits =
      either _ _ _ _ store (ap (λ (n : ℕ). receive_number state n slot terminal Q N v bits) (length-map store in_two_bits))
      (λ z. received_two state.blocks slot (share_at_head state slot) (size_at_head state slot) (grant Q N v (length bits)) bits store (given_bits bits (receives state (length store) slot terminal Q N v bits z).given))
