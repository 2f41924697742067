-- Laws of the rooms, 01 'Slots': rooms of different slots and places of different code blocks lie apart, and what Open and a reception change of a store.
-- Assumes nothing.
use mathlib.Core.Path.{◌≡◌, refl, sym, ◌∙◌, ap, subst}
use mathlib.Core.List.{List}
use Prim.Native.Nat.{ℕ, zero, suc, ◌+◌, ◌-◌, ◌*◌, ◌/◌, ◌%◌, ◌≤◌, ◌<◌}
use native.Mathlib.Nat.{zero-add, mod-lt, div-add-mod', div-lt_iff_lt-mul, mul-le-mul_right}
use native.Mathlib.Decide.{ℕ_discrete, dec_lt, dec_le}
use native.Mathlib.Omega.{arith}
use lib.Arith.{digits_lt, digits_div}
use lib.ListN.{length, get_or, take, drop, replicate, length-append, length-drop, length-replicate, get_or-replicate, get_or-append, take-append-drop}
use lib.Seq.{drop_at, length-take-le, get_or-append-add, get_or-take, get_or-drop}
use borrow.Rule.Slice.PartMut.{put_mid}
use Rattle.laws.proofs.Parts.{put_is, length_put as length-putMid, get_or_put_before, get_or_put_in, get_or_put_after}
use Rattle.segmentation.specs.Segmentation.{blocks}
use Rattle.codeword.specs.declared.Grant.{Grant}
use Rattle.slots.specs.State.{per_block, room_length, room_start}
use Rattle.slots.specs.Putting.{Keeping, arriving, met_by}
use Rattle.slots.specs.Room.{unheard, agreeing, room_at, circle_at, with_room, with_circle, cleared}
use Rattle.slots.specs.Reception.{block_places, block_values, put_on, put_blocks, received}
use Rattle.slots.proofs.Putting.{length_put, put_follows, put_apart}

-- ---- where the bytes lie

-- the byte is one of the slot's room
abbrev pub InRoom : ℕ → ℕ → ℕ → Type 0
InRoom M slot at = (room_start M slot ≤ at) × (at < room_start M slot + room_length M)

-- the room of a slot below S ends within S rooms
pub room_within : (S M slot : ℕ) → slot < S → room_start M slot + room_length M ≤ S * room_length M
unfolding room_start
room_within S M slot h = omega (arith, mul-le-mul_right (room_length M) h)

-- no byte is in two rooms
pub rooms_apart : (M s t at : ℕ) → InRoom M s at → InRoom M t at → s ≡ t
unfolding room_start
rooms_apart M s t at a b =
    sym (digits_div s {r = at - s * room_length M} (omega arith))
    ∙ ap (λ (n : ℕ). n / room_length M) (place s t a.0 b.0)
    ∙ digits_div t {r = at - t * room_length M} (omega arith)
  where
    place : (s t : ℕ) → s * room_length M ≤ at → t * room_length M ≤ at → s * room_length M + (at - s * room_length M) ≡ t * room_length M + (at - t * room_length M)
    place s t h l = omega arith

-- ---- the room in a store, and the circles in a room

pub room_byte : (M slot : ℕ) (store : List ℕ) (k : ℕ) → get_or (room_at M slot store) k 0 ≡ get_or store (room_start M slot + k) 0
unfolding room_at
room_byte M slot store k = get_or-drop (room_start M slot) store k 0

pub circle_entry : {X : Type 0} (r : ℕ) (room : List X) (j : ℕ) (none : X) → get_or (circle_at r room) j none ≡ get_or room (r * per_block + j) none
unfolding circle_at
circle_entry r room j none = get_or-drop (r * per_block) room j none

-- a room that has so many places of the circle
pub circle_long : {X : Type 0} (r : ℕ) (room : List X) {j : ℕ} → r * per_block + j < length room → j < length (circle_at r room)
unfolding circle_at
circle_long r room h = rw (length-drop (r * per_block) room) (omega arith)

-- the places of M code blocks are bytes of a room
pub place_in_room : (M r j : ℕ) → r < M → j < per_block → r * per_block + j < room_length M
unfolding room_length
place_in_room M r j h l = digits_lt {c = per_block} h l

-- and each byte of the room is such a place
pub by_place : (M : ℕ) (P : ℕ → Type 0) → ((r j : ℕ) → r < M → j < per_block → P (r * per_block + j)) → (k : ℕ) → k < room_length M → P k
unfolding room_length
by_place M P f k h =
    subst P (div-add-mod' k per_block)
    (f (k / per_block) (k % per_block) ((div-lt_iff_lt-mul {k = per_block} {x = k} {y = M} (omega arith)).1 h) (mod-lt k (omega arith)))

-- ---- what Open writes

module _ (M slot : ℕ) (store : List ℕ) (fits : room_start M slot + room_length M ≤ length store) where
  room_of_2 : List ℕ
  room_of_2 = replicate {A = ℕ} (room_length M) unheard

  put_back : cleared M slot store ≡ put_mid (room_start M slot) (room_start M slot + room_length M - room_start M slot) store room_of_2
  unfolding cleared room_of_2
  put_back = sym (put_is (room_start M slot) (room_start M slot + room_length M) store room_of_2 (omega arith))

  as_long : length room_of_2 ≡ room_start M slot + room_length M - room_start M slot
  unfolding room_of_2
  as_long = rw (length-replicate (room_length M) unheard) (omega arith)

  pub length_cleared : length (cleared M slot store) ≡ length store
  length_cleared = ap length put_back ∙ length-putMid (room_start M slot) (room_start M slot + room_length M) store room_of_2 fits as_long

  pub cleared_in : (at : ℕ) → InRoom M slot at → get_or (cleared M slot store) at 0 ≡ unheard
  unfolding room_of_2
  cleared_in at h =
      let k : ℕ = at - room_start M slot in
      let at_is : at ≡ room_start M slot + k = omega arith in
      let less : k < room_length M = omega arith in
      ap (λ (n : ℕ). get_or (cleared M slot store) n 0) at_is
      ∙ ap (λ (l : List ℕ). get_or l (room_start M slot + k) 0) put_back
      ∙ get_or_put_in (room_start M slot) (room_start M slot + room_length M - room_start M slot) store room_of_2 k 0 (omega arith) (rw (length-replicate (room_length M) unheard) less)
      ∙ get_or-replicate (room_length M) k unheard 0 less

  pub cleared_out : (at : ℕ) → (InRoom M slot at → ⊥) → get_or (cleared M slot store) at 0 ≡ get_or store at 0
  cleared_out at h =
      ap (λ (l : List ℕ). get_or l at 0) put_back
      ∙ elim (dec_lt at (room_start M slot)) [
        | yes l ↦ get_or_put_before (room_start M slot) (room_start M slot + room_length M - room_start M slot) store room_of_2 at 0 (omega arith) l
        | no l ↦ elim (dec_le (room_start M slot + room_length M) at) [
          | yes g ↦ get_or_put_after (room_start M slot) (room_start M slot + room_length M) store room_of_2 at 0 (omega arith) fits as_long g
          | no g ↦ absurd (h (omega arith, omega arith))
        ]
      ]

-- ---- what a reception writes in a room

-- the entries are places of a code block
abbrev pub Places : List ℕ → Type 0
Places js = (i : ℕ) → i < length js → get_or js i 0 < per_block

-- all that a transmission sends are places of code blocks
abbrev pub AllPlaces : ℕ → ℕ → Grant → Type 0
AllPlaces soft B g = (q : ℕ) → Places (block_places soft B g q)

module _ {X : Type 0} (r : ℕ) (circle room : List X) where
  pub length_with : length circle ≡ length (circle_at r room) → length (with_circle r circle room) ≡ length room
  unfolding with_circle circle_at
  length_with e =
      length-append (take (r * per_block) room) circle
      ∙ ap (λ (n : ℕ). length (take (r * per_block) room) + n) e
      ∙ sym (length-append (take (r * per_block) room) (drop (r * per_block) room))
      ∙ ap length (take-append-drop (r * per_block) room)

  module _ (fits : r * per_block ≤ length room) where
    front : length (take (r * per_block) room) ≡ r * per_block
    front = length-take-le (r * per_block) room fits

    -- what stands before the circle stays
    pub with_before : (at : ℕ) (none : X) → at < r * per_block → get_or (with_circle r circle room) at none ≡ get_or room at none
    unfolding with_circle
    with_before at none l =
        get_or-append (take (r * per_block) room) circle none at (rw front l) ∙ get_or-take (r * per_block) room at none l

    -- and then comes the circle
    pub with_from : (j : ℕ) (none : X) → get_or (with_circle r circle room) (r * per_block + j) none ≡ get_or circle j none
    unfolding with_circle
    with_from j none = rw front at (get_or-append-add (take (r * per_block) room) circle j none)

-- a transmission of a block of which all code blocks have their places in the room
module _ {X Y : Type 0} (how : Keeping X Y) (soft B : ℕ) (g : Grant) (values : List Y) where
  -- the room after the values of code block r
  abbrev after_block : ℕ → List X → List X
  after_block r room = with_circle r (put_on how soft B g values r (circle_at r room)) room

  pub length_put_on : (r : ℕ) (circle : List X) → length (put_on how soft B g values r circle) ≡ length circle
  unfolding put_on
  length_put_on r circle = length_put how _ _ circle

  length_after : (r : ℕ) (room : List X) → length (after_block r room) ≡ length room
  length_after r room = length_with r _ room (length_put_on r (circle_at r room))

  pub length_put_blocks : (r n : ℕ) (room : List X) → length (put_blocks how soft B g values r n room) ≡ length room
  unfolding put_blocks
  length_put_blocks r zero room = refl
  length_put_blocks r (suc n) room = length_put_blocks (suc r) n (after_block r room) ∙ length_after r room

  -- what a reception brings for place j of code block q
  abbrev pub brought : ℕ → ℕ → List Y
  brought q j = arriving how (block_places soft B g q) (block_values B g values q) j

  module _ (places : AllPlaces soft B g) where
    -- an entry that is no place of code block r stays
    after_out : (r : ℕ) (room : List X) → r * per_block ≤ length room → (at : ℕ) → ((j : ℕ) → j < per_block → at ≡ r * per_block + j → ⊥)
        → get_or (after_block r room) at how.none ≡ get_or room at how.none
    unfolding put_on
    after_out r room fits at h = elim (dec_lt at (r * per_block)) [
      | yes l ↦ with_before r _ room fits at how.none l
      | no l ↦
          let j : ℕ = at - r * per_block in
          let is : at ≡ r * per_block + j = omega arith in
          rw is
          (with_from r _ room fits j how.none
          ∙ put_apart how (block_places soft B g r) (block_values B g values r) (circle_at r room) j (λ i m e. h j (subst (λ (p : ℕ). p < per_block) e (places r i m)) is)
          ∙ circle_entry r room j how.none)
    ]

    -- and so does one that is no place of these code blocks
    pub put_blocks_out : (r n : ℕ) (room : List X) → (r + n) * per_block ≤ length room → (at : ℕ)
        → ((q j : ℕ) → r ≤ q → q < r + n → j < per_block → at ≡ q * per_block + j → ⊥)
        → get_or (put_blocks how soft B g values r n room) at how.none ≡ get_or room at how.none
    unfolding put_blocks
    put_blocks_out r zero room fits at h = refl
    put_blocks_out r (suc n) room fits at h =
        put_blocks_out (suc r) n (after_block r room) (rw (length_after r room) (omega arith)) at (λ q j l g. h q j (omega arith) (omega arith))
        ∙ after_out r room (omega arith) at (λ j. h r j (omega arith) (omega arith))

    -- a place of code block q keeps what it kept, met by what the reception brought for it
    module _ (q j : ℕ) (less : j < per_block) where
      own : (room : List X) → (q + 1) * per_block ≤ length room
          → get_or (after_block q room) (q * per_block + j) how.none ≡ met_by how (get_or room (q * per_block + j) how.none) (brought q j)
      unfolding put_on
      own room fits =
          with_from q _ room (omega arith) j how.none
          ∙ put_follows how _ _ (circle_at q room) j (circle_long q room (omega arith))
          ∙ ap (λ (x : X). met_by how x (brought q j)) (circle_entry q room j how.none)

      pub put_blocks_here : (r n : ℕ) (room : List X) → (r + n) * per_block ≤ length room → r ≤ q → q < r + n
          → get_or (put_blocks how soft B g values r n room) (q * per_block + j) how.none
          ≡ met_by how (get_or room (q * per_block + j) how.none) (brought q j)
      unfolding put_blocks
      put_blocks_here r zero room fits h g = absurd (omega arith)
      put_blocks_here r (suc n) room fits h g = elim (ℕ_discrete q r) [
        | yes same ↦
            put_blocks_out (suc r) n (after_block r room) (rw (length_after r room) (omega arith)) (q * per_block + j) (λ p i u g' m e. omega arith)
            ∙ subst (λ (p : ℕ). get_or (after_block p room) (q * per_block + j) how.none ≡ met_by how (get_or room (q * per_block + j) how.none) (brought q j)) same
            (own room (omega arith))
        | no other ↦
            put_blocks_here (suc r) n (after_block r room) (rw (length_after r room) (omega arith)) (omega arith) (omega arith)
            ∙ ap (λ (x : X). met_by how x (brought q j)) (after_out r room (omega arith) (q * per_block + j) (λ i m e. other (omega arith)))
      ]

-- a reception for a block of A bits, of which all code blocks have their places in the room
module _ {X Y : Type 0} (how : Keeping X Y) (soft A : ℕ) (g : Grant) (values : List Y) (room : List X) where
  pub length_received : length (received how soft A g values room) ≡ length room
  unfolding received
  length_received = length_put_blocks how soft (A + 24) g values 0 (blocks (A + 24)) room

  module _ (fits : blocks (A + 24) * per_block ≤ length room) (places : AllPlaces soft (A + 24) g) where
    -- a place of a code block: what it kept, met by what the reception brought for it
    pub received_here : (r j : ℕ) → r < blocks (A + 24) → j < per_block
        → get_or (circle_at r (received how soft A g values room)) j how.none
        ≡ met_by how (get_or (circle_at r room) j how.none) (brought how soft (A + 24) g values r j)
    unfolding received
    received_here r j h l =
        circle_entry r _ j how.none
        ∙ put_blocks_here how soft (A + 24) g values places r j l 0 (blocks (A + 24)) room (rw (zero-add (blocks (A + 24))) fits) (omega arith) (omega arith)
        ∙ ap (λ (x : X). met_by how x (brought how soft (A + 24) g values r j)) (sym (circle_entry r room j how.none))

    -- what lies past the code blocks stays
    pub received_past : (at : ℕ) → blocks (A + 24) * per_block ≤ at → get_or (received how soft A g values room) at how.none ≡ get_or room at how.none
    unfolding received
    received_past at h = put_blocks_out how soft (A + 24) g values places 0 (blocks (A + 24)) room (rw (zero-add (blocks (A + 24))) fits) at
        (λ q j u g m e. omega (arith, digits_lt {c = per_block} g m))

-- ---- what a reception writes in a store: another room for the slot

module _ (M slot : ℕ) (room store : List ℕ) where
  pub length_with_room : length room ≡ length (room_at M slot store) → length (with_room M slot room store) ≡ length store
  unfolding with_room room_at
  length_with_room e =
      length-append (take (room_start M slot) store) room
      ∙ ap (λ (n : ℕ). length (take (room_start M slot) store) + n) e
      ∙ sym (length-append (take (room_start M slot) store) (drop (room_start M slot) store))
      ∙ ap length (take-append-drop (room_start M slot) store)

  module _ (fits : room_start M slot ≤ length store) where
    front_long : length (take (room_start M slot) store) ≡ room_start M slot
    front_long = length-take-le (room_start M slot) store fits

    -- it is the slot's room
    pub room_with : room_at M slot (with_room M slot room store) ≡ room
    unfolding with_room room_at
    room_with = drop_at (take (room_start M slot) store) room (room_start M slot) front_long

    -- and what stands before it stays
    pub with_room_before : (at : ℕ) → at < room_start M slot → get_or (with_room M slot room store) at 0 ≡ get_or store at 0
    unfolding with_room
    with_room_before at l = get_or-append (take (room_start M slot) store) room 0 at (rw front_long l) ∙ get_or-take (room_start M slot) store at 0 l

-- a reception for a block of A bits in a store that has the slot's room
module _ (soft M slot A : ℕ) (g : Grant) (bits store : List ℕ) (fits : room_start M slot + room_length M ≤ length store) (few : blocks (A + 24) ≤ M)
    (places : AllPlaces soft (A + 24) g)
  where
    abbrev after : List ℕ
    after = with_room M slot (received agreeing soft A g bits (room_at M slot store)) store

    pub blocks_fit : blocks (A + 24) * per_block ≤ length (room_at M slot store)
    unfolding room_at room_length
    blocks_fit = rw (length-drop (room_start M slot) store) (omega (arith, mul-le-mul_right per_block few))

    pub room_stored : room_at M slot after ≡ received agreeing soft A g bits (room_at M slot store)
    room_stored = room_with M slot _ store (omega arith)

    -- no byte of another room is written, and none past the rooms
    pub stored_out : (at : ℕ) → (InRoom M slot at → ⊥) → get_or after at 0 ≡ get_or store at 0
    unfolding agreeing room_length
    stored_out at h = elim (dec_lt at (room_start M slot)) [
      | yes l ↦ with_room_before M slot _ store (omega arith) at l
      | no l ↦ elim (dec_lt at (room_start M slot + room_length M)) [
        | yes g ↦ absurd (h (omega arith, g))
        | no past ↦
            let k : ℕ = at - room_start M slot in
            let is : at ≡ room_start M slot + k = omega arith in
            ap (λ (n : ℕ). get_or after n 0) is
            ∙ sym (room_byte M slot after k)
            ∙ ap (λ (l : List ℕ). get_or l k 0) room_stored
            ∙ received_past agreeing soft A g bits (room_at M slot store) blocks_fit places k (omega (arith, mul-le-mul_right per_block few))
            ∙ room_byte M slot store k
            ∙ ap (λ (n : ℕ). get_or store n 0) (sym is)
      ]
    ]
