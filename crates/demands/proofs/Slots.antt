-- 01, 'Slots', call by call: what an accepted call makes of the state, the store and the output, and that every other byte stays. Where Receive puts its bits is page
-- Codeword, and what its places hold then demand 3, page Release.
-- Assumes nothing.
use mathlib.Core.Path.{◌≡◌, refl, sym, ◌∙◌, ap}
use mathlib.Core.Bool.{Bool, true, false, cond, ◌&&◌}
use mathlib.Core.List.{List, ◌++◌}
use Prim.Native.Nat.{ℕ, zero, suc, ◌+◌, ◌*◌, ◌≤◌, ◌<◌}
use native.Mathlib.Decide.{ℕ_discrete}
use native.Mathlib.Omega.{arith}
use lib.Dec.{eqb, ltb}
use lib.ListN.{length, get_or, drop, get_or-append, length-append}
use lib.Seq.{get_or-append-add, get_or-drop}
use borrow.Author.Tests.{lt-ltb, le-ltb, ne_eqb, ltb-true, eqb-true}
use Rattle.laws.specs.Lists.{tab}
use Rattle.laws.proofs.Tab.{length_tab, get_or_tab}
use Rattle.refusals.specs.Refusals.{first_of}
use Rattle.segmentation.specs.Segmentation.{blocks, size_of, filler_of}
use Rattle.segmentation.proofs.Segmentation.{good_size}
use Rattle.rate_matching.specs.SoftBuffer.{soft_share, whole_share}
use Rattle.rate_matching.specs.Places.{place_number}
use Rattle.codeword.specs.Shares.{grant}
use Rattle.slots.specs.declared.State.{State}
use Rattle.slots.specs.Outcome.{Outcome}
use Rattle.slots.specs.State.{per_block, room_length, room_start, closed_head, open_head, new_state, head_at}
use Rattle.slots.specs.Room.{is_decided, agreeing, room_at, circle_at, with_room, cleared}
use Rattle.slots.specs.Circle.{kept_on, shown, stream_on, streams_on}
use Rattle.slots.specs.Reading.{three_streams}
use Rattle.slots.specs.Reception.{received}
use Rattle.slots.specs.Answers.{number_of, unless_refused}
use Rattle.slots.specs.Calls.{with_head, new_outcome, size_at_head, share_at_head, open_number, open_outcome, open_store, open_down_number, open_down_outcome, open_down_store, receive_number, receive_outcome, receive_store, read_outcome, streams_outcome, streams_output, close_outcome}
use Rattle.slots.proofs.Accepted.{good, room_within}
use Rattle.slots.proofs.Acceptance.{receives}
use Rattle.slots.proofs.HeadLaws.{other_head, its_head, closed_head_lem, new_head}
use Rattle.slots.proofs.PlaceBounds.{sent_below}
use Rattle.slots.proofs.RoomLaws.{room_byte, circle_entry, cleared_in, cleared_out, stored_out}
use Rattle.history.specs.Links.{Link, uplink, downlink, share_in, opening_number, opening_outcome, opening_store}
use Rattle.history.proofs.Links.{opening_fits}
use Rattle.demands.specs.Ranges.{Shape}
use Rattle.demands.specs.Lent.{InRoom}
use Rattle.demands.proofs.Ranges.{shape_test}
use Rattle.demands.proofs.Outcomes.{accepting, accepted, same_state}

-- ---- the outcomes of accepted calls

new_is : (S M : ℕ) → Shape S M → (new_outcome S M).state ≡ new_state S M
unfolding new_outcome unless_refused first_of
new_is S M shape = rw ((shape_test S M).where_holds shape)

open_is : (state : State) (lent slot terminal A : ℕ) → number_of (open_outcome state lent slot terminal A).answer ≡ 0
    → (open_number state lent slot A ≡ 0) × ((open_outcome state lent slot terminal A).state ≡ with_head state slot (open_head terminal A whole_share))
unfolding open_outcome
open_is state lent slot terminal A ok = let e = accepted _ state _ ok in (e, ap (λ (o : Outcome). o.state) (accepting _ state _ e))

open_down_is : (state : State) (lent slot terminal A release k_mimo processes Nsoft layers : ℕ)
    → number_of (open_down_outcome state lent slot terminal A release k_mimo processes Nsoft layers).answer ≡ 0
    → (open_down_number state lent slot A release k_mimo processes Nsoft layers ≡ 0)
    × ((open_down_outcome state lent slot terminal A release k_mimo processes Nsoft layers).state
    ≡ with_head state slot (open_head terminal A (soft_share (blocks (A + 24)) release k_mimo processes Nsoft layers)))
unfolding open_down_outcome
open_down_is state lent slot terminal A release k_mimo processes Nsoft layers ok = let e = accepted _ state _ ok in (e, ap (λ (o : Outcome). o.state) (accepting _ state _ e))

-- the store after an opening that is accepted, and after one that is not
opening_clears : (link : Link) (state : State) (slot A : ℕ) (store : List ℕ) → opening_number link state (length store) slot A ≡ 0
    → opening_store link state slot A store ≡ cleared state.blocks slot store
unfolding opening_number opening_store open_store open_down_store
opening_clears uplink state slot A store e = rw e
opening_clears (downlink release k_mimo processes Nsoft layers) state slot A store e = rw e

opening_stays : (link : Link) (state : State) (slot A : ℕ) (store : List ℕ) → (opening_number link state (length store) slot A ≡ 0 → ⊥)
    → opening_store link state slot A store ≡ store
unfolding opening_number opening_store open_store open_down_store
opening_stays uplink state slot A store h = rw (ne_eqb _ 0 h)
opening_stays (downlink release k_mimo processes Nsoft layers) state slot A store h = rw (ne_eqb _ 0 h)

-- ---- New: a state with all slots closed, their other numbers 0

pub new_closes : (S M : ℕ) → Shape S M
    → let state : State = (new_outcome S M).state in
    (state.slots ≡ S) × (state.blocks ≡ M) × ((i : ℕ) → head_at state i ≡ record { opened = false; terminal = 0; size = 0; share = 0 })
unfolding new_state closed_head
new_closes S M shape = (ap (λ (s : State). s.slots) is, ap (λ (s : State). s.blocks) is, λ i. ap (λ (s : State). head_at s i) is ∙ new_head S M i)
  where
    is : (new_outcome S M).state ≡ new_state S M
    is = new_is S M shape

-- ---- Open, for either link

-- the share of an uplink (02, E6)
pub uplink_share : (A : ℕ) → share_in uplink A ≡ 18528
unfolding share_in
uplink_share A = refl

module _ (link : Link) (state : State) (slot terminal A : ℕ) (store : List ℕ) where
  abbrev opening : Outcome
  opening = opening_outcome link state (length store) slot terminal A

  opened : number_of opening.answer ≡ 0
      → (opening_number link state (length store) slot A ≡ 0) × (opening.state ≡ with_head state slot (open_head terminal A (share_in link A)))
  unfolding opening_outcome opening_number share_in
  opened ok = by link ok
    where
      by : (l : Link) → number_of (opening_outcome l state (length store) slot terminal A).answer ≡ 0
          → (opening_number l state (length store) slot A ≡ 0) × ((opening_outcome l state (length store) slot terminal A).state ≡ with_head state slot (open_head terminal A (share_in l A)))
      by uplink ok = open_is state (length store) slot terminal A ok
      by (downlink release k_mimo processes Nsoft layers) ok = open_down_is state (length store) slot terminal A release k_mimo processes Nsoft layers ok

  -- the slot is open for the terminal and A, with the share of its link, where the state has eight heads; S, M and every other head stay
  pub open_opens : number_of opening.answer ≡ 0 → length state.heads ≡ 8
      → head_at opening.state slot ≡ record { opened = true; terminal = terminal; size = A; share = share_in link A }
  open_opens ok eight =
      let s = (opening_fits state (length store) slot A link (opened ok).0).slot_stored in
      ap (λ (s : State). head_at s slot) (opened ok).1
      ∙ its_head state slot (open_head terminal A (share_in link A)) (omega (arith, s.present, s.state_good.shape.slots_most, eight))

  pub open_others : number_of opening.answer ≡ 0
      → (opening.state.slots ≡ state.slots) × (opening.state.blocks ≡ state.blocks) × ((i : ℕ) → (i ≡ slot → ⊥) → head_at opening.state i ≡ head_at state i)
  unfolding with_head
  open_others ok = (
    ap (λ (s : State). s.slots) (opened ok).1,
    ap (λ (s : State). s.blocks) (opened ok).1,
    λ i other. ap (λ (s : State). head_at s i) (opened ok).1 ∙ other_head state slot (open_head terminal A (share_in link A)) i other,
  )

  -- 2 over the whole room
  pub open_writes : number_of opening.answer ≡ 0 → (at : ℕ) → InRoom state.blocks slot at → get_or (opening_store link state slot A store) at 0 ≡ 2
  unfolding room_start room_length
  open_writes ok at inside =
      let e = (opened ok).0 in
      ap (λ (l : List ℕ). get_or l at 0) (opening_clears link state slot A store e)
      ∙ cleared_in state.blocks slot store (opening_fits state (length store) slot A link e).slot_stored.within at (inside.from, inside.to)

-- and no other byte, whether it is accepted or not
pub open_leaves : (link : Link) (state : State) (slot A : ℕ) (store : List ℕ) (at : ℕ) → (slot < state.slots → InRoom state.blocks slot at → ⊥)
    → get_or (opening_store link state slot A store) at 0 ≡ get_or store at 0
unfolding room_start room_length
open_leaves link state slot A store at outside = elim (ℕ_discrete (opening_number link state (length store) slot A) 0) [
  | yes e ↦
      let s = (opening_fits state (length store) slot A link e).slot_stored in
      ap (λ (l : List ℕ). get_or l at 0) (opening_clears link state slot A store e)
      ∙ cleared_out state.blocks slot store s.within at (λ i. outside s.present (record { from = i.0; to = i.1 }))
  | no e ↦ ap (λ (l : List ℕ). get_or l at 0) (opening_stays link state slot A store e)
]

-- ---- Receive

module _ (state : State) (slot terminal Q N v : ℕ) (bits store : List ℕ) where
  -- the state stays
  pub receive_state : (receive_outcome state slot terminal Q N v bits store).state ≡ state
  unfolding receive_outcome
  receive_state = same_state _ state _ refl

  -- and every byte outside the slot's room, whether it is accepted or not
  pub receive_leaves : (at : ℕ) → (slot < state.slots → InRoom state.blocks slot at → ⊥) → get_or (receive_store state slot terminal Q N v bits store) at 0 ≡ get_or store at 0
  unfolding receive_store room_start room_length
  receive_leaves at outside = go (eqb (receive_number state (length store) slot terminal Q N v bits) 0) refl
    where
      go : (b : Bool) → eqb (receive_number state (length store) slot terminal Q N v bits) 0 ≡ b
          → get_or (cond b (with_room state.blocks slot (received agreeing (share_at_head state slot) (size_at_head state slot) (grant Q N v (length bits)) bits (room_at state.blocks slot store)) store) store) at 0
          ≡ get_or store at 0
      go true e =
          let k = receives state (length store) slot terminal Q N v bits (eqb-true _ 0 e) in
          let g = good state k.sound in
          let f = g.fits slot k.below k.opened in
          stored_out (share_at_head state slot) state.blocks slot (size_at_head state slot) (grant Q N v (length bits)) bits store (omega (arith, room_within state k.below, k.long)) f.few
          (λ r. sent_below (size_at_head state slot) (good_size (size_at_head state slot) f.size_some f.size_most) (g.wide slot k.below k.opened) (grant Q N v (length bits)) r k.version)
          at (λ i. outside k.below (record { from = i.0; to = i.1 }))
      go false e = refl

-- ---- Read: the slot stays open; what it gives is demand 3

pub read_state : (state : State) (store : List ℕ) (slot terminal size : ℕ) → (read_outcome state store slot terminal size).state ≡ state
unfolding read_outcome
read_state state store slot terminal size = same_state _ state _ refl

-- ---- Streams

pub streams_state : (state : State) (lent slot terminal r size : ℕ) → (streams_outcome state lent slot terminal r size).state ≡ state
unfolding streams_outcome
streams_state state lent slot terminal r size = same_state _ state _ refl

-- three runs of D bytes, one a stream
module _ (state : State) (slot terminal r : ℕ) (store out : List ℕ) (ok : number_of (streams_outcome state (length store) slot terminal r (length out)).answer ≡ 0) where
  abbrev B : ℕ
  B = (head_at state slot).size + 24

  abbrev D : ℕ
  D = size_of B r + 4

  abbrev F : ℕ
  F = filler_of B r

  abbrev given : List ℕ
  given = streams_output state store slot terminal r out

  abbrev circle : List ℕ
  circle = circle_at r (room_at state.blocks slot store)

  -- the byte of the room for place i of stream s
  abbrev kept : ℕ → ℕ → ℕ
  kept s i = get_or store (slot * (state.blocks * 18528) + (r * 18528 + place_number D s i)) 0

  is : given ≡ streams_on circle D F ++ drop (3 * D) out
  unfolding streams_output streams_outcome three_streams size_at_head
  is = let e = accepted _ state _ ok in rw e

  three_long : length (streams_on circle D F) ≡ 3 * D
  unfolding streams_on
  three_long = simp (length-append, length_tab) (omega arith)

  -- an entry of one of three runs
  entry : (f g h : ℕ → ℕ) (s i : ℕ) → s < 3 → i < D
      → get_or (tab D f ++ (tab D g ++ tab D h)) (s * D + i) 0 ≡ cond (eqb s 0) (f i) (cond (eqb s 1) (g i) (h i))
  entry f g h zero i below inside =
      ap (λ (k : ℕ). get_or (tab D f ++ (tab D g ++ tab D h)) k 0) (omega arith) ∙ get_or-append (tab D f) _ 0 i (rw length_tab inside) ∙ get_or_tab D f i 0 inside
  entry f g h (suc zero) i below inside =
      ap (λ (k : ℕ). get_or (tab D f ++ (tab D g ++ tab D h)) k 0) (omega (arith, length_tab D f)) ∙ get_or-append-add (tab D f) _ i 0
      ∙ get_or-append (tab D g) _ 0 i (rw length_tab inside) ∙ get_or_tab D g i 0 inside
  entry f g h (suc (suc zero)) i below inside =
      ap (λ (k : ℕ). get_or (tab D f ++ (tab D g ++ tab D h)) k 0) (omega (arith, length_tab D f)) ∙ get_or-append-add (tab D f) _ (D + i) 0
      ∙ ap (λ (k : ℕ). get_or (tab D g ++ tab D h) k 0) (omega (arith, length_tab D g)) ∙ get_or-append-add (tab D g) _ i 0 ∙ get_or_tab D h i 0 inside
  entry f g h (suc (suc (suc s))) i below inside = absurd (omega (arith, below))

  shows : (s i : ℕ) → s < 3 → i < D → get_or given (s * D + i) 0 ≡ stream_on circle D F s i
  unfolding streams_on
  shows s i below inside =
      ap (λ (l : List ℕ). get_or l (s * D + i) 0) is
      ∙ get_or-append (streams_on circle D F) _ 0 (s * D + i) (rw three_long (in_three s i below inside))
      ∙ entry (stream_on circle D F 0) (stream_on circle D F 1) (stream_on circle D F 2) s i below inside
      ∙ which s below
    where
      in_three : (s i : ℕ) → s < 3 → i < D → s * D + i < 3 * D
      in_three zero i l k = omega (arith, k)
      in_three (suc zero) i l k = omega (arith, k)
      in_three (suc (suc zero)) i l k = omega (arith, k)
      in_three (suc (suc (suc s))) i l k = absurd (omega (arith, l))

      which : (s : ℕ) → s < 3 → cond (eqb s 0) (stream_on circle D F 0 i) (cond (eqb s 1) (stream_on circle D F 1 i) (stream_on circle D F 2 i)) ≡ stream_on circle D F s i
      which zero l = refl
      which (suc zero) l = refl
      which (suc (suc zero)) l = refl
      which (suc (suc (suc s))) l = absurd (omega (arith, l))

  -- what is kept on the circle is the byte of the room
  kept_is : (s i : ℕ) → kept_on circle D s i ≡ kept s i
  unfolding kept_on room_start room_length
  kept_is s i = circle_entry r (room_at state.blocks slot store) (place_number D s i) 0 ∙ room_byte state.blocks slot store (r * per_block + place_number D s i)

  -- 0 for absent filler, which streams 0 and 1 have
  pub streams_absent : (s i : ℕ) → s < 2 → i < F → i < D → get_or given (s * D + i) 0 ≡ 0
  unfolding stream_on
  streams_absent s i few filler inside = shows s i (omega (arith, few)) inside ∙ rw (lt-ltb s 2 few, lt-ltb i F filler)

  -- elsewhere the bit that was heard
  module _ (s i : ℕ) (below : s < 3) (inside : i < D) (there : s < 2 → F ≤ i) where
    present : get_or given (s * D + i) 0 ≡ shown (kept s i)
    unfolding stream_on
    present = shows s i below inside ∙ go (ltb s 2) refl ∙ ap shown (kept_is s i)
      where
        go : (b : Bool) → ltb s 2 ≡ b → cond (b && ltb i F) 0 (shown (kept_on circle D s i)) ≡ shown (kept_on circle D s i)
        go true e = rw (le-ltb i F (there (ltb-true s 2 e)))
        go false e = refl

    pub streams_heard : kept s i < 2 → get_or given (s * D + i) 0 ≡ kept s i
    unfolding shown is_decided
    streams_heard bit = present ∙ rw (lt-ltb (kept s i) 2 bit)

    -- and 2 if none was, or both a 0 and a 1 (02, E2)
    pub streams_lacking : 2 ≤ kept s i → get_or given (s * D + i) 0 ≡ 2
    unfolding shown is_decided
    streams_lacking none = present ∙ rw (le-ltb (kept s i) 2 none)

  -- all other bytes of the output stay
  pub streams_leaves : (k : ℕ) → get_or given (3 * D + k) 0 ≡ get_or out (3 * D + k) 0
  streams_leaves k =
      ap (λ (l : List ℕ). get_or l (3 * D + k) 0) is
      ∙ ap (λ (n : ℕ). get_or (streams_on circle D F ++ drop (3 * D) out) (n + k) 0) (sym three_long)
      ∙ get_or-append-add (streams_on circle D F) _ k 0
      ∙ get_or-drop (3 * D) out k 0

-- ---- Close: the head becomes closed, its other numbers 0; no room is lent

pub close_closes : (state : State) (slot terminal : ℕ) → number_of (close_outcome state slot terminal).answer ≡ 0
    → let after : State = (close_outcome state slot terminal).state in
    (head_at after slot ≡ record { opened = false; terminal = 0; size = 0; share = 0 })
    × (after.slots ≡ state.slots) × (after.blocks ≡ state.blocks) × ((i : ℕ) → (i ≡ slot → ⊥) → head_at after i ≡ head_at state i)
unfolding close_outcome with_head closed_head
close_closes state slot terminal ok =
    let is = ap (λ (o : Outcome). o.state) (accepting _ state _ (accepted _ state _ ok)) in (
      ap (λ (s : State). head_at s slot) is ∙ closed_head_lem state slot,
      ap (λ (s : State). s.slots) is,
      ap (λ (s : State). s.blocks) is,
      λ i other. ap (λ (s : State). head_at s i) is ∙ other_head state slot closed_head i other,
    )
