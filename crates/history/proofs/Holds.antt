-- Demand 3 in the words of 02 E2: after any history a place of an open slot's room holds the bit on which all bits accepted for it since that opening agree,
-- is disputed if they differ, and unheard if there was none.
-- Assumes nothing.
use mathlib.Core.Path.{◌≡◌, refl, sym, ◌∙◌, ap, ap₂, subst, subst₂, subst₃}
use mathlib.Core.Bool.{Bool, true, false, cond, ◌&&◌, false≢true}
use mathlib.Core.List.{List, [], ◌∷◌}
use Prim.Native.Nat.{ℕ, ◌+◌, ◌≤◌, ◌<◌}
use native.Mathlib.Decide.{ℕ_discrete}
use native.Mathlib.Omega.{arith}
use lib.Dec.{eqb}
use lib.ListN.{length, get_or}
use borrow.Author.Tests.{eqb-true, eq-eqb, ne_eqb}
use Rattle.segmentation.specs.Segmentation.{blocks}
use Rattle.slots.specs.declared.Head.{Head}
use Rattle.slots.specs.declared.State.{State}
use Rattle.slots.specs.State.{room_length, room_start, closed_head, open_head, head_at, bad_shape}
use Rattle.slots.specs.Room.{unheard, agreeing, room_at}
use Rattle.slots.specs.Calls.{with_head, size_at_head, share_at_head, receive_number, close_number}
use Rattle.slots.proofs.RoomLaws.{room_byte, cleared_in, blocks_fit, room_stored}
use Rattle.slots.proofs.HeadLaws.{open_size, closed_head_lem, new_head}
use Rattle.slots.proofs.Acceptance.{receives}
use Rattle.history.specs.Links.{Link, share_in, opening_number}
use Rattle.history.specs.Calls.{Reception, Call, opening, receiving, reading, streaming, closing, Made, History, grant_of}
use Rattle.history.specs.Run.{World, lent, store_after_call, step, begin, run}
use Rattle.history.specs.Accepted.{lent_length, heads_after_call, heads_after, since_call, since, bits_for, arrivals}
use Rattle.history.specs.Answered.{slot_of}
use Rattle.history.specs.Holds.{Holds}
use Rattle.history.proofs.Links.{opening_fits}
use Rattle.history.proofs.State.{with_reception, open_writes, receive_writes, room_lent, length_lent, rooms_long_lem, heads}
use Rattle.history.proofs.Heads.{Good, good_call, new_is, run_good, refused_state}
use Rattle.history.proofs.Arrived.{met_is, arrived_bits, since_bits}
use Rattle.history.proofs.Follows.{Met, follows_none, follows_same, follows_more}
use Rattle.history.proofs.Others.{head_stays, reception_fits, same_rooms, room_before, room_after, others_room}

-- a call on another slot counts for nothing
since_other : (state : State) (room slot : ℕ) (call : Call) (earlier : List Reception) → (slot ≡ slot_of call → ⊥)
    → since_call state room slot call earlier ≡ earlier
unfolding since_call slot_of
since_other state room slot (opening link s terminal A) earlier n = rw (ne_eqb s slot (λ e. n (sym e)))
since_other state room slot (receiving s terminal r) earlier n = rw (ne_eqb s slot (λ e. n (sym e)))
since_other state room slot (reading s terminal size) earlier n = refl
since_other state room slot (streaming s terminal block size) earlier n = refl
since_other state room slot (closing s terminal) earlier n = rw (ne_eqb s slot (λ e. n (sym e)))

-- an accepted reception meets what is in the slot's room
pub reception_met : (state : State) (store : List ℕ) (slot terminal : ℕ) (x : Reception) → receive_number state (length store) slot terminal x.Q x.N x.version x.bits ≡ 0
    → {xs : List Reception} → Met (share_at_head state slot) (size_at_head state slot) state.blocks xs (room_at state.blocks slot store)
    → Met (share_at_head state slot) (size_at_head state slot) state.blocks (x ∷ xs) (room_at state.blocks slot (with_reception state slot x store))
unfolding bits_for
reception_met state store slot terminal x accepted before =
    let M : ℕ = state.blocks in
    let soft : ℕ = share_at_head state slot in
    let A : ℕ = size_at_head state slot in
    let fits = reception_fits state (length store) slot terminal x accepted in
    let more = follows_more agreeing unheard (bits_for soft A) M soft A (grant_of x) x.bits x (λ r j. refl) (room_at M slot store)
    (blocks_fit soft M slot A (grant_of x) x.bits store fits.room fits.few fits.places) fits.places before in
    rw (room_stored soft M slot A (grant_of x) x.bits store fits.room fits.few fits.places) more

-- what is to be shown of a slot with a head, after receptions, of the rooms
abbrev Kept : ℕ → ℕ → Head → List Reception → List ℕ → Type 0
Kept M slot h xs rooms = h.opened ≡ true → Met h.share h.size M xs (room_at M slot rooms)

-- ---- one call

module _ (w : World) (past : List ℕ) where
  -- the state, M, and the store that is lent
  abbrev state : State
  state = w.state

  abbrev M : ℕ
  M = w.state.blocks

  abbrev store : List ℕ
  store = lent w past

  -- the rooms after a call
  abbrev rooms : Call → List ℕ
  rooms call = (step w (record { call = call; past = past })).rooms

  -- what the calls say of the head and of the receptions
  abbrev KeptAfter : ℕ → List Reception → Call → Type 0
  KeptAfter slot xs call =
      Kept M slot (head_at (heads_after_call state (length store) call) slot) (since_call state (length store) slot call xs) (rooms call)

  module _ (slot : ℕ) (below : slot < state.slots) where
    -- an open slot of a sound state has room for its code blocks
    open_fits : {after : State} → Good state.slots M after → (head_at after slot).opened ≡ true → blocks ((head_at after slot).size + 24) ≤ M
    unfolding size_at_head
    open_fits {after} good o =
        let l : slot < after.slots = omega (arith, good.slots) in
        omega (arith, good.blocks, (open_size after good.sound slot l o).1)

    module _ (g : Good state.slots M state) (xs : List Reception) (kept : Kept M slot (head_at state slot) xs w.rooms) where
      -- a call on another slot
      on_other : (call : Call) → (slot ≡ slot_of call → ⊥) → KeptAfter slot xs call
      unfolding agreeing
      on_other call other =
          subst₂ (λ (h : Head) (l : List Reception). Kept M slot h l (rooms call))
          (sym (head_stays state (length store) slot call other))
          (sym (since_other state (length store) slot call xs other))
          (λ o. follows_same agreeing unheard _ M (room_at M slot w.rooms) _ (open_fits g o) (others_room w (record { call = call; past = past }) slot other) (kept o))

      -- a call that leaves the store
      same_store : (call : Call) → store_after_call state store call ≡ store → Kept M slot (head_at state slot) xs (rooms call)
      same_store call e =
          subst (Kept M slot (head_at state slot) xs) (sym (same_rooms w (record { call = call; past = past }) e)) kept

      opening_here : (link : Link) (terminal A : ℕ) → KeptAfter slot xs (opening link slot terminal A)
      unfolding heads_after_call since_call agreeing
      opening_here link terminal A =
          rw (eq-eqb slot slot refl) (go (eqb number 0) refl (good_call g (length store) call))
        where
          call : Call
          call = opening link slot terminal A

          number : ℕ
          number = opening_number link state (length store) slot A

          after : Bool → State
          after b = cond b (with_head state slot (open_head terminal A (share_in link A))) state

          go : (b : Bool) → eqb number 0 ≡ b → Good state.slots M (after b)
              → Kept M slot (head_at (after b) slot) (cond (true && b) [] xs) (rooms call)
          go true e good = λ o. follows_none agreeing unheard _ M _ (open_fits good o) bytes
            where
              bytes : (k : ℕ) → k < room_length M → get_or (room_at M slot (rooms call)) k 0 ≡ unheard
              bytes k l =
                  let accepted : number ≡ 0 = eqb-true number 0 e in
                  room_after w (record { call = call; past = past }) slot below (opening_fits state (length store) slot A link accepted).slot_stored.enough k l
                  ∙ ap (λ (s : List ℕ). get_or (room_at M slot s) k 0) (open_writes link state store slot terminal A true e)
                  ∙ room_byte M slot _ k
                  ∙ cleared_in M slot store (room_lent link state (length store) slot A accepted) (room_start M slot + k) (omega arith, omega arith)
          go false e good = same_store call (open_writes link state store slot terminal A false e)

      receiving_here : (terminal : ℕ) (x : Reception) → KeptAfter slot xs (receiving slot terminal x)
      unfolding heads_after_call since_call size_at_head share_at_head agreeing
      receiving_here terminal x = rw (eq-eqb slot slot refl) (go (eqb number 0) refl)
        where
          call : Call
          call = receiving slot terminal x

          number : ℕ
          number = receive_number state (length store) slot terminal x.Q x.N x.version x.bits

          go : (b : Bool) → eqb number 0 ≡ b → Kept M slot (head_at state slot) (cond (true && b) (x ∷ xs) xs) (rooms call)
          go true e = λ o.
              let m : Made = record { call = call; past = past } in
              let accepted : number ≡ 0 = eqb-true number 0 e in
              let enough = (receives state (length store) slot terminal x.Q x.N x.version x.bits accepted).long in
              let fits = reception_fits state (length store) slot terminal x accepted in
              let met = reception_met state store slot terminal x accepted
              (follows_same agreeing unheard _ M (room_at M slot w.rooms) _ fits.few (room_before w m slot below enough) (kept o)) in
              follows_same agreeing unheard _ M (room_at M slot (store_after_call state store call)) _ fits.few (room_after w m slot below enough)
              (rw (receive_writes state store slot terminal x true e) met)
          go false e = same_store call (receive_writes state store slot terminal x false e)

      closing_here : (terminal : ℕ) → KeptAfter slot xs (closing slot terminal)
      unfolding heads_after_call since_call store_after_call closed_head
      closing_here terminal = rw (eq-eqb slot slot refl) (go (eqb (close_number state slot terminal) 0))
        where
          go : (b : Bool) → Kept M slot (head_at (cond b (with_head state slot closed_head) state) slot) (cond (true && b) [] xs) (rooms (closing slot terminal))
          go true = λ o. absurd (false≢true (sym (ap (λ (h : Head). h.opened) (closed_head_lem state slot)) ∙ o))
          go false = same_store (closing slot terminal) refl

      on_this : (call : Call) → slot ≡ slot_of call → KeptAfter slot xs call
      unfolding heads_after_call since_call store_after_call slot_of
      on_this (opening link s terminal A) e = rw (← e) (opening_here link terminal A)
      on_this (receiving s terminal x) e = rw (← e) (receiving_here terminal x)
      on_this (reading s terminal size) e = same_store (reading s terminal size) refl
      on_this (streaming s terminal block size) e = same_store (streaming s terminal block size) refl
      on_this (closing s terminal) e = rw (← e) (closing_here terminal)

      kept_on : (call : Call) → KeptAfter slot xs call
      kept_on call = elim (ℕ_discrete slot (slot_of call)) [ yes e ↦ on_this call e | no n ↦ on_other call n ]

-- ---- a history

module _ (S M : ℕ) (store₀ : List ℕ) (slot : ℕ) where
  -- the length of the rooms
  abbrev long : ℕ
  long = length (begin S M store₀).rooms

  from_accepted : bad_shape S M ≡ false → slot < S → (h : History)
      → Kept M slot (head_at (heads_after S M long h) slot) (since S M long slot h) (run S M store₀ h).rooms
  unfolding heads_after since run closed_head
  from_accepted accepted below [] = λ o.
      absurd (false≢true (sym (ap (λ (t : State). (head_at t slot).opened) (new_is S M accepted) ∙ ap (λ (k : Head). k.opened) (new_head S M slot)) ∙ o))
  from_accepted accepted below (m ∷ h) =
      let w = run S M store₀ h in
      let good = run_good S M accepted store₀ h in
      let own : Good w.state.slots w.state.blocks w.state = record { slots = refl; blocks = refl; eight = good.eight; sound = good.sound } in
      let xs = since S M long slot h in
      let earlier : Kept w.state.blocks slot (head_at w.state slot) xs w.rooms =
      subst₂ (λ (n : ℕ) (t : State). Kept n slot (head_at t slot) xs w.rooms) (sym good.blocks) (sym (heads S M store₀ h)) (from_accepted accepted below h) in
      subst₃ (λ (n : ℕ) (t : State) (room : ℕ). Kept n slot (head_at (heads_after_call t room m.call) slot) (since_call t room slot m.call xs) (step w m).rooms)
      good.blocks
      (heads S M store₀ h)
      (length_lent w m.past ∙ ap₂ (λ (t : State) (n : ℕ). lent_length t n m.past) (heads S M store₀ h) (rooms_long_lem S M store₀ h))
      (kept_on w m.past slot (omega (arith, good.slots)) own xs earlier m.call)

  from_refused : bad_shape S M ≡ true → (h : History)
      → Kept M slot (head_at (heads_after S M long h) slot) (since S M long slot h) (run S M store₀ h).rooms
  unfolding closed_head
  from_refused refused h o =
      absurd (false≢true (sym (ap (λ (t : State). (head_at t slot).opened) (refused_state S M refused long h) ∙ ap (λ (k : Head). k.opened) (new_head 0 0 slot)) ∙ o))

  pub keeps : slot < S → (h : History) → (head_at (heads_after S M long h) slot).opened ≡ true
      → Met (head_at (heads_after S M long h) slot).share (head_at (heads_after S M long h) slot).size M (since S M long slot h) (room_at M slot (run S M store₀ h).rooms)
  keeps below h = go (bad_shape S M) refl
    where
      go : (b : Bool) → bad_shape S M ≡ b → Kept M slot (head_at (heads_after S M long h) slot) (since S M long slot h) (run S M store₀ h).rooms
      go true e = from_refused e h
      go false e = from_accepted e below h

  -- THE promise on receptions: any S, M, store, history and slot
  pub holds : slot < S → (h : History) → (head_at (heads_after S M long h) slot).opened ≡ true
      → Holds (head_at (heads_after S M long h) slot).share M slot (head_at (heads_after S M long h) slot).size (since S M long slot h) (run S M store₀ h).rooms
  unfolding agreeing
  holds below h is_open =
      let kept = keeps below h is_open in
      let soft = (head_at (heads_after S M long h) slot).share in
      let size = (head_at (heads_after S M long h) slot).size in
      let xs = since S M long slot h in
      record {
        place = λ r j l k. kept.place r j l k ∙ met_is (arrivals soft size xs r j) (arrived_bits soft size xs r j (since_bits S M long slot h));
        rest = kept.rest;
      }
