-- What an answer depends on, 01 'Slots': the arguments, S, M, the lent lengths, this head and this room, and through number 13 the other heads.
-- Assumes nothing.
use mathlib.Core.Path.{◌≡◌, refl, sym, ◌∙◌, ap, ap₂, subst, subst₂}
use mathlib.Core.Bool.{Bool, true, false, cond}
use mathlib.Core.List.{List, ◌++◌}
use Prim.Native.Nat.{ℕ, ◌+◌, ◌*◌, ◌≤◌, ◌<◌}
use native.Mathlib.Decide.{dec_lt}
use native.Mathlib.Omega.{arith}
use lib.Dec.{eqb}
use lib.ListN.{length, get_or, drop}
use borrow.Author.Tests.{eqb-true}
use Rattle.segmentation.specs.Segmentation.{blocks, size_of}
use Rattle.segmentation.specs.Sizes.{bad_size}
use Rattle.slots.specs.Outcome.{Answer}
use Rattle.slots.specs.Outcome.{StillLacking, Refused}
use Rattle.slots.specs.declared.Head.{Head}
use Rattle.slots.specs.Outcome.{Outcome}
use Rattle.slots.specs.declared.State.{State}
use Rattle.slots.specs.State.{store_length, closed_head, open_head, room_length, room_start, head_at, bad_state}
use Rattle.slots.specs.Answers.{is_done, unless_refused}
use Rattle.slots.specs.Room.{agreeing, room_at, with_room, cleared}
use Rattle.slots.specs.Reception.{received}
use Rattle.slots.specs.Reading.{lacking, heard_answer, heard_block, three_streams}
use Rattle.slots.specs.Calls.{with_head, store_rules, owner_rules, size_at_head, share_at_head, open_rules, open_number, open_down_number, receive_number, receive_outcome, read_number, read_outcome, released, read_output, streams_number, streams_outcome, streams_output, close_number, close_outcome}
use Rattle.slots.proofs.RoomLaws.{room_byte, cleared_in, blocks_fit, room_stored}
use Rattle.slots.proofs.HeadLaws.{open_size, its_head, no_head, closed_head_lem}
use Rattle.slots.proofs.Acceptance.{receives, reads, streams}
use Rattle.history.specs.Links.{Link, uplink, downlink, share_in, opening_number}
use Rattle.history.specs.Calls.{Reception, Call, opening, receiving, reading, streaming, closing, grant_of}
use Rattle.history.specs.Run.{outcome_of, store_after_call}
use Rattle.history.specs.Accepted.{heads_after_call}
use Rattle.history.specs.Answered.{answer_to, slot_of, SameRoom, SameSlot}
use Rattle.history.proofs.Links.{opening_outcome_lem}
use Rattle.history.proofs.State.{room_lent, open_writes, receive_writes}
use Rattle.history.proofs.SameRoom.{same_lacking, same_answer, same_block, same_streams, same_received}
use Rattle.history.proofs.Others.{reception_fits}

-- the same number, and where it is 0 the same answer
same_given : (number number' : ℕ) (state state' : State) (o o' : Outcome) → number ≡ number' → (number ≡ 0 → o.answer ≡ o'.answer)
    → (unless_refused number state o).answer ≡ (unless_refused number' state' o').answer
unfolding unless_refused
same_given number number' state state' o o' e f = rw (← e) (go (eqb number 0) refl)
  where
    go : (b : Bool) → eqb number 0 ≡ b
        → (cond b o (record { answer = Refused number; state = state })).answer ≡ (cond b o' (record { answer = Refused number; state = state' })).answer
    go true t = f (eqb-true number 0 t)
    go false t = refl

-- the same test, and where it is true the same list
same_output : (number number' : ℕ) (new new' out : List ℕ) → number ≡ number' → (number ≡ 0 → new ≡ new')
    → cond (eqb number 0) new out ≡ cond (eqb number' 0) new' out
same_output number number' new new' out e f = rw (← e) (go (eqb number 0) refl)
  where
    go : (b : Bool) → eqb number 0 ≡ b → cond b new out ≡ cond b new' out
    go true t = f (eqb-true number 0 t)
    go false t = refl

module _ (slot : ℕ) (state other : State) (store other_store : List ℕ) (same : SameSlot slot state other store other_store) where
  -- the slot's room in a store
  abbrev room_of : State → List ℕ → List ℕ
  room_of t l = room_at t.blocks slot l

  same_size : size_at_head state slot ≡ size_at_head other slot
  unfolding size_at_head
  same_size = ap (λ h. h.size) same.head

  same_share : share_at_head state slot ≡ share_at_head other slot
  unfolding share_at_head
  same_share = ap (λ h. h.share) same.head

  same_need : store_length state ≡ store_length other
  unfolding store_length
  same_need = cc

  same_open : (link : Link) (A : ℕ) → opening_number link state (length store) slot A ≡ opening_number link other (length other_store) slot A
  unfolding opening_number open_number open_down_number open_rules store_rules
  same_open uplink A = cc (same_need)
  same_open (downlink release k_mimo processes Nsoft layers) A = cc (same_need)

  same_receive : (terminal Q N v : ℕ) (bits : List ℕ) → receive_number state (length store) slot terminal Q N v bits ≡ receive_number other (length other_store) slot terminal Q N v bits
  unfolding receive_number store_rules owner_rules
  same_receive terminal Q N v bits = cc (same_need, same_size)

  same_read : (terminal size : ℕ) → read_number state (length store) slot terminal size ≡ read_number other (length other_store) slot terminal size
  unfolding read_number store_rules owner_rules
  same_read terminal size = cc (same_need, same_size)

  same_stream : (terminal r size : ℕ) → streams_number state (length store) slot terminal r size ≡ streams_number other (length other_store) slot terminal r size
  unfolding streams_number store_rules owner_rules
  same_stream terminal r size = cc (same_need, same_size)

  same_close : (terminal : ℕ) → close_number state slot terminal ≡ close_number other slot terminal
  unfolding close_number owner_rules
  same_close terminal = cc

  -- ---- what is read of an open slot

  module _ (sound : bad_state state ≡ false) (below : slot < state.slots) (opened : (head_at state slot).opened ≡ true) where
    -- whatever is the same of two rooms with the same bytes
    at_slot : {B : Type 0} (f : ℕ → List ℕ → B)
        → ((M A : ℕ) → bad_size A ≡ false → blocks (A + 24) ≤ M → (l r : List ℕ) → ((k : ℕ) → k < room_length M → get_or l k 0 ≡ get_or r k 0) → f A l ≡ f A r)
        → f (size_at_head state slot) (room_of state store) ≡ f (size_at_head other slot) (room_of other other_store)
    at_slot f law =
        let size = open_size state sound slot below opened in
        law state.blocks (size_at_head state slot) size.0 size.1 _ _ same.room
        ∙ ap₂ (λ (M A : ℕ). f A (room_at M slot other_store)) same.blocks same_size

    same_answer_at : heard_answer (size_at_head state slot) (room_of state store) ≡ heard_answer (size_at_head other slot) (room_of other other_store)
    same_answer_at = at_slot heard_answer same_answer

    same_block_at : heard_block (size_at_head state slot) (room_of state store) ≡ heard_block (size_at_head other slot) (room_of other other_store)
    same_block_at = at_slot heard_block same_block

    same_streams_at : (r : ℕ) → r < blocks (size_at_head state slot + 24)
        → three_streams (size_at_head state slot + 24) (room_of state store) r ≡ three_streams (size_at_head other slot + 24) (room_of other other_store) r
    same_streams_at r l =
        let size = open_size state sound slot below opened in
        same_streams state.blocks (size_at_head state slot) size.0 size.1 _ _ same.room r l
        ∙ ap₂ (λ (M A : ℕ). three_streams (A + 24) (room_at M slot other_store) r) same.blocks same_size

  -- ---- the room after a call

  -- the same test, and where it is true the same room
  same_written : (call : Call) (b : Bool) (new new' : List ℕ) → store_after_call state store call ≡ cond b new store
      → store_after_call other other_store call ≡ cond b new' other_store → (b ≡ true → SameRoom state.blocks slot new new')
      → SameRoom state.blocks slot (store_after_call state store call) (store_after_call other other_store call)
  same_written call true new new' p q f = subst₂ (SameRoom state.blocks slot) (sym p) (sym q) (f refl)
  same_written call false new new' p q f = subst₂ (SameRoom state.blocks slot) (sym p) (sym q) same.room

  same_opened : (link : Link) (terminal A : ℕ)
      → SameRoom state.blocks slot (store_after_call state store (opening link slot terminal A)) (store_after_call other other_store (opening link slot terminal A))
  same_opened link terminal A =
      same_written (opening link slot terminal A) (eqb number 0) _ _
      (open_writes link state store slot terminal A (eqb number 0) refl)
      (open_writes link other other_store slot terminal A (eqb number 0) (ap (λ (n : ℕ). eqb n 0) (sym (same_open link A))))
      unheard_both
    where
      number : ℕ
      number = opening_number link state (length store) slot A

      unheard_both : eqb number 0 ≡ true → SameRoom state.blocks slot (cleared state.blocks slot store) (cleared other.blocks slot other_store)
      unheard_both e k l =
          let long = room_lent link state (length store) slot A (eqb-true number 0 e) in
          room_byte state.blocks slot _ k
          ∙ cleared_in state.blocks slot store long (room_start state.blocks slot + k) (omega arith, omega arith)
          ∙ sym (cleared_in state.blocks slot other_store (omega (arith, same.long)) (room_start state.blocks slot + k) (omega arith, omega arith))
          ∙ sym (room_byte state.blocks slot _ k)
          ∙ ap (λ (M : ℕ). get_or (room_at state.blocks slot (cleared M slot other_store)) k 0) same.blocks

  same_put : (terminal : ℕ) (x : Reception)
      → SameRoom state.blocks slot (store_after_call state store (receiving slot terminal x)) (store_after_call other other_store (receiving slot terminal x))
  same_put terminal x =
      same_written (receiving slot terminal x) (eqb number 0) _ _
      (receive_writes state store slot terminal x (eqb number 0) refl)
      (receive_writes other other_store slot terminal x (eqb number 0) (ap (λ (n : ℕ). eqb n 0) (sym (same_receive terminal x.Q x.N x.version x.bits))))
      put_both
    where
      number : ℕ
      number = receive_number state (length store) slot terminal x.Q x.N x.version x.bits

      put : ℕ → ℕ → ℕ → List ℕ → List ℕ
      put soft M A l = with_room M slot (received agreeing soft A (grant_of x) x.bits (room_at M slot l)) l

      put_both : eqb number 0 ≡ true
          → SameRoom state.blocks slot (put (share_at_head state slot) state.blocks (size_at_head state slot) store) (put (share_at_head other slot) other.blocks (size_at_head other slot) other_store)
      put_both e =
          let z : number ≡ 0 = eqb-true number 0 e in
          let a = receives state (length store) slot terminal x.Q x.N x.version x.bits z in
          let size = open_size state a.sound slot a.below a.opened in
          let fits = reception_fits state (length store) slot terminal x z in
          let long : room_start state.blocks slot + room_length state.blocks ≤ length other_store = omega (arith, fits.room, same.long) in
          let stored = room_stored (share_at_head state slot) state.blocks slot (size_at_head state slot) (grant_of x) x.bits in
          let has = blocks_fit (share_at_head state slot) state.blocks slot (size_at_head state slot) (grant_of x) x.bits in
          subst (SameRoom state.blocks slot (put (share_at_head state slot) state.blocks (size_at_head state slot) store))
          (ap₂ (λ (M A : ℕ). put (share_at_head state slot) M A other_store) same.blocks same_size ∙ ap (λ (soft : ℕ). put soft other.blocks (size_at_head other slot) other_store) same_share)
          (λ k l.
          ap (λ (room : List ℕ). get_or room k 0) (stored store fits.room fits.few fits.places)
          ∙ same_received state.blocks (size_at_head state slot) size.0 size.1 (room_of state store) (room_of state other_store) same.room (share_at_head state slot) (grant_of x) x.bits
          fits.places (has store fits.room fits.few fits.places) (has other_store long fits.few fits.places) k l
          ∙ ap (λ (room : List ℕ). get_or room k 0) (sym (stored other_store long fits.few fits.places)))

  same_heard : (terminal : ℕ) (x : Reception) → receive_number state (length store) slot terminal x.Q x.N x.version x.bits ≡ 0
      → lacking (size_at_head state slot) (room_of state (store_after_call state store (receiving slot terminal x)))
      ≡ lacking (size_at_head other slot) (room_of other (store_after_call other other_store (receiving slot terminal x)))
  same_heard terminal x e =
      let a = receives state (length store) slot terminal x.Q x.N x.version x.bits e in
      let size = open_size state a.sound slot a.below a.opened in
      same_lacking state.blocks (size_at_head state slot) size.0 size.1 _ _ (same_put terminal x)
      ∙ ap₂ (λ (M A : ℕ). lacking A (room_at M slot (store_after_call other other_store (receiving slot terminal x)))) same.blocks same_size

  -- ---- the promise: the answer, and what the outputs hold

  pub answer_depends : (call : Call) → slot_of call ≡ slot → answer_to state store call ≡ answer_to other other_store call
  unfolding answer_to outcome_of slot_of store_after_call receive_outcome read_outcome streams_outcome close_outcome
  answer_depends (opening link s terminal A) e =
      rw e
      (ap (λ (o : Outcome). o.answer) (opening_outcome_lem link state (length store) slot terminal A)
      ∙ same_given _ _ state other _ _ (same_open link A) (λ z. refl)
      ∙ sym (ap (λ (o : Outcome). o.answer) (opening_outcome_lem link other (length other_store) slot terminal A)))
  answer_depends (receiving s terminal x) e =
      rw e (same_given _ _ state other _ _ (same_receive terminal x.Q x.N x.version x.bits) (λ z. ap StillLacking (same_heard terminal x z)))
  answer_depends (reading s terminal size) e = rw e (same_given _ _ state other _ _ (same_read terminal size) (λ z. let a = reads state (length store) slot terminal size z in same_answer_at a.sound a.below a.opened))
  answer_depends (streaming s terminal block size) e = rw e (same_given _ _ state other _ _ (same_stream terminal block size) (λ z. refl))
  answer_depends (closing s terminal) e = rw e (same_given _ _ state other _ _ (same_close terminal) (λ z. refl))

  pub read_depends : (terminal : ℕ) (out : List ℕ) → read_output state store slot terminal out ≡ read_output other other_store slot terminal out
  unfolding read_output released read_outcome unless_refused is_done
  read_depends terminal out = rw (← same_read terminal (length out)) (go (eqb number 0) refl)
    where
      number : ℕ
      number = read_number state (length store) slot terminal (length out)

      -- what is written if the read releases
      written : State → List ℕ → Bool → List ℕ
      written t l b =
          cond
          (is_done
          (cond {A = Outcome} b (record { answer = heard_answer (size_at_head t slot) (room_of t l); state = t }) (record { answer = Refused number; state = t })).answer)
          (heard_block (size_at_head t slot) (room_of t l) ++ drop (size_at_head t slot) out)
          out

      go : (b : Bool) → eqb number 0 ≡ b → written state store b ≡ written other other_store b
      go true z =
          let a = reads state (length store) slot terminal (length out) (eqb-true number 0 z) in
          ap₂ (λ (x : Answer) (l : List ℕ). cond (is_done x) l out)
          (same_answer_at a.sound a.below a.opened)
          (ap₂ (λ (l : List ℕ) (A : ℕ). l ++ drop A out) (same_block_at a.sound a.below a.opened) same_size)
      go false z = refl

  pub streams_depends : (terminal r : ℕ) (out : List ℕ) → streams_output state store slot terminal r out ≡ streams_output other other_store slot terminal r out
  unfolding streams_output
  streams_depends terminal r out = same_output _ _ _ _ out (same_stream terminal r (length out)) written
    where
      written : streams_number state (length store) slot terminal r (length out) ≡ 0
          → three_streams (size_at_head state slot + 24) (room_of state store) r ++ drop (3 * (size_of (size_at_head state slot + 24) r + 4)) out
          ≡ three_streams (size_at_head other slot + 24) (room_of other other_store) r ++ drop (3 * (size_of (size_at_head other slot + 24) r + 4)) out
      written z =
          let a = streams state (length store) slot terminal r (length out) z in
          ap₂ (λ (l : List ℕ) (A : ℕ). l ++ drop (3 * (size_of (A + 24) r + 4)) out)
          (same_streams_at a.sound a.below a.opened r a.block)
          same_size

  -- ---- the promise: the room and the head afterwards

  pub room_depends : (call : Call) → slot_of call ≡ slot → SameRoom state.blocks slot (store_after_call state store call) (store_after_call other other_store call)
  unfolding slot_of store_after_call
  room_depends (opening link s terminal A) e = rw e (same_opened link terminal A)
  room_depends (receiving s terminal x) e = rw e (same_put terminal x)
  room_depends (reading s terminal size) e = same.room
  room_depends (streaming s terminal block size) e = same.room
  room_depends (closing s terminal) e = same.room

  pub head_depends : length state.heads ≡ length other.heads → (call : Call) → slot_of call ≡ slot
      → head_at (heads_after_call state (length store) call) slot ≡ head_at (heads_after_call other (length other_store) call) slot
  unfolding heads_after_call slot_of
  head_depends long (opening link s terminal A) e = rw (e, ← same_open link A) (go (eqb (opening_number link state (length store) slot A) 0) (open_head terminal A (share_in link A)))
    where
      go : (b : Bool) (h : Head) → head_at (cond b (with_head state slot h) state) slot ≡ head_at (cond b (with_head other slot h) other) slot
      go true h = elim (dec_lt slot (length state.heads)) [
        | yes l ↦ its_head state slot h l ∙ sym (its_head other slot h (omega arith))
        | no l ↦ no_head state slot h (omega arith) ∙ sym (no_head other slot h (omega arith))
      ]
      go false h = same.head
  head_depends long (receiving s terminal x) e = same.head
  head_depends long (reading s terminal size) e = same.head
  head_depends long (streaming s terminal block size) e = same.head
  head_depends long (closing s terminal) e = rw (e, ← same_close terminal) (go (eqb (close_number state slot terminal) 0))
    where
      go : (b : Bool) → head_at (cond b (with_head state slot closed_head) state) slot ≡ head_at (cond b (with_head other slot closed_head) other) slot
      go true = closed_head_lem state slot ∙ sym (closed_head_lem other slot)
      go false = same.head
