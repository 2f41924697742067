-- Calls on other slots, over a whole history: what a slot's calls are answered and what they write is as if the other slots' calls had not been made.
-- Assumes nothing.
use mathlib.Core.Path.{◌≡◌, refl, sym, ◌∙◌, ap, ap₂, subst}
use mathlib.Core.Bool.{Bool, true, false, cond}
use mathlib.Core.List.{List, [], ◌∷◌, ◌++◌}
use Prim.Native.Nat.{ℕ, ◌+◌, ◌-◌, ◌*◌, ◌≤◌}
use native.Mathlib.Decide.{dec_lt}
use native.Mathlib.Omega.{arith}
use lib.Dec.{eqb, ltb}
use lib.ListN.{length, get_or, take, get_or-append, get_or-eq_default, length-take}
use lib.Seq.{get_or-append-add, get_or-take}
use borrow.Author.Tests.{eqb-true, eqb-false}
use Rattle.slots.specs.declared.State.{State}
use Rattle.slots.specs.State.{store_length, room_length, new_state, head_at, bad_shape, bad_state}
use Rattle.slots.specs.Calls.{read_output, streams_output}
use Rattle.history.specs.Calls.{Call, Made, History}
use Rattle.history.specs.Run.{World, lent, step, begin, run}
use Rattle.history.specs.Accepted.{lent_length}
use Rattle.history.specs.Answered.{answer_to, slot_of, SameRoom, SameSlot, own_calls}
use Rattle.history.proofs.State.{state_after_lem, length_lent, rooms_long_lem, SameShape, shape_step, shape_stays, heads}
use Rattle.history.proofs.Heads.{run_good, refused_state}
use Rattle.history.proofs.Others.{room_bytes, bytes_room, others_head, others_room}
use Rattle.history.proofs.Depends.{answer_depends, read_depends, streams_depends, room_depends, head_depends}

-- ---- the stores that two worlds lend

-- a byte is the same in two stores that are lent if it is the same in the rooms
lent_same : (w v : World) (past : List ℕ) → store_length w.state ≡ store_length v.state → length w.rooms ≡ length v.rooms
    → (at : ℕ) → get_or w.rooms at 0 ≡ get_or v.rooms at 0 → get_or (lent w past) at 0 ≡ get_or (lent v past) at 0
unfolding lent
lent_same w v past need long at e =
    rw (← need, ← long) (go (ltb (length w.rooms) (store_length w.state)))
  where
    behind : (l : List ℕ) → length l ≤ at → get_or (l ++ past) at 0 ≡ get_or past (at - length l) 0
    behind l h =
        let place : at ≡ length l + (at - length l) = omega arith in
        ap (λ (n : ℕ). get_or (l ++ past) n 0) place ∙ get_or-append-add l past (at - length l) 0

    go : (b : Bool) → get_or (cond b w.rooms (w.rooms ++ past)) at 0 ≡ get_or (cond b v.rooms (v.rooms ++ past)) at 0
    go true = e
    go false = elim (dec_lt at (length w.rooms)) [
      | yes l ↦ get_or-append w.rooms past 0 at l ∙ e ∙ sym (get_or-append v.rooms past 0 at (omega arith))
      | no l ↦ behind w.rooms (omega arith) ∙ ap (λ (n : ℕ). get_or past (at - n) 0) long ∙ sym (behind v.rooms (omega arith))
    ]

-- and a front of two lists has the bytes of the lists
front_same : (n k : ℕ) (l r : List ℕ) → n ≡ k → (at : ℕ) → get_or l at 0 ≡ get_or r at 0 → get_or (take n l) at 0 ≡ get_or (take k r) at 0
front_same n k l r same at e =
    rw (← same)
    (elim (dec_lt at n) [
      | yes h ↦ get_or-take n l at 0 h ∙ e ∙ sym (get_or-take n r at 0 h)
      | no h ↦ past l (omega arith) ∙ sym (past r (omega arith))
    ])
  where
    past : (s : List ℕ) → n ≤ at → get_or (take n s) at 0 ≡ 0
    past s h = get_or-eq_default (take n s) 0 {n = at} (omega (arith, length-take n s))

module _ (S M : ℕ) (store : List ℕ) (slot : ℕ) where
  -- two histories have the same S, M, number of heads and length of the rooms, and 13 in both or in none
  same_shape : (h g : History) → SameShape (run S M store h).state (run S M store g).state
  same_shape h g =
      let k = shape_stays S M store h in
      let l = shape_stays S M store g in
      record { slots = k.slots ∙ sym l.slots; blocks = k.blocks ∙ sym l.blocks; heads = k.heads ∙ sym l.heads }

  same_broken : (h g : History) → bad_state (run S M store h).state ≡ bad_state (run S M store g).state
  same_broken h g = go (bad_shape S M) refl
    where
      refused : bad_shape S M ≡ true → (h : History) → (run S M store h).state ≡ new_state 0 0
      refused e h = heads S M store h ∙ refused_state S M e (length (begin S M store).rooms) h

      go : (b : Bool) → bad_shape S M ≡ b → bad_state (run S M store h).state ≡ bad_state (run S M store g).state
      go true e = ap bad_state (refused e h ∙ sym (refused e g))
      go false e = (run_good S M e store h).sound ∙ sym (run_good S M e store g).sound

  -- the same head and room after two histories
  record Same (h g : History) : Type 0 where
    pub head : head_at (run S M store h).state slot ≡ head_at (run S M store g).state slot
    pub room : SameRoom (run S M store h).state.blocks slot (run S M store h).rooms (run S M store g).rooms

  same_slot : (h g : History) → Same h g → (past : List ℕ)
      → SameSlot slot (run S M store h).state (run S M store g).state (lent (run S M store h) past) (lent (run S M store g) past)
  unfolding store_length lent_length
  same_slot h g same past = record {
    slots = shape.slots;
    blocks = shape.blocks;
    broken = same_broken h g;
    head = same.head;
    long =
        length_lent (run S M store h) past
        ∙ ap₂ (λ (n k : ℕ). cond (ltb k n) k (k + length past)) need long
        ∙ sym (length_lent (run S M store g) past);
    room = room_bytes _ slot _ _ (λ k l. lent_same (run S M store h) (run S M store g) past need long _ (bytes_room _ slot _ _ same.room k l));
  }
    where
      shape : SameShape (run S M store h).state (run S M store g).state
      shape = same_shape h g

      need : store_length (run S M store h).state ≡ store_length (run S M store g).state
      need = ap₂ (λ (n k : ℕ). n * room_length k) shape.slots shape.blocks

      long : length (run S M store h).rooms ≡ length (run S M store g).rooms
      long = rooms_long_lem S M store h ∙ sym (rooms_long_lem S M store g)

  -- a call on another slot after the first history alone
  same_other : (m : Made) (h g : History) → (slot ≡ slot_of m.call → ⊥) → Same h g → Same (m ∷ h) g
  unfolding run
  same_other m h g other same = record {
    head = others_head (run S M store h) m slot other ∙ same.head;
    room =
        subst (λ (n : ℕ). SameRoom n slot (step (run S M store h) m).rooms (run S M store g).rooms) (sym (shape_step (run S M store h) m).blocks)
        (λ k l. others_room (run S M store h) m slot other k l ∙ same.room k l);
  }

  -- a call on this slot after both
  same_own : (m : Made) (h g : History) → slot_of m.call ≡ slot → Same h g → Same (m ∷ h) (m ∷ g)
  unfolding run step
  same_own m h g own same = record {
    head =
        ap (λ (t : State). head_at t slot) (state_after_lem w.state (lent w m.past) m.call)
        ∙ head_depends slot w.state v.state (lent w m.past) (lent v m.past) slots (same_shape h g).heads m.call own
        ∙ ap (λ (t : State). head_at t slot) (sym (state_after_lem v.state (lent v m.past) m.call));
    room =
        subst (λ (n : ℕ). SameRoom n slot (step w m).rooms (step v m).rooms) (sym (shape_step w m).blocks)
        (room_bytes _ slot _ _
        (λ k l. front_same (length w.rooms) (length v.rooms) _ _ (rooms_long_lem S M store h ∙ sym (rooms_long_lem S M store g)) _
        (bytes_room _ slot _ _ (room_depends slot w.state v.state (lent w m.past) (lent v m.past) slots m.call own) k l)));
  }
    where
      w : World
      w = run S M store h

      v : World
      v = run S M store g

      slots : SameSlot slot w.state v.state (lent w m.past) (lent v m.past)
      slots = same_slot h g same m.past

  own_calls_lem : (h : History) → Same h (own_calls slot h)
  unfolding own_calls
  own_calls_lem [] = record { head = refl; room = λ k l. refl }
  own_calls_lem (m ∷ h) = go (eqb (slot_of m.call) slot) refl (own_calls_lem h)
    where
      go : (b : Bool) → eqb (slot_of m.call) slot ≡ b → Same h (own_calls slot h) → Same (m ∷ h) (cond b (m ∷ own_calls slot h) (own_calls slot h))
      go true e same = same_own m h (own_calls slot h) (eqb-true _ _ e) same
      go false e same = same_other m h (own_calls slot h) (λ q. eqb-false _ _ e (sym q)) same

  -- ---- the promise: answers and outputs for a slot are those of the history of its own calls

  pub own_answer : (h : History) (past : List ℕ) (call : Call) → slot_of call ≡ slot
      → answer_to (run S M store h).state (lent (run S M store h) past) call
      ≡ answer_to (run S M store (own_calls slot h)).state (lent (run S M store (own_calls slot h)) past) call
  own_answer h past call e = answer_depends slot _ _ _ _ (same_slot h (own_calls slot h) (own_calls_lem h) past) call e

  pub own_read : (h : History) (past : List ℕ) (terminal : ℕ) (out : List ℕ)
      → read_output (run S M store h).state (lent (run S M store h) past) slot terminal out
      ≡ read_output (run S M store (own_calls slot h)).state (lent (run S M store (own_calls slot h)) past) slot terminal out
  own_read h past terminal out = read_depends slot _ _ _ _ (same_slot h (own_calls slot h) (own_calls_lem h) past) terminal out

  pub own_streams : (h : History) (past : List ℕ) (terminal r : ℕ) (out : List ℕ)
      → streams_output (run S M store h).state (lent (run S M store h) past) slot terminal r out
      ≡ streams_output (run S M store (own_calls slot h)).state (lent (run S M store (own_calls slot h)) past) slot terminal r out
  own_streams h past terminal r out = streams_depends slot _ _ _ _ (same_slot h (own_calls slot h) (own_calls_lem h) past) terminal r out
