-- A slot that is open after a history was opened: S and M were accepted and the rooms are all there, so a call for it is refused for none of these.
-- Assumes nothing.
use mathlib.Core.Path.{◌≡◌, refl, sym, ◌∙◌, ap, ap₂}
use mathlib.Core.Bool.{Bool, true, false, cond, true≢false}
use mathlib.Core.List.{List, [], ◌∷◌}
use Prim.Native.Nat.{ℕ, ◌+◌, ◌*◌, ◌≤◌}
use native.Mathlib.Decide.{ℕ_discrete}
use native.Mathlib.Omega.{arith}
use lib.Dec.{eqb, ltb}
use lib.ListN.{length}
use lib.Seq.{length-take-le}
use borrow.Author.Tests.{eqb-true, ltb-false}
use Rattle.slots.specs.declared.Head.{Head}
use Rattle.slots.specs.declared.State.{State}
use Rattle.slots.specs.State.{room_length, store_length, closed_head, open_head, new_state, head_at, bad_shape, bad_state}
use Rattle.slots.specs.Calls.{with_head, close_number}
use Rattle.slots.proofs.HeadLaws.{other_head, closed_head_lem, new_head}
use Rattle.history.specs.Links.{share_in, opening_number}
use Rattle.history.specs.Calls.{Call, opening, receiving, reading, streaming, closing, History}
use Rattle.history.specs.Run.{begin, run}
use Rattle.history.specs.Accepted.{lent_length, heads_after_call, heads_after}
use Rattle.history.specs.After.{state_after, store_after}
use Rattle.history.proofs.Links.{opening_fits}
use Rattle.history.proofs.State.{rooms_long_lem, rooms_lent, heads}
use Rattle.history.proofs.Heads.{new_is, never_broken, run_good, refused_state}

-- a new head is closed
new_closed : (S M slot : ℕ) → (head_at (new_state S M) slot).opened ≡ true → ⊥
unfolding closed_head
new_closed S M slot o = true≢false (sym o ∙ ap (λ (h : Head). h.opened) (new_head S M slot))

closed_stays : (state : State) (s slot : ℕ) → (head_at (with_head state s closed_head) slot).opened ≡ true → (head_at state slot).opened ≡ true
unfolding closed_head
closed_stays state s slot o = elim (ℕ_discrete slot s) [
  | yes same ↦ absurd (true≢false (sym o ∙ ap (λ (h : Head). h.opened) (ap (head_at (with_head state s closed_head)) same ∙ closed_head_lem state s)))
  | no other ↦ ap (λ (h : Head). h.opened) (sym (other_head state s closed_head slot other)) ∙ o
]

-- a store that was long enough with what stands past the rooms has the rooms
rooms_enough : (state : State) (n : ℕ) (past : List ℕ) → store_length state ≤ lent_length state n past → store_length state ≤ n
unfolding lent_length
rooms_enough state n past = go (ltb n (store_length state)) refl
  where
    go : (b : Bool) → ltb n (store_length state) ≡ b → store_length state ≤ cond b n (n + length past) → store_length state ≤ n
    go true e h = h
    go false e h = ltb-false n (store_length state) e

-- only an opening opens a slot, and it asks for the rooms
opens_whole : (state : State) (n slot : ℕ) (past : List ℕ) (call : Call) → (head_at (heads_after_call state (lent_length state n past) call) slot).opened ≡ true
    → ((head_at state slot).opened ≡ true → store_length state ≤ n) → store_length state ≤ n
unfolding heads_after_call
opens_whole state n slot past (opening link s terminal A) o before = go (eqb (opening_number link state (lent_length state n past) s A) 0) refl o
  where
    go : (b : Bool) → eqb (opening_number link state (lent_length state n past) s A) 0 ≡ b
        → (head_at (cond b (with_head state s (open_head terminal A (share_in link A))) state) slot).opened ≡ true → store_length state ≤ n
    go true e o = rooms_enough state n past (opening_fits state (lent_length state n past) s A link (eqb-true _ 0 e)).slot_stored.enough
    go false e o = before o
opens_whole state n slot past (receiving s terminal r) o before = before o
opens_whole state n slot past (reading s terminal size) o before = before o
opens_whole state n slot past (streaming s terminal block size) o before = before o
opens_whole state n slot past (closing s terminal) o before = go (eqb (close_number state s terminal) 0) o
  where
    go : (b : Bool) → (head_at (cond b (with_head state s closed_head) state) slot).opened ≡ true → store_length state ≤ n
    go true o = before (closed_stays state s slot o)
    go false o = before o

shape_long : (S M : ℕ) (state : State) → state.slots ≡ S → state.blocks ≡ M → store_length state ≡ S * room_length M
unfolding store_length
shape_long S M state s m = ap₂ (λ (a b : ℕ). a * room_length b) s m

module _ (S M n slot : ℕ) where
  accepted_shape : (h : History) → (head_at (heads_after S M n h) slot).opened ≡ true → bad_shape S M ≡ false
  accepted_shape h o = go (bad_shape S M) refl
    where
      go : (b : Bool) → bad_shape S M ≡ b → b ≡ false
      go true e = absurd (new_closed 0 0 slot (rw (refused_state S M e n h) at o))
      go false e = refl

  rooms_there : (good : bad_shape S M ≡ false) (h : History) → (head_at (heads_after S M n h) slot).opened ≡ true → S * room_length M ≤ n
  unfolding heads_after
  rooms_there good [] o = absurd (new_closed S M slot (rw (new_is S M good) at o))
  rooms_there good (m ∷ h) o =
      let g = never_broken S M good n h in
      let same : store_length (heads_after S M n h) ≡ S * room_length M = shape_long S M (heads_after S M n h) g.slots g.blocks in
      omega (arith, same, opens_whole (heads_after S M n h) n slot m.past m.call o (λ before. omega (arith, same, rooms_there good h before)))

-- ---- after a history, from New over a store

-- S and M were accepted, and every call is lent all the rooms
pub record Ready (S M : ℕ) (store₀ : List ℕ) (h : History) : Type 0 where
  pub shape : bad_shape S M ≡ false
  pub sound : bad_state (state_after S M store₀ h) ≡ false
  pub slots : (state_after S M store₀ h).slots ≡ S
  pub blocks : (state_after S M store₀ h).blocks ≡ M
  pub long : (past : List ℕ) → store_length (state_after S M store₀ h) ≤ length (store_after S M store₀ h past)

module _ (S M : ℕ) (store₀ : List ℕ) (h : History) where
  ready : bad_shape S M ≡ false → S * room_length M ≤ length (begin S M store₀).rooms → Ready S M store₀ h
  ready good enough =
      let g = run_good S M good store₀ h in
      record {
        shape = good;
        sound = g.sound;
        slots = g.slots;
        blocks = g.blocks;
        long = λ past.
            omega (arith, shape_long S M (run S M store₀ h).state g.slots g.blocks, enough, rooms_long_lem S M store₀ h, rooms_lent (run S M store₀ h) past);
      }

  -- a slot is open
  pub open_ready : (slot : ℕ) → (head_at (state_after S M store₀ h) slot).opened ≡ true → Ready S M store₀ h
  open_ready slot o =
      let n : ℕ = length (begin S M store₀).rooms in
      let o' : (head_at (heads_after S M n h) slot).opened ≡ true = rw (heads S M store₀ h) at o in
      let good = accepted_shape S M n slot h o' in
      ready good (rooms_there S M n slot good h o')

  -- New was accepted over a store of at least S·M·18,528 bytes
  pub new_ready : bad_shape S M ≡ false → S * room_length M ≤ length store₀ → Ready S M store₀ h
  unfolding begin store_length new_state
  new_ready good enough =
      ready good
      (rw (new_is S M good) (omega (arith, length-take-le (S * room_length M) store₀ enough)))
