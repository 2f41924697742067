-- An accepted opening and the calls after it, demand 3: the slot stays open for that terminal and size, and a read by the terminal comes to the room.
-- Assumes nothing.
use mathlib.Core.Path.{◌≡◌, refl, sym, ◌∙◌, ap, ap₂}
use mathlib.Core.Bool.{Bool, true, false, cond, ◌&&◌}
use mathlib.Core.List.{List, [], ◌∷◌, ◌++◌}
use Prim.Native.Nat.{ℕ, ◌*◌, ◌≤◌, ◌<◌}
use native.Mathlib.Decide.{ℕ_discrete}
use native.Mathlib.Omega.{arith}
use lib.Dec.{eqb}
use lib.ListN.{length}
use borrow.Author.Tests.{eq-eqb, eqb-true, lt-ltb, le-ltb}
use Rattle.refusals.specs.Refusals.{first_of}
use Rattle.slots.specs.Outcome.{Done, Refused}
use Rattle.slots.specs.declared.Head.{Head}
use Rattle.slots.specs.Outcome.{Outcome}
use Rattle.slots.specs.declared.State.{State}
use Rattle.slots.specs.State.{store_length, room_length, closed_head, open_head, new_state, head_at, bad_shape, bad_state}
use Rattle.slots.specs.Answers.{unless_refused}
use Rattle.slots.specs.Calls.{with_head, store_rules, owner_rules, size_at_head, share_at_head, read_number, close_number}
use Rattle.slots.proofs.HeadLaws.{its_head}
use Rattle.slots.proofs.Accepted.{good_shape}
use Rattle.history.specs.Links.{Link, share_in, opening_number}
use Rattle.history.specs.Calls.{Call, opening, receiving, reading, streaming, closing, Made, History}
use Rattle.history.specs.Run.{World, lent, outcome_of, run}
use Rattle.history.specs.Accepted.{lent_length, heads_after_call, heads_after}
use Rattle.history.specs.Answered.{answer_to, slot_of}
use Rattle.history.specs.After.{made, state_after, store_after, rooms_long}
use Rattle.history.specs.Later.{restarts, Undisturbed}
use Rattle.history.proofs.Links.{opening_fits, opening_outcome_lem}
use Rattle.history.proofs.State.{length_lent, rooms_lent, rooms_long_lem, shape_stays, heads}
use Rattle.history.proofs.Heads.{never_broken, run_good, refused_state}
use Rattle.history.proofs.Others.{head_stays, rooms_whole}

-- an opening that is answered Done was accepted
pub opened_number : (link : Link) (state : State) (store : List ℕ) (slot terminal A : ℕ) → answer_to state store (opening link slot terminal A) ≡ Done
    → opening_number link state (length store) slot A ≡ 0
unfolding answer_to outcome_of unless_refused
opened_number link state store slot terminal A e =
    go (eqb number 0) refl (sym (ap (λ (o : Outcome). o.answer) (opening_outcome_lem link state (length store) slot terminal A)) ∙ e)
  where
    number : ℕ
    number = opening_number link state (length store) slot A

    go : (b : Bool) → eqb number 0 ≡ b
        → (cond {A = Outcome} b (record { answer = Done; state = with_head state slot (open_head terminal A (share_in link A)) }) (record { answer = Refused number; state = state })).answer
        ≡ Done → number ≡ 0
    go true t d = eqb-true number 0 t
    go false t d = let z : ◌≡◌ {A = ℕ} 0 1 = cc in absurd (omega arith)

-- ---- the head

-- a call that is no accepted opening or closing of the slot leaves its head
keeps_head : (state : State) (room slot : ℕ) (call : Call) → restarts state room slot call ≡ false
    → head_at (heads_after_call state room call) slot ≡ head_at state slot
unfolding heads_after_call restarts slot_of
keeps_head state room slot call r =
    elim (ℕ_discrete slot (slot_of call)) [ yes e ↦ on_this call e r | no n ↦ head_stays state room slot call n ]
  where
    either : (s : ℕ) (h : Head) (b : Bool) → slot ≡ s → (eqb s slot && b) ≡ false → head_at (cond b (with_head state s h) state) slot ≡ head_at state slot
    either s h b e r = ap (λ (t : Bool). head_at (cond t (with_head state s h) state) slot) (sym (ap (λ (t : Bool). t && b) (eq-eqb s slot (sym e))) ∙ r)

    on_this : (call : Call) → slot ≡ slot_of call → restarts state room slot call ≡ false → head_at (heads_after_call state room call) slot ≡ head_at state slot
    on_this (opening link s terminal A) e r = either s (open_head terminal A (share_in link A)) (eqb (opening_number link state room s A) 0) e r
    on_this (receiving s terminal x) e r = refl
    on_this (reading s terminal size) e r = refl
    on_this (streaming s terminal block size) e r = refl
    on_this (closing s terminal) e r = either s closed_head (eqb (close_number state s terminal) 0) e r

pub keeps_heads : (S M n slot : ℕ) (later h : History) → Undisturbed S M n slot later h
    → head_at (heads_after S M n (later ++ h)) slot ≡ head_at (heads_after S M n h) slot
unfolding heads_after
keeps_heads S M n slot [] h u = refl
keeps_heads S M n slot (m ∷ later) h u =
    keeps_head (heads_after S M n (later ++ h)) (lent_length (heads_after S M n (later ++ h)) n m.past) slot m.call u.0 ∙ keeps_heads S M n slot later h u.1

-- ---- after an accepted opening

module _ (S M : ℕ) (store₀ : List ℕ) (earlier : History) (past₀ : List ℕ) (link : Link) (slot terminal A : ℕ)
    (opens : answer_to (state_after S M store₀ earlier) (store_after S M store₀ earlier past₀) (opening link slot terminal A) ≡ Done) where
  abbrev rooms : ℕ
  rooms = rooms_long S M store₀

  abbrev opened : History
  opened = made (opening link slot terminal A) past₀ earlier

  -- the opening was accepted, as the calls alone say
  number_run : opening_number link (run S M store₀ earlier).state (length (lent (run S M store₀ earlier) past₀)) slot A ≡ 0
  number_run = opened_number link _ _ slot terminal A opens

  pub number : opening_number link (heads_after S M rooms earlier) (lent_length (heads_after S M rooms earlier) rooms past₀) slot A ≡ 0
  number =
      let long : length (lent (run S M store₀ earlier) past₀) ≡ lent_length (run S M store₀ earlier).state rooms past₀ =
      length_lent (run S M store₀ earlier) past₀ ∙ ap (λ (n : ℕ). lent_length (run S M store₀ earlier).state n past₀) (rooms_long_lem S M store₀ earlier) in
      rw (long, heads S M store₀ earlier) at number_run

  -- S and M were accepted
  pub shape : bad_shape S M ≡ false
  unfolding new_state
  shape = go (bad_shape S M) refl
    where
      go : (b : Bool) → bad_shape S M ≡ b → b ≡ false
      go true e =
          let none : (heads_after S M rooms earlier).slots ≡ 0 = ap (λ (t : State). t.slots) (refused_state S M e rooms earlier) in
          absurd (omega (arith, (opening_fits _ _ slot A link number).slot_stored.present))
      go false e = refl

  its_slot : slot < S
  its_slot = omega (arith, (opening_fits _ _ slot A link number).slot_stored.present, (never_broken S M shape rooms earlier).slots)

  head_opened : head_at (heads_after S M rooms opened) slot ≡ open_head terminal A (share_in link A)
  unfolding heads_after heads_after_call
  head_opened =
      ap (λ (b : Bool). head_at (cond b (with_head (heads_after S M rooms earlier) slot (open_head terminal A (share_in link A))) (heads_after S M rooms earlier)) slot)
      (eq-eqb _ 0 number)
      ∙ its_head (heads_after S M rooms earlier) slot _ (omega (arith, (never_broken S M shape rooms earlier).eight, its_slot, (good_shape shape).slots_most))

  module _ (later : History) (undisturbed : Undisturbed S M rooms slot later opened) where
    abbrev w : World
    w = run S M store₀ (later ++ opened)

    -- the slot is open for the terminal and A bits, with the link's share
    pub still_open : head_at w.state slot ≡ open_head terminal A (share_in link A)
    still_open =
        ap (λ (t : State). head_at t slot) (heads S M store₀ (later ++ opened)) ∙ keeps_heads S M rooms slot later opened undisturbed ∙ head_opened

    pub still_share : share_at_head w.state slot ≡ share_in link A
    unfolding share_at_head
    still_share = ap (λ (h : Head). h.share) still_open

    pub still_size : size_at_head w.state slot ≡ A
    unfolding size_at_head
    still_size = ap (λ (h : Head). h.size) still_open

    -- the rooms are all there
    long_enough : (past : List ℕ) → store_length w.state ≤ length (lent w past)
    unfolding store_length
    long_enough past =
        let v : World = run S M store₀ earlier in
        let made : Made = record { call = opening link slot terminal A; past = past₀ } in
        let k = shape_stays S M store₀ earlier in
        let l = shape_stays S M store₀ (later ++ opened) in
        let same : store_length w.state ≡ store_length v.state = ap₂ (λ (n m : ℕ). n * room_length m) (l.slots ∙ sym k.slots) (l.blocks ∙ sym k.blocks) in
        let whole : store_length v.state ≤ length v.rooms = rooms_whole v made (opening_fits _ _ slot A link number_run).slot_stored.enough in
        omega (arith, same, whole, rooms_long_lem S M store₀ earlier, rooms_long_lem S M store₀ (later ++ opened), rooms_lent w past)

    -- a read by the terminal, with an output of A bytes or more, is not refused before the room is looked at
    pub read_comes : (past : List ℕ) (size : ℕ) → A ≤ size → read_number w.state (length (lent w past)) slot terminal size ≡ 0
    unfolding read_number store_rules owner_rules first_of
    read_comes past size enough =
        let sound : bad_state w.state ≡ false = (run_good S M shape store₀ (later ++ opened)).sound in
        let stored = le-ltb (length (lent w past)) (store_length w.state) (long_enough past) in
        let below = lt-ltb slot w.state.slots (omega (arith, its_slot, (run_good S M shape store₀ (later ++ opened)).slots)) in
        let fits = le-ltb size A enough in
        rw (sound, stored, below, still_open, eq-eqb terminal terminal refl, still_size, fits)
