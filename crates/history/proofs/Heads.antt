-- No broken head, 01 'Slots': in a history from an accepted New number 13 never comes; from a refused one it always comes.
-- Assumes nothing.
use mathlib.Core.Path.{◌≡◌, refl, sym, ◌∙◌, ap}
use mathlib.Core.Bool.{Bool, true, false, cond}
use mathlib.Core.List.{List, [], ◌∷◌}
use Prim.Native.Nat.{ℕ}
use lib.Dec.{T, eqb}
use lib.ListN.{length, length-set}
use borrow.Author.Tests.{eqb-true, eqb-false}
use Rattle.refusals.specs.Refusals.{Rule, rule, first_of}
use Rattle.slots.specs.Outcome.{Done, Refused}
use Rattle.slots.specs.declared.Head.{Head}
use Rattle.slots.specs.Outcome.{Outcome}
use Rattle.slots.specs.declared.State.{State}
use Rattle.slots.specs.State.{closed_head, open_head, new_state, broken, bad_shape, bad_state}
use Rattle.slots.specs.Answers.{number_of, Lacking, WrongBlock, unless_refused}
use Rattle.slots.specs.Room.{room_at}
use Rattle.slots.specs.Reading.{lacking, first_wrong, some_wrong, wrong_check, heard_answer}
use Rattle.slots.specs.Calls.{with_head, store_rules, owner_rules, size_at_head, new_outcome, open_rules, open_number, open_outcome, open_down_number, open_down_outcome, receive_number, receive_outcome, read_number, read_outcome, streams_number, streams_outcome, close_number, close_outcome}
use Rattle.slots.proofs.Heads.{closed_unbroken}
use Rattle.slots.proofs.HeadLaws.{fitting_unbroken, good_with, good_new}
use Rattle.history.specs.Links.{uplink, downlink, share_in, opening_number, opening_outcome}
use Rattle.history.specs.Calls.{Call, opening, receiving, reading, streaming, closing, History}
use Rattle.history.specs.Run.{lent, outcome_of, begin, run}
use Rattle.history.specs.Accepted.{lent_length, heads_after_call, heads_after}
use Rattle.history.specs.Answered.{answer_to}
use Rattle.history.proofs.Links.{opening_fits, opening_enough}
use Rattle.history.proofs.State.{heads}

-- ---- from an accepted New

-- S, M and eight heads of which none is broken
pub record Good (S M : ℕ) (state : State) : Type 0 where
  pub slots : state.slots ≡ S
  pub blocks : state.blocks ≡ M
  pub eight : length state.heads ≡ 8
  pub sound : bad_state state ≡ false

module _ {S M : ℕ} {state : State} (g : Good S M state) where
  good_head_set : (slot : ℕ) (h : Head) → broken state.blocks h ≡ false → Good S M (with_head state slot h)
  unfolding with_head
  good_head_set slot h u = record {
    slots = g.slots;
    blocks = g.blocks;
    eight = length-set state.heads slot h ∙ g.eight;
    sound = good_with state slot h g.sound u;
  }

  pub good_call : (room : ℕ) (call : Call) → Good S M (heads_after_call state room call)
  unfolding heads_after_call
  good_call room (opening link slot terminal A) = go (eqb (opening_number link state room slot A) 0) refl
    where
      new : Head
      new = open_head terminal A (share_in link A)

      go : (b : Bool) → eqb (opening_number link state room slot A) 0 ≡ b → Good S M (cond b (with_head state slot new) state)
      go true e =
          good_head_set slot new (fitting_unbroken terminal (share_in link A) (opening_fits state room slot A link (eqb-true _ _ e)).size_fits (opening_enough state room slot A link (eqb-true _ _ e)))
      go false e = g
  good_call room (receiving slot terminal r) = g
  good_call room (reading slot terminal size) = g
  good_call room (streaming slot terminal block size) = g
  good_call room (closing slot terminal) = go (eqb (close_number state slot terminal) 0)
    where
      go : (b : Bool) → Good S M (cond b (with_head state slot closed_head) state)
      go true = good_head_set slot closed_head (closed_unbroken state.blocks)
      go false = g

module _ (S M : ℕ) (accepted : bad_shape S M ≡ false) where
  pub new_is : (new_outcome S M).state ≡ new_state S M
  unfolding new_outcome unless_refused first_of
  new_is = ap (λ (b : Bool). (unless_refused (first_of (rule b 13 ∷ [])) (new_state 0 0) (record { answer = Done; state = new_state S M })).state) accepted

  -- S and M stay, and no head below S is ever broken
  pub never_broken : (n : ℕ) (h : History) → Good S M (heads_after S M n h)
  unfolding heads_after new_state
  never_broken n [] = rw new_is (record { slots = refl; blocks = refl; eight = refl; sound = good_new S M accepted })
  never_broken n (m ∷ h) = good_call (never_broken n h) (lent_length (heads_after S M n h) n m.past) m.call

  pub run_good : (store : List ℕ) (h : History) → Good S M (run S M store h).state
  run_good store h = rw (heads S M store h) (never_broken (length (begin S M store).rooms) h)

-- ---- number 13

-- no rule has the number
abbrev without : ℕ → List Rule → Bool
without k [] = true
without k (r ∷ rs) = elim (eqb r.number k) [ true ↦ false | false ↦ without k rs ]

not_given : (k : ℕ) → (0 ≡ k → ⊥) → (rs : List Rule) → T (without k rs) → first_of rs ≡ k → ⊥
unfolding first_of
not_given k z [] t e = z e
not_given k z (r ∷ rs) t e = go (eqb r.number k) refl t r.bad e (not_given k z rs)
  where
    go : (u : Bool) → eqb r.number k ≡ u → T (elim u [ true ↦ false | false ↦ without k rs ]) → (b : Bool)
        → elim b [ true ↦ r.number | false ↦ first_of rs ] ≡ k → (T (without k rs) → first_of rs ≡ k → ⊥) → ⊥
    go true q t b e f = absurd t
    go false q t true e f = eqb-false r.number k q e
    go false q t false e f = f t e

-- the number of an answer that may be a refusal
number_of_lem : (number : ℕ) (state : State) (o : Outcome) → number_of (unless_refused number state o).answer ≡ cond (eqb number 0) (number_of o.answer) number
unfolding unless_refused number_of
number_of_lem number state o = go (eqb number 0)
  where
    go : (b : Bool) → number_of (cond b o (record { answer = Refused number; state = state })).answer ≡ cond b (number_of o.answer) number
    go true = refl
    go false = refl

module _ (state : State) (sound : bad_state state ≡ false) where
  -- behind the test of 13
  behind : (rs : List Rule) → T (without 13 rs) → first_of (rule (bad_state state) 13 ∷ rs) ≡ 13 → ⊥
  unfolding first_of
  behind rs t e = not_given 13 (λ z. eqb-false 0 13 refl z) rs t (sym (ap (λ (b : Bool). first_of (rule b 13 ∷ rs)) sound) ∙ e)

  not_13 : (number : ℕ) (o : Outcome) → (number ≡ 13 → ⊥) → (number_of o.answer ≡ 13 → ⊥) → number_of (unless_refused number state o).answer ≡ 13 → ⊥
  not_13 number o f g e = go (eqb number 0) (sym (number_of_lem number state o) ∙ e)
    where
      go : (b : Bool) → cond b (number_of o.answer) number ≡ 13 → ⊥
      go true = g
      go false = f

  answer_not_13 : (store : List ℕ) (call : Call) → number_of (answer_to state store call) ≡ 13 → ⊥
  unfolding answer_to outcome_of opening_outcome open_outcome open_number open_down_outcome open_down_number open_rules receive_outcome receive_number read_outcome read_number streams_outcome streams_number close_outcome close_number store_rules owner_rules number_of heard_answer
  answer_not_13 store (opening uplink slot terminal A) = not_13 _ _ (behind _ tt) (eqb-false 0 13 refl)
  answer_not_13 store (opening (downlink release k_mimo processes Nsoft layers) slot terminal A) = not_13 _ _ (behind _ tt) (eqb-false 0 13 refl)
  answer_not_13 store (receiving slot terminal r) = not_13 _ _ (behind _ tt) (eqb-false 0 13 refl)
  answer_not_13 store (reading slot terminal size) = not_13 _ _ (behind _ tt) (read (eqb (lacking A room) 0) (some_wrong A room) (wrong_check A room))
    where
      A : ℕ
      A = size_at_head state slot

      room : List ℕ
      room = room_at state.blocks slot store

      read : (a b w : Bool) → number_of (cond a (cond b (WrongBlock (first_wrong A room)) (cond w (Refused 12) Done)) (Lacking (lacking A room))) ≡ 13 → ⊥
      read true true w = eqb-false 16 13 refl
      read true false true = eqb-false 12 13 refl
      read true false false = eqb-false 0 13 refl
      read false b w = eqb-false 11 13 refl
  answer_not_13 store (streaming slot terminal block size) = not_13 _ _ (behind _ tt) (eqb-false 0 13 refl)
  answer_not_13 store (closing slot terminal) = not_13 _ _ (behind _ tt) (eqb-false 0 13 refl)

-- in a history from an accepted New no call is answered with 13
pub never_13 : (S M : ℕ) (store : List ℕ) (h : History) → bad_shape S M ≡ false → (past : List ℕ) (call : Call)
    → number_of (answer_to (run S M store h).state (lent (run S M store h) past) call) ≡ 13 → ⊥
never_13 S M store h accepted past call =
    answer_not_13 (run S M store h).state (run_good S M accepted store h).sound (lent (run S M store h) past) call

-- ---- from a refused New

empty_stays : (room : ℕ) (call : Call) → heads_after_call (new_state 0 0) room call ≡ new_state 0 0
unfolding heads_after_call opening_number open_number open_down_number open_rules close_number store_rules first_of bad_state bad_shape new_state
empty_stays room (opening uplink slot terminal A) = refl
empty_stays room (opening (downlink release k_mimo processes Nsoft layers) slot terminal A) = refl
empty_stays room (receiving slot terminal r) = refl
empty_stays room (reading slot terminal size) = refl
empty_stays room (streaming slot terminal block size) = refl
empty_stays room (closing slot terminal) = refl

empty_answers : (store : List ℕ) (call : Call) → number_of (answer_to (new_state 0 0) store call) ≡ 13
unfolding answer_to outcome_of opening_outcome open_outcome open_number open_down_outcome open_down_number open_rules receive_outcome receive_number read_outcome read_number streams_outcome streams_number close_outcome close_number store_rules unless_refused first_of bad_state bad_shape new_state number_of
empty_answers store (opening uplink slot terminal A) = refl
empty_answers store (opening (downlink release k_mimo processes Nsoft layers) slot terminal A) = refl
empty_answers store (receiving slot terminal r) = refl
empty_answers store (reading slot terminal size) = refl
empty_answers store (streaming slot terminal block size) = refl
empty_answers store (closing slot terminal) = refl

module _ (S M : ℕ) (refused : bad_shape S M ≡ true) where
  empty_is : (new_outcome S M).state ≡ new_state 0 0
  unfolding new_outcome unless_refused first_of
  empty_is = ap (λ (b : Bool). (unless_refused (first_of (rule b 13 ∷ [])) (new_state 0 0) (record { answer = Done; state = new_state S M })).state) refused

  -- the state stays that of the refused New
  pub refused_state : (n : ℕ) (h : History) → heads_after S M n h ≡ new_state 0 0
  unfolding heads_after
  refused_state n [] = empty_is
  refused_state n (m ∷ h) =
      ap (λ (state : State). heads_after_call state (lent_length (heads_after S M n h) n m.past) m.call) (refused_state n h)
      ∙ empty_stays (lent_length (heads_after S M n h) n m.past) m.call

  -- and each call is answered with 13
  pub always_13 : (store : List ℕ) (h : History) (past : List ℕ) (call : Call)
      → number_of (answer_to (run S M store h).state (lent (run S M store h) past) call) ≡ 13
  always_13 store h past call =
      ap (λ (state : State). number_of (answer_to state (lent (run S M store h) past) call))
      (heads S M store h ∙ refused_state (length (begin S M store).rooms) h)
      ∙ empty_answers (lent (run S M store h) past) call
