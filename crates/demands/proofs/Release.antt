-- Demand 3 in its literal words: after any history from New, for a slot below S that is open for a terminal and A, whatever the store held and whoever used it before.
-- The numbers and values are those of 01's definition of an answer's number and values. What a place holds is `place_holds` (history/proofs/Promises).
-- Assumes nothing.
use mathlib.Core.Path.{◌≡◌, sym, ◌∙◌, ap}
use mathlib.Core.Logic.{◌↔◌}
use mathlib.Core.Bool.{Bool, true, false, cond}
use mathlib.Core.List.{List, [], ◌∷◌, ◌++◌}
use Prim.Native.Nat.{ℕ, ◌≤◌, ◌<◌}
use native.Mathlib.Omega.{arith}
use lib.Dec.{eqb}
use lib.ListN.{length, drop}
use borrow.Author.Tests.{ne_eqb}
use Rattle.laws.specs.Bits.{AreBits}
use Rattle.slots.specs.Outcome.{Answer}
use Rattle.slots.specs.Outcome.{Done}
use Rattle.slots.specs.declared.State.{State}
use Rattle.slots.specs.Outcome.{Outcome}
use Rattle.slots.specs.Answers.{number_of, values_of, Lacking}
use Rattle.slots.specs.Calls.{size_at_head, share_at_head, receive_number, receive_outcome, read_number, read_outcome, read_output}
use Rattle.slots.proofs.Admitted.{read_admitted}
use Rattle.history.specs.Calls.{Reception, Call, History}
use Rattle.history.specs.Answered.{answer_to, slot_of}
use Rattle.history.specs.Sent.{AllTrue, AllSent, unsent, undecided}
use Rattle.history.specs.After.{state_after, store_after, accepted_after}
use Rattle.history.specs.Later.{opens_or_closes, restarts}
use Rattle.history.proofs.Restarts as restarting
use Rattle.history.proofs.DataPlaces.{none_unsent}
use Rattle.history.proofs.Promises.{block_released, at_once, reception_undecided, reading_undecided}
use Rattle.demands.specs.Lent.{OpenFor}
use Rattle.demands.proofs.Opened.{open_ready}

-- ---- reading

module _ (S M : ℕ) (store₀ : List ℕ) (h : History) (past : List ℕ) (slot terminal A : ℕ) (below : slot < S)
    (owner : OpenFor (state_after S M store₀ h) slot terminal A) (out : List ℕ) (enough : A ≤ length out) where
  abbrev state : State
  state = state_after S M store₀ h

  abbrev store : List ℕ
  store = store_after S M store₀ h past

  abbrev accepted : List Reception
  accepted = accepted_after S M store₀ h slot

  abbrev soft : ℕ
  soft = share_at_head state slot

  abbrev answer : Answer
  answer = (read_outcome state store slot terminal (length out)).answer

  size_at : size_at_head state slot ≡ A
  unfolding size_at_head
  size_at = owner.size_is

  -- a read by the terminal comes to the room
  comes : read_number state (length store) slot terminal (length out) ≡ 0
  comes =
      let ok = open_ready S M store₀ h slot owner.opened in
      read_admitted state (length store) slot ok.sound (ok.long past) (omega (arith, below, ok.slots)) terminal owner.opened owner.terminal_is (length out) (rw size_at enough)

  -- true transmissions of one block of the opened size, in any order and any redundancy versions
  module _ (a : List ℕ) (bits : AreBits a) (long : length a ≡ A) (true_all : AllTrue soft a accepted) where
    size_of_lem : size_at_head state slot ≡ length a
    size_of_lem = size_at ∙ sym long

    -- Together they have sent every data place: the read gives the block, over the front of the output.
    pub released_when_sent : AllSent soft A accepted → (number_of answer ≡ 0) × (read_output state store slot terminal out ≡ a ++ drop A out)
    unfolding number_of
    released_when_sent sent =
        let given = at_once S M store₀ h past slot terminal a bits size_of_lem true_all out (rw long sent) comes in
        (ap (λ (o : Outcome). number_of o.answer) given.0, given.1 ∙ ap (λ (n : ℕ). a ++ drop n out) long)

    -- They have not: the read gives 11 with the number of data places still lacking, and writes nothing.
    pub lacking_until_sent : (AllSent soft A accepted → ⊥)
        → (number_of answer ≡ 11) × (values_of answer ≡ unsent soft A accepted ∷ []) × (read_output state store slot terminal out ≡ out)
    unfolding number_of values_of
    lacking_until_sent not-sent =
        let n : ℕ = unsent soft (length a) accepted in
        let same : n ≡ unsent soft A accepted = ap (λ (k : ℕ). unsent soft k accepted) long in
        let some : eqb n 0 ≡ false = ne_eqb n 0 (λ e. not-sent (none_unsent soft A accepted (sym same ∙ e))) in
        let given = block_released S M store₀ h past slot terminal a bits size_of_lem true_all out comes in
        let answered : answer ≡ Lacking n =
        ap (λ (o : Outcome). o.answer) given.0 ∙ ap (λ (t : Bool). cond t Done (Lacking n)) some in
        (ap number_of answered, ap values_of answered ∙ ap (λ (k : ℕ). k ∷ []) same, given.1 ∙ ap (λ (t : Bool). cond t (a ++ drop (length a) out) out) some)

  -- Whatever was accepted, true transmissions or not: 11 brings the number of data places for which no bit was accepted since the opening, or different ones.
  pub lacking_counted : (undecided soft A accepted ≡ 0 → ⊥)
      → (number_of answer ≡ 11) × (values_of answer ≡ undecided soft A accepted ∷ []) × (read_output state store slot terminal out ≡ out)
  unfolding number_of values_of
  lacking_counted some =
      let same : undecided soft (size_at_head state slot) accepted ≡ undecided soft A accepted = ap (λ (k : ℕ). undecided soft k accepted) size_at in
      let w = reading_undecided S M store₀ h past slot terminal out comes (λ e. some (sym same ∙ e)) in
      let answered : answer ≡ Lacking (undecided soft (size_at_head state slot) accepted) = ap (λ (o : Outcome). o.answer) w.0 in
      (ap number_of answered, ap values_of answered ∙ ap (λ (k : ℕ). k ∷ []) same, w.1)

-- ---- receiving

-- Whatever was accepted before: an accepted reception brings that number, itself among what was accepted.
pub reception_counted : (S M : ℕ) (store₀ : List ℕ) (h : History) (past : List ℕ) (slot terminal A : ℕ) → OpenFor (state_after S M store₀ h) slot terminal A
    → (x : Reception)
    → let state : State = state_after S M store₀ h in
    let store : List ℕ = store_after S M store₀ h past in
    let answer : Answer = (receive_outcome state slot terminal x.Q x.N x.version x.bits store).answer in
    receive_number state (length store) slot terminal x.Q x.N x.version x.bits ≡ 0
    → (number_of answer ≡ 0) × (values_of answer ≡ undecided (share_at_head state slot) A (x ∷ accepted_after S M store₀ h slot) ∷ [])
unfolding number_of values_of size_at_head
reception_counted S M store₀ h past slot terminal A owner x number =
    let heard = reception_undecided S M store₀ h past slot terminal x number in (
      ap (λ (o : Outcome). number_of o.answer) heard,
      ap (λ (o : Outcome). values_of o.answer) heard
          ∙ ap (λ (k : ℕ). undecided (share_at_head (state_after S M store₀ h) slot) k (x ∷ accepted_after S M store₀ h slot) ∷ []) owner.size_is,
    )

-- ---- since that opening

-- What begins a slot's receptions anew is exactly a call that names this slot, is an Open or a Close, and is accepted.
pub restarts_exactly : (state : State) (store : List ℕ) (slot : ℕ) (call : Call)
    → (restarts state (length store) slot call ≡ true) ↔ ((slot_of call ≡ slot) × (opens_or_closes call ≡ true) × (number_of (answer_to state store call) ≡ 0))
restarts_exactly = restarting.restarts_exactly
