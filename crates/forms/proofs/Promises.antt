-- Demand 3 in either form and across changes of form, 02 E7, in one place: each promise with all its premises.
-- four, S, M, store₀ and es are any form, any numbers, any bytes and any history with changes of every room strewn in; what these are, specs/ says.
-- Assumes nothing.
use mathlib.Core.Path.{◌≡◌, refl, sym, ◌∙◌, ap, ap₂, subst}
use mathlib.Core.Bool.{Bool, true, false, cond}
use mathlib.Core.List.{List, ◌++◌}
use Prim.Native.Nat.{ℕ, ◌*◌, ◌<◌}
use lib.Dec.{eqb}
use lib.ListN.{length, drop}
use borrow.Author.Tests.{ne_eqb}
use Rattle.laws.specs.Bits.{AreBits}
use Rattle.slots.specs.Outcome.{Done}
use Rattle.slots.specs.declared.State.{State}
use Rattle.slots.specs.State.{head_at}
use Rattle.slots.specs.Answers.{Lacking}
use Rattle.slots.specs.Calls.{size_at_head, share_at_head, read_number, read_output, streams_output}
use Rattle.packing.specs.Packing.{packed}
use Rattle.packing.specs.Store.{places_in}
use Rattle.history.specs.Calls.{Reception, Call, reading, History}
use Rattle.history.specs.Run.{outcome_of, store_after_call}
use Rattle.history.specs.Holds.{Holds}
use Rattle.history.specs.Sent.{AllTrue, unsent}
use Rattle.history.specs.After.{state_after, store_after, rooms_long}
use Rattle.history.proofs.Arrived.{since_bits}
use Rattle.history.proofs.Promises as demand
use Rattle.forms.specs.Calls.{outcome_in, store_after_in, read_output_in, streams_output_in}
use Rattle.forms.specs.Change.{rooms_number}
use Rattle.forms.specs.Run.{Event, changing, FormWorld, changed, same, step_in, without_changes}
use Rattle.forms.specs.After.{state_then, form_then, places_then, store_then, accepted_then}
use Rattle.forms.proofs.Calls as calls
use Rattle.forms.proofs.Held.{held_carried}
use Rattle.forms.proofs.Follows.{long_follows, outcome_follows, read_follows, streams_follows, follows}

-- ---- single calls

-- A call on the packed store answers as the plain call does, with the same state, and leaves the packed form of what the plain call leaves.
-- Any state, any call, any places that fill n bytes.
pub packed_call : (state : State) (n : ℕ) (store : List ℕ) → length store ≡ 4 * n → (call : Call)
    → (outcome_in true state (packed n store) call ≡ outcome_of state store call)
    × (store_after_in true state (packed n store) call ≡ packed n (store_after_call state store call))
packed_call state n store whole call = (calls.packed_outcome state n store whole call, calls.packed_store state n store whole call)

-- Read and Streams write the same bytes.
pub packed_outputs : (state : State) (n : ℕ) (store : List ℕ) → length store ≡ 4 * n → (slot terminal r : ℕ) (out : List ℕ)
    → (read_output_in true state (packed n store) slot terminal out ≡ read_output state store slot terminal out)
    × (streams_output_in true state (packed n store) slot terminal r out ≡ streams_output state store slot terminal r out)
packed_outputs state n store whole slot terminal r out =
    (calls.packed_read state n store whole slot terminal out, calls.packed_streams state n store whole slot terminal r out)

-- ---- a change of form

module _ (four : Bool) (w : FormWorld) (to : List ℕ) where
  -- that it is refused, for 13 and then for 5
  abbrev number : ℕ
  number = rooms_number four w.state.blocks w.state.slots (length w.rooms) (length to)

  -- A change that is not refused leaves the store in that form.
  pub form_after_lem : number ≡ 0 → (step_in w (changing four to)).four ≡ four
  unfolding step_in changed same
  form_after_lem none = go four w.four refl refl
    where
      go : (t u : Bool) → four ≡ t → w.four ≡ u → (cond (same t u) w (changed four w to)).four ≡ t
      go true true e f = f
      go false false e f = f
      go true false e f = rw none e
      go false true e f = rw none e

  -- A refused one leaves everything.
  pub form_kept : (number ≡ 0 → ⊥) → step_in w (changing four to) ≡ w
  unfolding step_in changed
  form_kept h = go (same four w.four)
    where
      go : (b : Bool) → cond b w (changed four w to) ≡ w
      go true = refl
      go false = rw (ne_eqb number 0 h)

-- ---- histories

module _ (four : Bool) (S M : ℕ) (store₀ : List ℕ) (es : List Event) where
  -- the same calls without the changes, on rooms of one place a byte
  abbrev plain : History
  plain = without_changes four S M store₀ es

  abbrev places₀ : List ℕ
  places₀ = places_in four store₀

  -- The state is that of the same calls without the changes.
  pub state_same : state_then four S M store₀ es ≡ state_after S M places₀ plain
  state_same = (follows four S M store₀ es).state

  -- So is the outcome of any further call, and what Read and Streams write.
  pub outcome_same : (past : List ℕ) (call : Call)
      → outcome_in (form_then four S M store₀ es) (state_then four S M store₀ es) (store_then four S M store₀ es past) call
      ≡ outcome_of (state_after S M places₀ plain) (store_after S M places₀ plain (places_in (form_then four S M store₀ es) past)) call
  outcome_same past call = outcome_follows _ _ (follows four S M store₀ es) past call

  pub outputs_same : (past : List ℕ) (slot terminal r : ℕ) (out : List ℕ)
      → let store : List ℕ = store_then four S M store₀ es past in
      let twin : List ℕ = store_after S M places₀ plain (places_in (form_then four S M store₀ es) past) in
      (read_output_in (form_then four S M store₀ es) (state_then four S M store₀ es) store slot terminal out ≡ read_output (state_after S M places₀ plain) twin slot terminal out)
      × (streams_output_in (form_then four S M store₀ es) (state_then four S M store₀ es) store slot terminal r out ≡ streams_output (state_after S M places₀ plain) twin slot terminal r out)
  outputs_same past slot terminal r out =
      (read_follows _ _ (follows four S M store₀ es) past slot terminal out, streams_follows _ _ (follows four S M store₀ es) past slot terminal r out)

  -- What a place holds: as in demand 3, from the accepted receptions of the calls alone, whatever changes came between.
  pub place_holds : (slot : ℕ) → slot < S → (head_at (state_then four S M store₀ es) slot).opened ≡ true
      → let state : State = state_then four S M store₀ es in
      Holds (share_at_head state slot) M slot (size_at_head state slot) (accepted_then four S M store₀ es slot) (places_then four S M store₀ es)
  place_holds slot below is_open =
      rw state_same
      (held_carried (share_at_head (state_after S M places₀ plain) slot) M slot (size_at_head (state_after S M places₀ plain) slot) (accepted_then four S M store₀ es slot) (since_bits S M (rooms_long S M places₀) slot plain)
      (follows four S M store₀ es).rooms
      (demand.place_holds S M places₀ plain slot below (rw state_same at is_open)))

  -- When a block is released: as in demand 3.
  pub block_released : (past : List ℕ) (slot terminal : ℕ) (a : List ℕ)
      → let state : State = state_then four S M store₀ es in
      let form : Bool = form_then four S M store₀ es in
      let store : List ℕ = store_then four S M store₀ es past in
      let accepted : List Reception = accepted_then four S M store₀ es slot in
      let soft : ℕ = share_at_head state slot in
      AreBits a
      → size_at_head state slot ≡ length a
      → AllTrue soft a accepted
      → (out : List ℕ)
      → read_number state (length (places_in form store)) slot terminal (length out) ≡ 0
      → (outcome_in form state store (reading slot terminal (length out))
      ≡ record { answer = cond (eqb (unsent soft (length a) accepted) 0) Done (Lacking (unsent soft (length a) accepted)); state = state })
      × (read_output_in form state store slot terminal out ≡ cond (eqb (unsent soft (length a) accepted) 0) (a ++ drop (length a) out) out)
  unfolding outcome_of
  block_released past slot terminal a bits size_is true_all out came =
      let accepted : List Reception = accepted_then four S M store₀ es slot in
      let soft_same : share_at_head (state_then four S M store₀ es) slot ≡ share_at_head (state_after S M places₀ plain) slot = ap (λ (s : State). share_at_head s slot) state_same in
      let count_same : unsent (share_at_head (state_after S M places₀ plain) slot) (length a) accepted ≡ unsent (share_at_head (state_then four S M store₀ es) slot) (length a) accepted =
      ap (λ (n : ℕ). unsent n (length a) accepted) (sym soft_same) in
      let twin = demand.block_released S M places₀ plain (places_in (form_then four S M store₀ es) past) slot terminal a bits
      (sym (ap (λ (s : State). size_at_head s slot) state_same) ∙ size_is)
      (subst (λ (n : ℕ). AllTrue n a accepted) soft_same true_all)
      out
      (sym (ap₂ (λ (s : State) (n : ℕ). read_number s n slot terminal (length out)) state_same (long_follows _ _ (follows four S M store₀ es) past)) ∙ came) in (
        outcome_same past (reading slot terminal (length out))
            ∙ twin.0
            ∙ ap₂ (λ (s : State) (n : ℕ). record { answer = cond (eqb n 0) Done (Lacking n); state = s }) (sym state_same) count_same,
        (outputs_same past slot terminal 0 out).0 ∙ twin.1 ∙ ap (λ (n : ℕ). cond (eqb n 0) (a ++ drop (length a) out) out) count_same,
      )
