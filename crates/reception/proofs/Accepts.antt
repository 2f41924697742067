-- What an accepted Receive of 01 may go on, on a store of either form (02 E7): the slot's room lies in the store and has the block's code blocks.
-- And what it is to answer and to store.
-- Assumes nothing.
use mathlib.Core.Path.{◌≡◌, refl, sym, ◌∙◌, ap, subst}
use mathlib.Core.Bool.{Bool, true, false}
use mathlib.Core.List.{List, ◌++◌}
use Prim.Native.Nat.{ℕ}
use native.Mathlib.Nat.{mul-le-mul_right}
use native.Mathlib.Omega.{arith}
use lib.Dec.{eqb}
use lib.ListN.{length}
use borrow.Author.Tests.{ltb-false}
use Rattle.std.specs.Prelude.{IfOk}
use Rattle.std.specs.declared.result.Result.{Result}
use Rattle.std.specs.declared.result.Result.TheVariants.{Ok, Err}
use Rattle.laws.specs.Bits.{EachBelow}
use Rattle.refusals.specs.declared.Refusal.{Refusal}
use Rattle.refusals.specs.Refusals.{number_of, first_of}
use Rattle.refusals.proofs.Numbers.{refusal_ne0}
use Rattle.segmentation.proofs.Segmentation.{good_size}
use Rattle.codeword.specs.declared.Grant.{Grant}
use Rattle.codeword.specs.Shares.{grant}
use Rattle.codeword.specs.Build.{bad_version, bad_bits}
use Rattle.codeword.proofs.Accepted.{given_bits}
use Rattle.slots.specs.declared.Head.{Head}
use Rattle.slots.specs.declared.State.{State}
use Rattle.slots.specs.Outcome.{Answer, StillLacking, Refused}
use Rattle.slots.specs.State.{per_block, room_length}
use Rattle.slots.specs.Room.{agreeing, room_at, with_room}
use Rattle.slots.specs.Reception.{received}
use Rattle.slots.specs.Reading.{lacking}
use Rattle.slots.specs.Answers.{unless_refused}
use Rattle.slots.specs.Calls.{store_rules, owner_rules, size_at_head, share_at_head, receive_number, receive_store, receive_outcome}
use Rattle.slots.proofs.Acceptance.{receives}
use Rattle.slots.proofs.Accepted.{good, room_within}
use Rattle.packing.specs.Store.{places_in, in_form, places_asked}
use Rattle.packing.proofs.Stores.{form_back, asked_enough}
use Rattle.slot_calls.specs.Owner.{admitted_by}
use Rattle.slot_calls.proofs.OwnerParts.{owned_head}
use Rattle.slot_calls.proofs.Rules.{Settled, known}
use Rattle.reading.proofs.Answering.{refused_first, passed_first}
use Rattle.reception.specs.inner.Parts.{grant_rules, places_by, answer_by, store_by, InSlot}

-- ---- number 0

pub in_slot : (state : State) {long slot : ℕ} (terminal : ℕ) {Q N v : ℕ} {bits : List ℕ} {size soft number : ℕ} → number ≡ receive_number state long slot terminal Q N v bits → number ≡ 0
    → size ≡ size_at_head state slot → soft ≡ share_at_head state slot → InSlot state.blocks slot size soft (grant Q N v (length bits)) bits long
unfolding bad_version room_length
in_slot state {long} {slot} terminal {Q} {N} {v} {bits} told zero sized shared =
    let is = receives state long slot terminal Q N v bits (sym told ∙ zero) in
    let whole = good state is.sound in
    let head = whole.fits slot is.below is.opened in
    rw (sized, shared) record {
      slots_few = omega (arith, is.below, whole.shape.slots_most);
      blocks_few = whole.shape.blocks_most;
      accepted = record {
        size = good_size (size_at_head state slot) head.size_some head.size_most;
        wide = whole.wide slot is.below is.opened;
        allocation = is.allocation;
        version = ltb-false 3 v is.version;
        whole = refl;
        given = given_bits bits is.given;
        fits = mul-le-mul_right per_block head.few;
      };
      within = omega (arith, is.long, room_within state is.below);
    }

-- ---- the answer and the store, of a store of either form

-- what is answered and stored by what the owner's rules gave
module _ (four : Bool) {owner : Result Head Refusal} (bad : Bool) (M slot : ℕ) (g : Grant) (bits store : List ℕ) where
  pub owner_refused_by : (refusal : Refusal) → owner ≡ Err refusal
      → (Refused (number_of refusal) ≡ answer_by owner bad M slot g bits (places_in four store)) × (store ≡ store_by four owner bad M slot g bits store)
  unfolding answer_by store_by
  owner_refused_by refusal e = rw e (refl, refl)

  module _ (head : Head) (e : owner ≡ Ok head) where
    pub refused_by : (refusal : Refusal) → number_of refusal ≡ first_of (grant_rules head.size g bad)
        → (Refused (number_of refusal) ≡ answer_by owner bad M slot g bits (places_in four store)) × (store ≡ store_by four owner bad M slot g bits store)
    unfolding answer_by store_by
    refused_by refusal n = rw e (rw (← n, refusal_ne0 refusal), rw (← n, refusal_ne0 refusal))

    pub put_by : ◌≡◌ {A = ℕ} 0 (first_of (grant_rules head.size g bad)) → {count : ℕ} (store' : List ℕ) → EachBelow 256 store'
        → places_in four store' ≡ with_room M slot (received agreeing head.share head.size g bits (room_at M slot (places_in four store))) (places_in four store)
        → count ≡ lacking head.size (room_at M slot (places_in four store'))
        → (StillLacking count ≡ answer_by owner bad M slot g bits (places_in four store)) × (store' ≡ store_by four owner bad M slot g bits store)
    unfolding answer_by store_by places_by
    put_by zero store' below put counted = rw e (
      rw (← zero) (ap StillLacking (counted ∙ ap (λ (l : List ℕ). lacking head.size (room_at M slot l)) put)),
      rw (← zero) (sym (form_back four store' below) ∙ ap (in_form four) put),
    )

-- by the rules of the state and the store
module _ (four : Bool) (state : State) (slot terminal Q N v : ℕ) (bits store : List ℕ) {asked : ℕ} (a : asked ≡ places_asked four (length store)) {bad : Bool} (b : bad ≡ bad_bits bits) where
  abbrev number : ℕ
  number = receive_number state (length (places_in four store)) slot terminal Q N v bits

  -- the rules of the grant and its bits come after the owner's
  numbered : {n size : ℕ} → size ≡ size_at_head state slot
      → Settled n ((store_rules state asked slot ++ owner_rules state slot terminal) ++ grant_rules size (grant Q N v (length bits)) bad) → n ≡ number
  unfolding receive_number store_rules owner_rules grant_rules
  numbered s w =
      (rw (s, b, a) at w.is)
      ∙ asked_enough four state store slot (owner_rules state slot terminal ++ grant_rules (size_at_head state slot) (grant Q N v (length bits)) (bad_bits bits))

  -- by what the owner's rules gave
  module _ (refusal : Refusal) (e : Err refusal ≡ admitted_by state asked slot terminal) where
    refused_is : number_of refusal ≡ number
    refused_is = numbered refl (refused_first state asked slot terminal refusal (grant_rules (size_at_head state slot) (grant Q N v (length bits)) bad) e)

    refused_ne0 : eqb number 0 ≡ false
    refused_ne0 = ap (λ (n : ℕ). eqb n 0) (sym refused_is) ∙ refusal_ne0 refusal

  module _ (head : Head) (e : Ok head ≡ admitted_by state asked slot terminal) where
    sized : head.size ≡ size_at_head state slot
    unfolding size_at_head
    sized = ap (λ (h : Head). h.size) (owned_head state asked slot terminal e)

    shared : head.share ≡ share_at_head state slot
    unfolding share_at_head
    shared = ap (λ (h : Head). h.share) (owned_head state asked slot terminal e)

    number_is : first_of (grant_rules head.size (grant Q N v (length bits)) bad) ≡ number
    number_is = numbered sized (passed_first state asked slot terminal e (known refl))

    -- number 0 says that the slot's room lies within the store and has the block's code blocks
    ready : first_of (grant_rules head.size (grant Q N v (length bits)) bad) ≡ 0
        → InSlot state.blocks slot head.size head.share (grant Q N v (length bits)) bits (length (places_in four store))
    ready zero = in_slot state terminal number_is zero sized shared

    places_are : eqb number 0 ≡ true → places_by head state.blocks slot (grant Q N v (length bits)) bits (places_in four store) ≡ receive_store state slot terminal Q N v bits (places_in four store)
    unfolding places_by receive_store
    places_are z = rw (z, sized, shared) refl

  abbrev Ready : Result Head Refusal → Type 0
  Ready o = IfOk o (λ head. first_of (grant_rules head.size (grant Q N v (length bits)) bad) ≡ 0
      → InSlot state.blocks slot head.size head.share (grant Q N v (length bits)) bits (length (places_in four store)))

  pub by_ready : {o : Result Head Refusal} → o ≡ admitted_by state asked slot terminal → Ready o
  by_ready {o} e = go o e
    where
      go : (o : Result Head Refusal) → o ≡ admitted_by state asked slot terminal → Ready o
      go (Ok head) e = ready head e
      go (Err refusal) e = tt

  stays : eqb number 0 ≡ false → places_in four store ≡ receive_store state slot terminal Q N v bits (places_in four store)
  unfolding receive_store
  stays z = rw z refl

  pub by_answer : {o : Result Head Refusal} → o ≡ admitted_by state asked slot terminal → {answer : Answer}
      → answer ≡ answer_by o bad state.blocks slot (grant Q N v (length bits)) bits (places_in four store) → answer ≡ (receive_outcome state slot terminal Q N v bits (places_in four store)).answer
  unfolding answer_by receive_outcome unless_refused
  by_answer {o} e {answer} h = go o e h
    where
      Told : Type 0
      Told = answer ≡ (receive_outcome state slot terminal Q N v bits (places_in four store)).answer

      by_number : (head : Head) → Ok head ≡ admitted_by state asked slot terminal → (t : Bool) → eqb number 0 ≡ t
          → answer ≡ answer_by (Ok head) bad state.blocks slot (grant Q N v (length bits)) bits (places_in four store) → Told
      by_number head e true z h = h ∙ (rw (number_is head e, z, places_are head e z, sized head e) refl)
      by_number head e false z h = h ∙ (rw (number_is head e, z) refl)

      go : (o : Result Head Refusal) → o ≡ admitted_by state asked slot terminal
          → answer ≡ answer_by o bad state.blocks slot (grant Q N v (length bits)) bits (places_in four store) → Told
      go (Ok head) e h = by_number head e (eqb number 0) refl h
      go (Err refusal) e h = h ∙ (rw (refused_is refusal e, refused_ne0 refusal e) refl)

  pub by_store : {o : Result Head Refusal} → o ≡ admitted_by state asked slot terminal → {store' : List ℕ} → EachBelow 256 store'
      → store' ≡ store_by four o bad state.blocks slot (grant Q N v (length bits)) bits store → store' ≡ in_form four (receive_store state slot terminal Q N v bits (places_in four store))
  unfolding store_by
  by_store {o} e {store'} below h = go o e h
    where
      Stored : Type 0
      Stored = store' ≡ in_form four (receive_store state slot terminal Q N v bits (places_in four store))

      kept : store' ≡ store → eqb number 0 ≡ false → Stored
      kept same z = same ∙ sym (form_back four store (subst (EachBelow 256) same below)) ∙ ap (in_form four) (stays z)

      by_number : (head : Head) → Ok head ≡ admitted_by state asked slot terminal → (t : Bool) → eqb number 0 ≡ t
          → store' ≡ store_by four (Ok head) bad state.blocks slot (grant Q N v (length bits)) bits store → Stored
      by_number head e true z h = h ∙ (rw (number_is head e, z) (ap (in_form four) (places_are head e z)))
      by_number head e false z h = kept (h ∙ (rw (number_is head e, z) refl)) z

      go : (o : Result Head Refusal) → o ≡ admitted_by state asked slot terminal
          → store' ≡ store_by four o bad state.blocks slot (grant Q N v (length bits)) bits store → Stored
      go (Ok head) e h = by_number head e (eqb number 0) refl h
      go (Err refusal) e h = kept h (refused_ne0 refusal e)
