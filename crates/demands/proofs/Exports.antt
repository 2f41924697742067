-- Demand 1 for the exports and for packed stores: a refused call leaves the state's bytes, the store and the count as they were, New as 01 says.
-- The exports' other answers and bytes are those of the calls that their contracts cite (face), so that page Answers speaks of them too.
-- Assumes nothing.
use mathlib.Core.Path.{◌≡◌, refl, ap}
use mathlib.Core.Bool.{Bool}
use mathlib.Core.List.{List, [], ◌++◌}
use Prim.Native.Nat.{ℕ, ◌≤◌, ◌<◌}
use lib.ListN.{length, drop, get_or, replicate, length-replicate}
use borrow.Author.Tests.{lt-ltb, le-ltb, ne_eqb}
use Rattle.laws.specs.Bits.{EachBelow}
use Rattle.slots.specs.Outcome.{Answer}
use Rattle.slots.specs.declared.State.{State}
use Rattle.slots.specs.Outcome.{Outcome}
use Rattle.slots.specs.State.{new_state}
use Rattle.slots.specs.Answers.{number_of, values_of}
use Rattle.slots.proofs.Refused as refusing
use Rattle.packing.specs.Store.{places_in}
use Rattle.history.specs.Links.{uplink, downlink, opening_outcome, opening_store}
use Rattle.history.specs.Calls.{Call, opening, receiving, reading, streaming, closing}
use Rattle.history.specs.Run.{outcome_of, store_after_call}
use Rattle.forms.specs.Calls.{outcome_in, store_after_in}
use Rattle.forms.proofs.Calls.{left_alone}
use Rattle.segmentation.specs.Sizes as sizes
use Rattle.state_bytes.specs.Numbers.{in_bytes}
use Rattle.face.specs.Face.{sizes_number, sizes_bytes}
use Rattle.state_bytes.specs.StateBytes.{state_bytes, bytes_after, new_number, new_bytes, value_of}

-- ---- the state's bytes and the count

-- Open and Close: refused, they leave the state's bytes as they were.
pub bytes_refused : (outcome : Outcome) (slot : ℕ) (bytes : List ℕ) → (number_of outcome.answer ≡ 0 → ⊥) → bytes_after outcome slot bytes ≡ bytes
unfolding bytes_after
bytes_refused outcome slot bytes h = rw (ne_eqb (number_of outcome.answer) 0 h)

-- New into too few bytes is 5 and writes nothing; refused with 13 it writes 01's state of S = 0 and M = 0.
pub new_short : (S M : ℕ) (bytes : List ℕ) → length bytes < 272 → (new_number S M (length bytes) ≡ 5) × (new_bytes S M bytes ≡ bytes)
unfolding new_number new_bytes
new_short S M bytes h = (rw (lt-ltb (length bytes) 272 h), rw (lt-ltb (length bytes) 272 h))

pub new_bytes_refused : (S M : ℕ) (bytes : List ℕ) → 272 ≤ length bytes → (new_number S M (length bytes) ≡ 0 → ⊥)
    → new_bytes S M bytes ≡ state_bytes (new_state 0 0) ++ drop 272 bytes
unfolding new_number new_bytes
new_bytes_refused S M bytes long h =
    let n = refusing.new_refused S M (rw (le-ltb (length bytes) 272 long) at h) in
    rw (le-ltb (length bytes) 272 long) (ap (λ (s : State). state_bytes s ++ drop 272 bytes) n)

-- Sizes, refused, leaves the output as it was.
pub sizes_bytes_refused : (A : ℕ) (out : List ℕ) → (sizes_number A (length out) ≡ 0 → ⊥) → sizes_bytes A out ≡ out
unfolding sizes_bytes
sizes_bytes_refused A out h = rw (ne_eqb (sizes_number A (length out)) 0 h)

-- Accepted, it writes the six numbers, four bytes each.
pub sizes_bytes_written : (A : ℕ) (out : List ℕ) → sizes_number A (length out) ≡ 0 → sizes_bytes A out ≡ in_bytes 4 (sizes.values_of (sizes.sizes_answer A)) ++ drop 24 out
unfolding sizes_bytes
sizes_bytes_written A out e = rw e

-- The count is written for an answer that brings a number alone.
pub count_kept : (answer : Answer) (before : ℕ) → values_of answer ≡ [] → value_of answer before ≡ before
unfolding value_of
count_kept answer before none = ap (λ (l : List ℕ). get_or l 0 before) none

-- ---- a store in either form

-- A refused call on a store with a place a byte, or four, returns the state given and leaves every byte of the store.
same_places : (state : State) (places : List ℕ) (call : Call) → (number_of (outcome_of state places call).answer ≡ 0 → ⊥)
    → ((outcome_of state places call).state ≡ state) × (store_after_call state places call ≡ places)
unfolding outcome_of store_after_call opening_outcome opening_store
same_places state places (opening uplink slot terminal A) h = refusing.open_refused state slot terminal A places h
same_places state places (opening (downlink release k_mimo processes Nsoft layers) slot terminal A) h =
    refusing.open_down_refused state slot terminal A release k_mimo processes Nsoft layers places h
same_places state places (receiving slot terminal r) h = refusing.receive_refused state slot terminal r.Q r.N r.version r.bits places h
same_places state places (reading slot terminal size) h =
    let out : List ℕ = replicate {A = ℕ} size 0 in
    (rw (length-replicate {A = ℕ} size 0) at (refusing.read_refused state slot terminal places out (rw (length-replicate {A = ℕ} size 0) h)).0, refl)
same_places state places (streaming slot terminal block size) h =
    let out : List ℕ = replicate {A = ℕ} size 0 in
    (rw (length-replicate {A = ℕ} size 0) at (refusing.streams_refused state slot terminal block places out (rw (length-replicate {A = ℕ} size 0) h)).0, refl)
same_places state places (closing slot terminal) h = (refusing.close_refused state slot terminal h, refl)

pub form_refused : (four : Bool) (state : State) (store : List ℕ) (call : Call) → EachBelow 256 store → (number_of (outcome_in four state store call).answer ≡ 0 → ⊥)
    → ((outcome_in four state store call).state ≡ state) × (store_after_in four state store call ≡ store)
unfolding outcome_in
form_refused four state store call bytes h =
    let same = same_places state (places_in four store) call h in
    (same.0, left_alone four state store call bytes same.1)
