-- The call Streams of 01, from what its parts tell: the refusals in order, what their absence tells, and the outcome with the output.
-- Assumes nothing.
use mathlib.Core.Path.{◌≡◌, refl, ◌∙◌, ap}
use mathlib.Core.Bool.{false, cond, not}
use mathlib.Core.List.{List, [], ◌∷◌, ◌++◌}
use Prim.Native.Nat.{ℕ, ◌+◌, ◌*◌, ◌≤◌, ◌<◌}
use native.Mathlib.Nat.{mul-le-mul_left, mul-le-mul_right}
use native.Mathlib.Omega.{arith}
use native.Mathlib.Decide.{dec_le}
use lib.Dec.{eqb, leb, ltb}
use lib.ListN.{length, drop}
use borrow.Author.Tests.{le-leb, lt-leb, le-ltb, lt-ltb, ltb-true, ltb-false, not-false}
use Rattle.std.specs.declared.result.Result.TheVariants.{Ok}
use Rattle.refusals.specs.Refusals.{Rule, rule}
use Rattle.refusals.proofs.Refusals.{passed, listed}
use Rattle.segmentation.specs.declared.Segments.{Segments}
use Rattle.segmentation.specs.Segmentation.{blocks, size_of, filler_of}
use Rattle.segmentation.specs.Sizes.{segments_for}
use Rattle.slots.specs.declared.Head.{Head}
use Rattle.slots.specs.declared.State.{State}
use Rattle.slots.specs.Outcome.{Answer, Done, Refused, Outcome}
use Rattle.slots.specs.State.{per_block, room_length, room_start, head_at}
use Rattle.slots.specs.Room.{circle_at}
use Rattle.slots.specs.Circle.{streams_on}
use Rattle.slots.specs.Answers.{unless_refused}
use Rattle.codeword.specs.Build.{output_rule}
use Rattle.slots.specs.Calls.{code_block_rule, store_rules, owner_rules, size_at_head, streams_number, streams_outcome, streams_output}
use Rattle.slots.specs.Reading.{three_streams}
use Rattle.slots.proofs.Accepted.{Fitting, Stored, stored, owned, served}
use Rattle.slot_calls.specs.Owner.{admitted_by}
use Rattle.slot_calls.proofs.OwnerParts.{owned_number, owned_head}
use Rattle.slot_calls.proofs.Rules.{Settled}
use Rattle.kept_bits.specs.inner.Rows.{Stretch}
use Rattle.reading.proofs.Blocks.{streams, filler_below, stretch, blocks_told, size_told, filler_told}
use Rattle.reading.proofs.Lent.{circle_in_store}
use Rattle.reading.proofs.Answering.{fitting_good}
use Rattle.reading.proofs.Kept.{kept, beside}

-- 14 and 5 (output), for streams of so many places
abbrev pub stream_rules : ℕ → ℕ → ℕ → ℕ → List Rule
stream_rules C r size D = rule (leb C r) 14 ∷ rule (ltb size (3 * D)) 5 ∷ []

absent : (C r : ℕ) → leb C r ≡ not (ltb r C)
absent C r = elim (dec_le C r) [ yes h ↦ rw (le-leb C r h, le-ltb r C h) | no h ↦ rw (lt-leb C r (omega arith), lt-ltb r C (omega arith)) ]

-- over the store's and the owner's rules, then over 14 and 5 (output)
pub streams_told_number : (state : State) (room slot terminal r size : ℕ) {n C D : ℕ} → C ≡ blocks (size_at_head state slot + 24) → D ≡ size_of (size_at_head state slot + 24) r + 4
    → Settled n ((store_rules state room slot ++ owner_rules state slot terminal) ++ stream_rules C r size D) → n ≡ streams_number state room slot terminal r size
unfolding streams_number store_rules owner_rules
streams_told_number state room slot terminal r size c d w = rw (c, d, absent (blocks (size_at_head state slot + 24)) r) at w.is

-- the owner's rules found nothing: the segmentation of the slot's block
module _ (state : State) (room slot terminal r : ℕ) {head : Head} {s : Segments} (served_lem : Ok head ≡ admitted_by state room slot terminal) (told : s ≡ segments_for head.size) where
  fits_owner : Fitting state.blocks (size_at_head state slot)
  fits_owner = (served state room slot terminal (owned_number state room slot terminal served_lem) refl).1.size_fits

  told_size : s ≡ segments_for (size_at_head state slot)
  unfolding size_at_head
  told_size = told ∙ ap (λ (x : Head). segments_for x.size) (owned_head state room slot terminal served_lem)

  pub found_blocks : s.blocks ≡ blocks (size_at_head state slot + 24)
  found_blocks = blocks_told (size_at_head state slot) told_size (fitting_good fits_owner)

  module _ {k : ℕ} (size_is : k ≡ cond (ltb r s.shorts) s.short s.long) where
    pub found_size : k ≡ size_of (size_at_head state slot + 24) r
    found_size = size_is ∙ size_told (size_at_head state slot) r told_size (fitting_good fits_owner)

    pub found_most : k ≤ 6144
    found_most = omega (arith, found_size, (streams (size_at_head state slot) (fitting_good fits_owner) r).most)

-- a refused one
pub streams_refused : (state : State) (store : List ℕ) (slot terminal r : ℕ) (out : List ℕ) {n : ℕ}
    → n ≡ streams_number state (length store) slot terminal r (length out) → eqb n 0 ≡ false
    → (Refused n ≡ (streams_outcome state (length store) slot terminal r (length out)).answer) × (out ≡ streams_output state store slot terminal r out)
unfolding streams_outcome unless_refused streams_output
streams_refused state store slot terminal r out e h = (rw (← e, h), rw (← e, h))

-- a call that keeps the state: its outcome is its answer beside the state as it came
pub streams_kept : (state : State) (lent slot terminal r size : ℕ) {answer : Answer} → answer ≡ (streams_outcome state lent slot terminal r size).answer
    → ◌≡◌ {A = Outcome} (record { answer = answer; state = state }) (streams_outcome state lent slot terminal r size)
unfolding streams_outcome
streams_kept state lent slot terminal r size e = beside e ∙ kept _ state _

-- the call was not refused, and its head and segmentation were found
pub record Streaming (state : State) (store : List ℕ) (slot terminal r : ℕ) (out : List ℕ) (n : ℕ) (head : Head) (s : Segments) : Type 0 where
  pub number : n ≡ streams_number state (length store) slot terminal r (length out)
  pub zero : n ≡ 0
  pub found : head ≡ head_at state slot
  pub told : s ≡ segments_for head.size

module _ {state : State} {store : List ℕ} {slot terminal r : ℕ} {out : List ℕ} {n : ℕ} {head : Head} {s : Segments} (w : Streaming state store slot terminal r out n head s) where
  abbrev A : ℕ
  A = size_at_head state slot

  -- 14 and 5 (output) are the last rules
  lasts : List Rule
  lasts = code_block_rule (A + 24) r ∷ output_rule (3 * (size_of (A + 24) r + 4)) (length out) ∷ []

  store_is : Stored state (length store) slot
  unfolding streams_number store_rules owner_rules lasts
  store_is = stored state (length store) slot (owner_rules state slot terminal ++ lasts) w.number w.zero tt

  fits : Fitting state.blocks A
  unfolding streams_number store_rules owner_rules lasts
  fits = (owned state (length store) slot terminal lasts w.number w.zero tt).size_fits

  below : r < blocks (A + 24)
  unfolding streams_number store_rules owner_rules
  below = ltb-true r (blocks (A + 24)) (not-false (ltb r (blocks (A + 24))) (passed _ w.number w.zero tt (code_block_rule (A + 24) r) (search listed)))

  ample : 3 * (size_of (A + 24) r + 4) ≤ length out
  unfolding streams_number store_rules owner_rules
  ample = ltb-false (length out) (3 * (size_of (A + 24) r + 4)) (passed _ w.number w.zero tt (output_rule (3 * (size_of (A + 24) r + 4)) (length out)) (search listed))

  told_is : s ≡ segments_for A
  unfolding size_at_head
  told_is = w.told ∙ ap (λ (x : Head). segments_for x.size) w.found

  -- the circle of the code block lies in the store
  pub circle_within : (slot * state.blocks + r) * per_block + per_block ≤ length store
  unfolding room_start room_length
  circle_within = omega (arith, store_is.within, mul-le-mul_right per_block below, mul-le-mul_right per_block fits.few)

  -- there are few circles
  pub index_few : slot * state.blocks + r ≤ 40
  index_few =
      let shape = store_is.state_good.shape in
      omega (arith, store_is.present, shape.slots_most, shape.blocks_most, below, fits.few, mul-le-mul_left slot shape.blocks_most)

  module _ {k : ℕ} (size : k ≡ cond (ltb r s.shorts) s.short s.long) where
    k_is : k ≡ size_of (A + 24) r
    k_is = size ∙ size_told A r told_is (fitting_good fits)

    module _ {f : ℕ} (filled : f ≡ cond (eqb r 0) s.filler 0) where
      f_is : f ≡ filler_of (A + 24) r
      f_is = filled ∙ filler_told A r told_is (fitting_good fits)

      pub three_needs : (f ≤ k + 4) × (3 * (k + 4) ≤ length out) × Stretch per_block (k + 4) 2 0 (k + 4)
      three_needs = rw (k_is, f_is) (
        omega (arith, filler_below A (fitting_good fits) r),
        ample,
        stretch A (fitting_good fits) r 2 0 (size_of (A + 24) r + 4) (omega arith) (omega arith) (omega arith) (omega arith),
      )

      pub streams_told : {out' : List ℕ} → out' ≡ streams_on (circle_at (slot * state.blocks + r) store) (k + 4) f ++ drop (3 * (k + 4)) out
          → (Done ≡ (streams_outcome state (length store) slot terminal r (length out)).answer) × (out' ≡ streams_output state store slot terminal r out)
      unfolding streams_outcome unless_refused streams_output three_streams
      streams_told o =
          (rw (← w.number, w.zero), rw (← w.number, w.zero) (o ∙ rw (k_is, f_is, circle_in_store state.blocks slot r store)))
