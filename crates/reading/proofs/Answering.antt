-- The call Read of 01, from what its parts tell: the refusals in order, what their absence tells, and the outcome with the output.
-- Assumes nothing.
use mathlib.Core.Path.{◌≡◌, refl, sym, ◌∙◌, ap}
use mathlib.Core.Bool.{true, false}
use mathlib.Core.List.{List, [], ◌∷◌, ◌++◌}
use Prim.Native.Nat.{ℕ, ◌+◌, ◌-◌, ◌*◌, ◌≤◌}
use lib.Dec.{eqb, ltb}
use lib.ListN.{length}
use borrow.Author.Tests.{ltb-false}
use borrow.Rule.Slice.PartMut.{mid_of}
use Rattle.std.specs.declared.result.Result.TheVariants.{Ok, Err}
use Rattle.refusals.specs.declared.Refusal.{Refusal}
use Rattle.refusals.specs.Refusals.{Rule, rule, number_of}
use Rattle.refusals.proofs.Refusals.{passed, listed}
use Rattle.segmentation.specs.Sizes.{bad_size}
use Rattle.segmentation.proofs.Segmentation.{good_size}
use Rattle.slots.specs.declared.Head.{Head}
use Rattle.slots.specs.declared.State.{State}
use Rattle.slots.specs.Outcome.{Answer, Refused, Outcome}
use Rattle.slots.specs.State.{per_block, room_length, room_start, head_at}
use Rattle.slots.specs.Room.{room_at}
use Rattle.slots.specs.Answers.{is_done, unless_refused}
use Rattle.codeword.specs.Build.{output_rule}
use Rattle.slots.specs.Calls.{store_rules, owner_rules, size_at_head, read_number, read_outcome, released, read_output}
use Rattle.slots.specs.Reading.{heard_answer, heard_block}
use Rattle.slots.proofs.Accepted.{Fitting, Stored, stored, owned}
use Rattle.slot_calls.specs.Owner.{admitted_by}
use Rattle.slot_calls.proofs.OwnerParts.{owned_number, owner_refused}
use Rattle.slot_calls.proofs.Rules.{Settled, failed_all, passed_all}
use Rattle.reading.specs.inner.Room.{room_fits, room_output}
use Rattle.reading.proofs.Lent.{answer_lent, block_lent, room_fits_lem}

pub fitting_good : {M A : ℕ} → Fitting M A → bad_size A ≡ false
fitting_good {M} {A} w = good_size A w.size_some w.size_most

-- ---- the owner's rules, and those that are asked after them

module _ (state : State) (room slot terminal : ℕ) where
  pub refused_first : (r : Refusal) (ss : List Rule) → Err r ≡ admitted_by state room slot terminal
      → Settled (number_of r) ((store_rules state room slot ++ owner_rules state slot terminal) ++ ss)
  unfolding store_rules owner_rules
  refused_first r ss e = failed_all (store_rules state room slot ++ owner_rules state slot terminal) r ss tt (owner_refused state room slot terminal e)

  pub passed_first : {head : Head} {m : ℕ} {ss : List Rule} → Ok head ≡ admitted_by state room slot terminal → Settled m ss
      → Settled m ((store_rules state room slot ++ owner_rules state slot terminal) ++ ss)
  unfolding store_rules owner_rules
  passed_first e w = passed_all (store_rules state room slot ++ owner_rules state slot terminal) tt (owned_number state room slot terminal e) w

-- ---- Read

-- over the store's and the owner's rules, then over 5 (output)
pub read_told : (state : State) (room slot terminal size : ℕ) {head : Head} {n : ℕ} → head ≡ head_at state slot
    → Settled n ((store_rules state room slot ++ owner_rules state slot terminal) ++ (rule (ltb size head.size) 5 ∷ [])) → n ≡ read_number state room slot terminal size
unfolding read_number store_rules owner_rules size_at_head
read_told state room slot terminal size h w = rw h at w.is

-- the call was not refused before the room, and its head was found
pub record Reading (state : State) (store : List ℕ) (slot terminal : ℕ) (out : List ℕ) (n : ℕ) (head : Head) : Type 0 where
  pub number : n ≡ read_number state (length store) slot terminal (length out)
  pub zero : n ≡ 0
  pub found : head ≡ head_at state slot

-- a refused one
pub read_refused : (state : State) (store : List ℕ) (slot terminal : ℕ) (out : List ℕ) {n : ℕ}
    → n ≡ read_number state (length store) slot terminal (length out) → eqb n 0 ≡ false
    → (Refused n ≡ (read_outcome state store slot terminal (length out)).answer) × (out ≡ read_output state store slot terminal out)
unfolding read_outcome unless_refused read_output released is_done
read_refused state store slot terminal out e h = (rw (← e, h), rw (← e, h))

-- one that comes to the room: what `read_room` gives for it is what the call gives
module _ {state : State} {store : List ℕ} {slot terminal : ℕ} {out : List ℕ} {n : ℕ} {head : Head} (w : Reading state store slot terminal out n head) where
  -- 5 (output) is the last rule
  last : List Rule
  last = rule (ltb (length out) (size_at_head state slot)) 5 ∷ []

  pub slot_stored : Stored state (length store) slot
  unfolding read_number store_rules owner_rules last
  slot_stored = stored state (length store) slot (owner_rules state slot terminal ++ last) w.number w.zero tt

  size_fits : Fitting state.blocks (size_at_head state slot)
  unfolding read_number store_rules owner_rules last
  size_fits = (owned state (length store) slot terminal last w.number w.zero tt).size_fits

  enough : size_at_head state slot ≤ length out
  unfolding read_number store_rules owner_rules
  enough = ltb-false (length out) (size_at_head state slot) (passed _ w.number w.zero tt (output_rule (size_at_head state slot) (length out)) (search listed))

  abbrev from : ℕ
  from = slot * (state.blocks * per_block)

  abbrev long : ℕ
  long = state.blocks * per_block

  abbrev room : List ℕ
  room = mid_of from (from + long - from) store

  pub room_within : from + long ≤ length store
  unfolding room_start room_length
  room_within = slot_stored.within

  pub read_room_needs : (room_fits head.size (length room) ≡ true) × (head.size ≤ length out)
  unfolding room_start room_length size_at_head
  read_room_needs = rw w.found (room_fits_lem state.blocks slot (size_at_head state slot) store (fitting_good (size_fits)) size_fits.few refl refl room_within, enough)

  good : bad_size (size_at_head state slot) ≡ false
  good = fitting_good (size_fits)

  answers : heard_answer (size_at_head state slot) room ≡ heard_answer (size_at_head state slot) (room_at state.blocks slot store)
  unfolding room_start room_length
  answers = answer_lent state.blocks slot (size_at_head state slot) store good size_fits.few refl refl

  block : heard_block (size_at_head state slot) room ≡ heard_block (size_at_head state slot) (room_at state.blocks slot store)
  unfolding room_start room_length
  block = block_lent state.blocks slot (size_at_head state slot) store good size_fits.few refl refl

  size_is : head.size ≡ size_at_head state slot
  unfolding size_at_head
  size_is = ap (λ (x : Head). x.size) w.found

  outcome : read_outcome state store slot terminal (length out) ≡ record { answer = heard_answer (size_at_head state slot) (room_at state.blocks slot store); state = state }
  unfolding read_outcome unless_refused
  outcome = rw (← w.number, w.zero)

  pub answer_told : {answer : Answer} → answer ≡ heard_answer head.size room → answer ≡ (read_outcome state store slot terminal (length out)).answer
  answer_told a = a ∙ (rw (size_is, answers)) ∙ ap (λ (o : Outcome). o.answer) (sym outcome)

  pub output_told : {out' : List ℕ} → out' ≡ room_output head.size room out → out' ≡ read_output state store slot terminal out
  unfolding read_output released room_output
  output_told o = o ∙ rw (size_is, answers, block, outcome)
