-- A history with changes of form strewn in follows the same calls without them, 02 E7: the states are equal, and the rooms keep the same places.
-- Assumes nothing.
use mathlib.Core.Path.{◌≡◌, refl, sym, ◌∙◌, ap, ap₂}
use mathlib.Core.Bool.{Bool, true, false, cond, not, true≢false}
use mathlib.Core.List.{List, [], ◌∷◌, ◌++◌, map}
use Prim.Native.Nat.{ℕ, ◌*◌, ◌≤◌, ◌<◌}
use native.Mathlib.Nat.{mul-le-mul_left}
use native.Mathlib.Decide.{dec_lt}
use native.Mathlib.Omega.{arith}
use lib.Dec.{eqb, ltb}
use lib.ListN.{length, take, length-map, length-take}
use lib.Seq.{take_all}
use borrow.Author.Tests.{eqb-true, ltb-false, lt-ltb, le-ltb}
use Rattle.refusals.proofs.Refusals.{passed, listed}
use Rattle.slots.specs.declared.State.{State}
use Rattle.slots.specs.State.{room_length, store_length}
use Rattle.slots.specs.Calls.{new_outcome, read_output, streams_output}
use Rattle.packing.specs.Packing.{in_two_bits}
use Rattle.packing.specs.Change.{bad_blocks, change_number, blocks_rule, bytes_rule}
use Rattle.packing.specs.Store.{places_a_byte, bytes_a_block, places_in, in_form}
use Rattle.packing.proofs.Stores.{places_are}
use Rattle.history.specs.Calls.{Call, Made, History}
use Rattle.history.specs.Run.{World, lent, outcome_of, store_after_call, step, begin, run}
use Rattle.history.proofs.State.{length_after, shape_stays, rooms_long_lem}
use Rattle.forms.specs.Calls.{outcome_in, store_after_in, read_output_in, streams_output_in}
use Rattle.forms.specs.Change.{room_in, rooms_changed, rooms_number}
use Rattle.forms.specs.Run.{Event, calling, changing, FormWorld, store_in, lent_in, called, changed, same, step_in, begin_in, run_in, without_changes}
use Rattle.forms.proofs.TwoBits.{list_twice}
use Rattle.forms.proofs.Lists.{map_take}
use Rattle.forms.proofs.Calls.{outcome_two, read_output_two, streams_output_two}
use Rattle.forms.proofs.Places.{places_append, places_take, kept_in, form_places}
use Rattle.forms.proofs.Rooms.{rooms_places}
use Rattle.forms.proofs.Past.{with_past, front, past_two, front_two}

-- the places are those of the rooms, or those with values above 3 become 2
pub data Carried (places rooms : List ℕ) : Type 0 where
  as_they_were : places ≡ rooms → Carried places rooms
  in_two_bits_lem : places ≡ map in_two_bits rooms → Carried places rooms

pub record Follows (w : FormWorld) (v : World) : Type 0 where
  pub state : w.state ≡ v.state
  pub rooms : Carried (places_in w.four w.rooms) v.rooms

-- ---- the lengths

store_places : (four : Bool) (state : State) → places_a_byte four * store_in four state ≡ store_length state
unfolding places_a_byte store_in room_in bytes_a_block store_length room_length
store_places true state = omega arith
store_places false state = omega arith

-- a length in bytes is below another where the places are
as_places : (four : Bool) (a b : ℕ) → ltb (places_a_byte four * a) (places_a_byte four * b) ≡ ltb a b
unfolding places_a_byte
as_places four a b = elim (dec_lt a b) [
  | yes h ↦ rw (lt-ltb a b h) (lt-ltb _ _ (less four h))
  | no h ↦ let l : b ≤ a = omega arith in rw (le-ltb a b l) (le-ltb _ _ (mul-le-mul_left (places_a_byte four) l))
]
  where
    less : (four : Bool) → a < b → places_a_byte four * a < places_a_byte four * b
    less true h = omega arith
    less false h = omega arith

-- the store that is lent, as places
lent_places : (w : FormWorld) (past : List ℕ) → places_in w.four (lent_in w past) ≡ with_past w.state (places_in w.four w.rooms) (places_in w.four past)
unfolding lent_in
lent_places w past =
    go (ltb (length w.rooms) (store_in w.four w.state))
    ∙ ap (λ (b : Bool). cond b (places_in w.four w.rooms) (places_in w.four w.rooms ++ places_in w.four past))
    (sym (as_places w.four (length w.rooms) (store_in w.four w.state))
    ∙ ap₂ ltb (sym (places_are w.four w.rooms)) (store_places w.four w.state))
  where
    go : (b : Bool) → places_in w.four (cond b w.rooms (w.rooms ++ past)) ≡ cond b (places_in w.four w.rooms) (places_in w.four w.rooms ++ places_in w.four past)
    go true = refl
    go false = places_append w.four w.rooms past

-- a history's rooms are no more than the state's
rooms_fit : (S M : ℕ) (store : List ℕ) (h : History) → length (run S M store h).rooms ≤ store_length (run S M store h).state
unfolding begin store_length
rooms_fit S M store h =
    let shape = shape_stays S M store h in
    rw (rooms_long_lem S M store h, shape.slots, shape.blocks) (rw (length-take _ store) (omega arith))

-- ---- a call

-- the places after a call
called_places : (w : FormWorld) (m : Made)
    → places_in w.four (called w m).rooms ≡ kept_in w.four (front w.state (places_in w.four w.rooms) (places_in w.four m.past) m.call)
unfolding called store_after_in
called_places w m =
    places_take w.four (length w.rooms) (in_form w.four after)
    ∙ ap₂ take (sym (places_are w.four w.rooms)) (form_places w.four (length (lent_in w m.past)) after whole)
    ∙ kept_take w.four (length (places_in w.four w.rooms)) after
    ∙ ap (λ (l : List ℕ). kept_in w.four (take (length (places_in w.four w.rooms)) (store_after_call w.state l m.call))) (lent_places w m.past)
  where
    after : List ℕ
    after = store_after_call w.state (places_in w.four (lent_in w m.past)) m.call

    whole : length after ≡ places_a_byte w.four * length (lent_in w m.past)
    whole = length_after w.state _ m.call ∙ places_are w.four (lent_in w m.past)

    kept_take : (four : Bool) (n : ℕ) (l : List ℕ) → take n (kept_in four l) ≡ kept_in four (take n l)
    kept_take true n l = sym (map_take in_two_bits n l)
    kept_take false n l = refl

-- what a form keeps of places that were carried
kept_carried : (four : Bool) {places rooms : List ℕ} → Carried places rooms → Carried (kept_in four places) rooms
kept_carried true (as_they_were e) = in_two_bits_lem (ap (map in_two_bits) e)
kept_carried true {rooms = rooms} (in_two_bits_lem e) = in_two_bits_lem (ap (map in_two_bits) e ∙ list_twice rooms)
kept_carried false c = c

module _ (w : FormWorld) (v : World) (follows : Follows w v) (past : List ℕ) where
  -- what is lent means the same
  lent_alike : map in_two_bits (places_in w.four (lent_in w past)) ≡ map in_two_bits (lent v (places_in w.four past))
  unfolding lent
  lent_alike =
      ap (map in_two_bits) (lent_places w past)
      ∙ ap (λ (s : State). map in_two_bits (with_past s (places_in w.four w.rooms) (places_in w.four past))) follows.state
      ∙ go follows.rooms
    where
      go : Carried (places_in w.four w.rooms) v.rooms
          → map in_two_bits (with_past v.state (places_in w.four w.rooms) (places_in w.four past)) ≡ map in_two_bits (with_past v.state v.rooms (places_in w.four past))
      go (as_they_were e) = ap (λ (l : List ℕ). map in_two_bits (with_past v.state l (places_in w.four past))) e
      go (in_two_bits_lem e) = ap (λ (l : List ℕ). map in_two_bits (with_past v.state l (places_in w.four past))) e ∙ past_two v.state v.rooms (places_in w.four past)

  pub long_follows : length (places_in w.four (lent_in w past)) ≡ length (lent v (places_in w.four past))
  long_follows = sym (length-map (places_in w.four (lent_in w past)) in_two_bits) ∙ ap length lent_alike ∙ length-map (lent v (places_in w.four past)) in_two_bits

  -- so whatever says the same of a store with values above 3 become 2 says the same of both
  alike : {B : Type 0} (f : State → List ℕ → B) → ((state : State) (store : List ℕ) → f state (map in_two_bits store) ≡ f state store)
      → f w.state (places_in w.four (lent_in w past)) ≡ f v.state (lent v (places_in w.four past))
  alike f law =
      ap (λ (s : State). f s (places_in w.four (lent_in w past))) follows.state
      ∙ sym (law v.state (places_in w.four (lent_in w past)))
      ∙ ap (f v.state) lent_alike
      ∙ law v.state (lent v (places_in w.four past))

  -- the answer and the state of a call, and the outputs
  pub outcome_follows : (call : Call) → outcome_in w.four w.state (lent_in w past) call ≡ outcome_of v.state (lent v (places_in w.four past)) call
  unfolding outcome_in
  outcome_follows call = alike (λ (s : State) (l : List ℕ). outcome_of s l call) (λ s l. outcome_two s l call)

  pub read_follows : (slot terminal : ℕ) (out : List ℕ)
      → read_output_in w.four w.state (lent_in w past) slot terminal out ≡ read_output v.state (lent v (places_in w.four past)) slot terminal out
  unfolding read_output_in
  read_follows slot terminal out = alike (λ (s : State) (l : List ℕ). read_output s l slot terminal out) (λ s l. read_output_two s l slot terminal out)

  pub streams_follows : (slot terminal r : ℕ) (out : List ℕ)
      → streams_output_in w.four w.state (lent_in w past) slot terminal r out ≡ streams_output v.state (lent v (places_in w.four past)) slot terminal r out
  unfolding streams_output_in
  streams_follows slot terminal r out = alike (λ (s : State) (l : List ℕ). streams_output s l slot terminal r out) (λ s l. streams_output_two s l slot terminal r out)

  -- the rooms
  called_carried : (call : Call) → length v.rooms ≤ store_length v.state
      → Carried (places_in w.four (called w (record { call = call; past = past })).rooms) (step v (record { call = call; past = places_in w.four past })).rooms
  unfolding step lent
  called_carried call fits =
      rw (called_places w (record { call = call; past = past }), follows.state) (kept_carried w.four (go follows.rooms))
    where
      after : List ℕ → List ℕ
      after rooms = front v.state rooms (places_in w.four past) call

      go : Carried (places_in w.four w.rooms) v.rooms → Carried (after (places_in w.four w.rooms)) (after v.rooms)
      go (as_they_were e) = as_they_were (ap after e)
      go (in_two_bits_lem e) = in_two_bits_lem (ap after e ∙ front_two v.state v.rooms (places_in w.four past) fits call)

  pub call_follows : (call : Call) → length v.rooms ≤ store_length v.state
      → Follows (called w (record { call = call; past = past })) (step v (record { call = call; past = places_in w.four past }))
  unfolding called step
  call_follows call fits = record {
    state = ap (λ o. o.state) (outcome_follows call);
    rooms = called_carried call fits;
  }

-- ---- a change

other_form : (four was : Bool) → same four was ≡ false → was ≡ not four
unfolding same
other_form true true e = absurd (true≢false e)
other_form true false e = refl
other_form false true e = refl
other_form false false e = absurd (true≢false e)

-- the rooms are no more than the state's
all_rooms : (w : FormWorld) (v : World) → Follows w v → length v.rooms ≤ store_length v.state → length w.rooms ≤ store_in w.four w.state
all_rooms w v follows fits =
    ltb-false (store_in w.four w.state) (length w.rooms)
    (sym (as_places w.four (store_in w.four w.state) (length w.rooms))
    ∙ le-ltb (places_a_byte w.four * store_in w.four w.state) (places_a_byte w.four * length w.rooms) places_fit)
  where
    as_long : {places rooms : List ℕ} → Carried places rooms → length places ≡ length rooms
    as_long (as_they_were e) = ap length e
    as_long {rooms = rooms} (in_two_bits_lem e) = ap length e ∙ length-map rooms in_two_bits

    places_fit : places_a_byte w.four * length w.rooms ≤ places_a_byte w.four * store_in w.four w.state
    places_fit = rw (← places_are w.four w.rooms, store_places w.four w.state, follows.state, as_long follows.rooms) fits

change_follows : (four : Bool) (w : FormWorld) (v : World) (to : List ℕ) → w.four ≡ not four → Follows w v → length v.rooms ≤ store_length v.state → Follows (changed four w to) v
unfolding changed rooms_number change_number store_in
change_follows four w v to other follows fits = go (eqb number 0) refl
  where
    M : ℕ
    M = w.state.blocks

    S : ℕ
    S = w.state.slots

    number : ℕ
    number = change_number M (length w.rooms) (length to) (S * room_in (not four) M) (S * room_in four M)

    new : FormWorld
    new = record { state = w.state; four = four; rooms = take (S * room_in four M) (rooms_changed four M S w.rooms to) }

    go : (b : Bool) → eqb number 0 ≡ b → Follows (cond b new w) v
    go true e = record { state = follows.state; rooms = rw places (kept_carried four (rw other at follows.rooms)) }
      where
        told : (bad_blocks M ≡ false) × (S * room_in (not four) M ≤ length w.rooms) × (S * room_in four M ≤ length to)
        told =
            let clear = passed _ refl (eqb-true number 0 e) tt in (
              clear (blocks_rule M) (search listed),
              ltb-false (length w.rooms) (S * room_in (not four) M) (clear (bytes_rule (S * room_in (not four) M) (length w.rooms)) (search listed)),
              ltb-false (length to) (S * room_in four M) (clear (bytes_rule (S * room_in four M) (length to)) (search listed)),
            )

        all : length w.rooms ≤ S * room_in (not four) M
        all = rw other at (all_rooms w v follows fits)

        places : places_in four (take (S * room_in four M) (rooms_changed four M S w.rooms to)) ≡ kept_in four (places_in (not four) w.rooms)
        places =
            rooms_places M told.0 four S w.rooms to told.1 told.2
            ∙ ap (λ (l : List ℕ). kept_in four (places_in (not four) l)) (take_all (S * room_in (not four) M) w.rooms all)
    go false e = follows

changing_follows : (four : Bool) (w : FormWorld) (v : World) (to : List ℕ) → Follows w v → length v.rooms ≤ store_length v.state → Follows (step_in w (changing four to)) v
unfolding step_in
changing_follows four w v to follows fits = go (same four w.four) refl
  where
    go : (b : Bool) → same four w.four ≡ b → Follows (cond b w (changed four w to)) v
    go true e = follows
    go false e = change_follows four w v to (other_form four w.four e) follows fits

-- ---- a history

-- THE theorem on histories: any S and M, any store in either form, any calls and changes
pub follows : (four : Bool) (S M : ℕ) (store : List ℕ) (es : List Event)
    → Follows (run_in four S M store es) (run S M (places_in four store) (without_changes four S M store es))
unfolding run_in begin_in run begin without_changes step_in
follows four S M store [] = record {
  state = refl;
  rooms = as_they_were (places_take four (store_in four state) store ∙ ap (λ (n : ℕ). take n (places_in four store)) (store_places four state));
}
  where
    state : State
    state = (new_outcome S M).state
follows four S M store (calling m ∷ es) =
    call_follows (run_in four S M store es) (run S M (places_in four store) (without_changes four S M store es)) (follows four S M store es) m.past m.call
    (rooms_fit S M (places_in four store) (without_changes four S M store es))
follows four S M store (changing form to ∷ es) =
    changing_follows form (run_in four S M store es) (run S M (places_in four store) (without_changes four S M store es)) to (follows four S M store es)
    (rooms_fit S M (places_in four store) (without_changes four S M store es))
