-- A call on a store with values above 3 become 2 answers as before and leaves what it leaves, with that change; and so a call on the packed store is the
-- packed result of the plain call, 02 E7: answer, state, store and outputs, for every call, every state and every store.
-- Assumes nothing.
use mathlib.Core.Path.{◌≡◌, refl, ◌∙◌, ap, ap₂}
use mathlib.Core.Bool.{Bool, true, false, cond}
use mathlib.Core.List.{List, ◌++◌, map}
use Prim.Native.Nat.{ℕ, ◌+◌, ◌*◌, ◌/◌}
use native.Mathlib.Omega.{arith}
use lib.Dec.{eqb}
use lib.ListN.{length, drop, length-map}
use borrow.Author.Tests.{eqb-true}
use Rattle.laws.specs.Bits.{EachBelow}
use Rattle.laws.proofs.Tab.{tab_ext}
use Rattle.segmentation.specs.Segmentation.{size_of}
use Rattle.segmentation.specs.Sizes.{bad_size}
use Rattle.slots.specs.Outcome.{StillLacking, Refused}
use Rattle.slots.specs.Outcome.{Outcome}
use Rattle.slots.specs.declared.State.{State}
use Rattle.slots.specs.Answers.{is_done, unless_refused}
use Rattle.slots.specs.Room.{room_at}
use Rattle.slots.specs.Reading.{lacking, heard_answer, heard_block, three_streams}
use Rattle.slots.specs.Calls.{size_at_head, receive_number, receive_outcome, receive_store, read_number, read_outcome, released, read_output, streams_number, streams_outcome, streams_output}
use Rattle.slots.proofs.HeadLaws.{open_size}
use Rattle.slots.proofs.Acceptance.{reads}
use Rattle.packing.specs.Packing.{in_two_bits, four_in, packed_at, packed, unpacked}
use Rattle.packing.specs.Store.{places_in, in_form}
use Rattle.packing.proofs.Forms.{length_packed, there_and_back}
use Rattle.packing.proofs.Stores.{form_back}
use Rattle.history.specs.Links.{opening_outcome}
use Rattle.history.specs.Calls.{Call, opening, receiving, reading, streaming, closing}
use Rattle.history.specs.Run.{outcome_of, store_after_call}
use Rattle.history.proofs.State.{length_after}
use Rattle.forms.specs.Calls.{outcome_in, store_after_in, read_output_in, streams_output_in}
use Rattle.forms.proofs.TwoBits.{twice, get_or_two, room_two}
use Rattle.forms.proofs.Readings.{lacking_two, streams_two, answer_two, given_two}
use Rattle.forms.proofs.Writings.{open_two, receive_two}

-- the same number, and where it is 0 the same outcome
same_outcome : (number number' : ℕ) (state : State) (o o' : Outcome) → number ≡ number' → (number' ≡ 0 → o ≡ o')
    → unless_refused number state o ≡ unless_refused number' state o'
unfolding unless_refused
same_outcome number number' state o o' e f = rw e (go (eqb number' 0) refl)
  where
    go : (b : Bool) → eqb number' 0 ≡ b → cond b o (record { answer = Refused number'; state = state }) ≡ cond b o' (record { answer = Refused number'; state = state })
    go true t = f (eqb-true number' 0 t)
    go false t = refl

module _ (state : State) (store : List ℕ) where
  -- the store with that change
  abbrev two : List ℕ
  two = map in_two_bits store

  -- a slot's room in the store
  abbrev room : ℕ → List ℕ
  room slot = room_at state.blocks slot store

  long : length two ≡ length store
  long = length-map store in_two_bits

  -- the A of a slot that is read is in range
  size_good : (slot terminal size : ℕ) → read_number state (length store) slot terminal size ≡ 0 → bad_size (size_at_head state slot) ≡ false
  size_good slot terminal size z =
      let a = reads state (length store) slot terminal size z in
      (open_size state a.sound slot a.below a.opened).0

  read_two : (slot terminal size : ℕ) → read_outcome state two slot terminal size ≡ read_outcome state store slot terminal size
  unfolding read_outcome
  read_two slot terminal size =
      same_outcome _ _ state _ _ (ap (λ (n : ℕ). read_number state n slot terminal size) long)
      (λ z. ap (λ x. record { answer = x; state = state }) (ap (heard_answer (size_at_head state slot)) (room_two state.blocks slot store) ∙ answer_two (room slot) (size_at_head state slot) (size_good slot terminal size z)))

  received_two : (slot terminal Q N v : ℕ) (bits : List ℕ) → receive_outcome state slot terminal Q N v bits two ≡ receive_outcome state slot terminal Q N v bits store
  unfolding receive_outcome
  received_two slot terminal Q N v bits =
      same_outcome _ _ state _ _ (ap (λ (n : ℕ). receive_number state n slot terminal Q N v bits) long)
      (λ z. ap (λ (n : ℕ). record { answer = StillLacking n; state = state })
      (ap (λ (l : List ℕ). lacking (size_at_head state slot) (room_at state.blocks slot l)) (receive_two state store slot terminal Q N v bits)
      ∙ ap (lacking (size_at_head state slot)) (room_two state.blocks slot (receive_store state slot terminal Q N v bits store))
      ∙ lacking_two (room_at state.blocks slot (receive_store state slot terminal Q N v bits store)) (size_at_head state slot)))

  -- the answer and the state
  pub outcome_two : (call : Call) → outcome_of state two call ≡ outcome_of state store call
  unfolding outcome_of
  outcome_two (opening link slot terminal A) = ap (λ (n : ℕ). opening_outcome link state n slot terminal A) long
  outcome_two (receiving slot terminal x) = received_two slot terminal x.Q x.N x.version x.bits
  outcome_two (reading slot terminal size) = read_two slot terminal size
  outcome_two (streaming slot terminal block size) = ap (λ (n : ℕ). streams_outcome state n slot terminal block size) long
  outcome_two (closing slot terminal) = refl

  -- the store
  pub store_two : (call : Call) → store_after_call state two call ≡ map in_two_bits (store_after_call state store call)
  unfolding store_after_call
  store_two (opening link slot terminal A) = open_two state store slot link A
  store_two (receiving slot terminal x) = receive_two state store slot terminal x.Q x.N x.version x.bits
  store_two (reading slot terminal size) = refl
  store_two (streaming slot terminal block size) = refl
  store_two (closing slot terminal) = refl

  -- the outputs
  pub read_output_two : (slot terminal : ℕ) (out : List ℕ) → read_output state two slot terminal out ≡ read_output state store slot terminal out
  unfolding read_output released read_outcome unless_refused is_done
  read_output_two slot terminal out = rw (length-map store in_two_bits, room_two state.blocks slot store) (go (eqb number 0) refl)
    where
      number : ℕ
      number = read_number state (length store) slot terminal (length out)

      written : List ℕ → Bool → List ℕ
      written l b =
          cond
          (is_done
          (cond {A = Outcome} b (record { answer = heard_answer (size_at_head state slot) l; state = state }) (record { answer = Refused number; state = state })).answer)
          (heard_block (size_at_head state slot) l ++ drop (size_at_head state slot) out)
          out

      go : (b : Bool) → eqb number 0 ≡ b → written (map in_two_bits (room slot)) b ≡ written (room slot) b
      go true z = given_two (room slot) (size_at_head state slot) (size_good slot terminal (length out) (eqb-true number 0 z)) (drop (size_at_head state slot) out) out
      go false z = refl

  pub streams_output_two : (slot terminal r : ℕ) (out : List ℕ) → streams_output state two slot terminal r out ≡ streams_output state store slot terminal r out
  unfolding streams_output
  streams_output_two slot terminal r out =
      ap₂ (λ (n : ℕ) (l : List ℕ). cond (eqb (streams_number state n slot terminal r (length out)) 0) (l ++ drop (3 * (size_of (size_at_head state slot + 24) r + 4)) out) out)
      long
      (ap (λ (l : List ℕ). three_streams (size_at_head state slot + 24) l r) (room_two state.blocks slot store) ∙ streams_two (room slot) (size_at_head state slot + 24) r)

-- ---- the packed store

-- packing makes that change itself
packed_two : (n : ℕ) (places : List ℕ) → packed n (map in_two_bits places) ≡ packed n places
unfolding packed packed_at four_in
packed_two n places = tab_ext n _ _ (λ i h. simp (get_or_two places, twice))

places_packed : (n : ℕ) (store : List ℕ) → length store ≡ 4 * n → places_in true (packed n store) ≡ map in_two_bits store
unfolding places_in
places_packed n store e = ap (λ (m : ℕ). unpacked m (packed n store)) (length_packed n store) ∙ there_and_back n store e

-- a call that leaves the places leaves the bytes
pub left_alone : (four : Bool) (state : State) (store : List ℕ) (call : Call) → EachBelow 256 store → store_after_call state (places_in four store) call ≡ places_in four store
    → store_after_in four state store call ≡ store
unfolding store_after_in
left_alone four state store call bytes e = ap (in_form four) e ∙ form_back four store bytes

-- THE theorem on single calls: any state, any places that fill whole bytes, any call
module _ (state : State) (n : ℕ) (store : List ℕ) (whole : length store ≡ 4 * n) where
  pub packed_outcome : (call : Call) → outcome_in true state (packed n store) call ≡ outcome_of state store call
  unfolding outcome_in
  packed_outcome call = ap (λ (l : List ℕ). outcome_of state l call) (places_packed n store whole) ∙ outcome_two state store call

  pub packed_store : (call : Call) → store_after_in true state (packed n store) call ≡ packed n (store_after_call state store call)
  unfolding store_after_in in_form
  packed_store call =
      ap (λ (l : List ℕ). in_form true l) (ap (λ (l : List ℕ). store_after_call state l call) (places_packed n store whole) ∙ store_two state store call)
      ∙ ap (λ (m : ℕ). packed m (map in_two_bits after)) quarter
      ∙ packed_two n after
    where
      after : List ℕ
      after = store_after_call state store call

      quarter : length (map in_two_bits after) / 4 ≡ n
      quarter = rw (length-map after in_two_bits, length_after state store call, whole) (omega arith)

  pub packed_read : (slot terminal : ℕ) (out : List ℕ) → read_output_in true state (packed n store) slot terminal out ≡ read_output state store slot terminal out
  unfolding read_output_in
  packed_read slot terminal out =
      ap (λ (l : List ℕ). read_output state l slot terminal out) (places_packed n store whole) ∙ read_output_two state store slot terminal out

  pub packed_streams : (slot terminal r : ℕ) (out : List ℕ) → streams_output_in true state (packed n store) slot terminal r out ≡ streams_output state store slot terminal r out
  unfolding streams_output_in
  packed_streams slot terminal r out =
      ap (λ (l : List ℕ). streams_output state l slot terminal r out) (places_packed n store whole) ∙ streams_output_two state store slot terminal r out
