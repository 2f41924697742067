-- What an answer of Read tells of the checks, 02, E1: of a released block, of the code block that 16 names, and of 12. Any state, any store.
-- Assumes nothing.
use mathlib.Core.Path.{◌≡◌, refl, sym, ◌∙◌, ap, ap₂}
use mathlib.Core.Logic.{◌↔◌}
use mathlib.Core.Bool.{Bool, true, false, cond, not, ◌&&◌, true≢false}
use mathlib.Core.List.{List, [], ◌∷◌, ◌++◌}
use Prim.Native.Nat.{ℕ, ◌+◌, ◌-◌, ◌%◌, ◌≤◌, ◌<◌}
use native.Mathlib.Omega.{arith}
use lib.Dec.{eqb}
use lib.ListN.{length, take, drop, length-drop, take-append-drop}
use borrow.Author.Tests.{eqb-true, eqb-false, eq-eqb, ne_eqb, ltb-true, ltb-false, not-false, not-true}
use Rattle.laws.specs.Bits.{AreBits}
use Rattle.laws.proofs.AreBits.{drop_below}
use Rattle.check_bits.specs.CheckBits.{crc, g_crc24a, g_crc24b}
use Rattle.check_bits.proofs.Carried.{checked, carried}
use Rattle.segmentation.specs.Segmentation.{blocks}
use Rattle.segmentation.specs.CodeBlocks.{with_check}
use Rattle.segmentation.specs.Sizes.{bad_size}
use Rattle.slots.specs.Outcome.{Answer}
use Rattle.slots.specs.Outcome.{Done, Refused}
use Rattle.slots.specs.Outcome.{Outcome}
use Rattle.slots.specs.declared.State.{State}
use Rattle.slots.specs.Room.{room_at}
use Rattle.slots.specs.Answers.{number_of, values_of, Lacking, WrongBlock, is_done, unless_refused}
use Rattle.slots.specs.Reading.{lacking, heard_code_block, wrong_block, first_from, first_wrong, some_wrong, heard_sequence, wrong_check, heard_answer, heard_block}
use Rattle.slots.specs.Calls.{size_at_head, read_number, read_outcome, released, read_output}
use Rattle.slots.specs.Checks.{EndsInCheck, blocks_at, RightBlock, RightTransport}
use Rattle.slots.proofs.HeadLaws.{open_size}
use Rattle.slots.proofs.Acceptance.{reads}
use Rattle.slots.proofs.First.{first_from_before, first_from_at}
use Rattle.slots.proofs.HeardBits.{some_block, fits, length_heard_code_block, length_heard_sequence, code_block_bits, sequence_bits}

-- bits leave nothing exactly where the last 24 are the check bits of those before them
ends_in : (g : ℕ) → g % 2 ≡ 1 → (bits : List ℕ) → AreBits bits → 24 ≤ length bits → ((crc 24 g bits ≡ 0) ↔ EndsInCheck g bits)
ends_in g odd bits are long =
    rw (take-append-drop n bits) at (carried 24 g odd (take n bits) (drop n bits) (drop_below 2 n bits are) (length-drop n bits ∙ omega arith))
  where
    n : ℕ
    n = length bits - 24

-- ---- what a number tells

-- 11, 16, 12 by their tests: nothing lacks, a code block is wrong, the transport check is wrong
abbrev by_tests : Bool → Bool → Bool → ℕ
by_tests none some wrong = cond none (cond some 16 (cond wrong 12 0)) 11

only_0 : (n s w : Bool) → by_tests n s w ≡ 0 → (n ≡ true) × (s ≡ false) × (w ≡ false)
only_0 true false false e = (refl, refl, refl)
only_0 true false true e = absurd (omega arith)
only_0 true true w e = absurd (omega arith)
only_0 false s w e = absurd (omega arith)

only_16 : (n s w : Bool) → by_tests n s w ≡ 16 → (n ≡ true) × (s ≡ true)
only_16 true true w e = (refl, refl)
only_16 true false false e = absurd (omega arith)
only_16 true false true e = absurd (omega arith)
only_16 false s w e = absurd (omega arith)

only_12 : (n s w : Bool) → by_tests n s w ≡ 12 → (n ≡ true) × (s ≡ false) × (w ≡ true)
only_12 true false true e = (refl, refl, refl)
only_12 true false false e = absurd (omega arith)
only_12 true true w e = absurd (omega arith)
only_12 false s w e = absurd (omega arith)

-- ---- the room of a block of A bits, A in range

module _ (A : ℕ) (room : List ℕ) (good : bad_size A ≡ false) where
  number_is : number_of (heard_answer A room) ≡ by_tests (eqb (lacking A room) 0) (some_wrong A room) (wrong_check A room)
  unfolding heard_answer number_of
  number_is = go (eqb (lacking A room) 0) (some_wrong A room) (wrong_check A room)
    where
      go : (n s w : Bool)
          → number_of (cond n (cond s (WrongBlock (first_wrong A room)) (cond w (Refused 12) Done)) (Lacking (lacking A room))) ≡ by_tests n s w
      go true true w = refl
      go true false true = refl
      go true false false = refl
      go false s w = refl

  -- 0 is Done
  done : number_of (heard_answer A room) ≡ 0 → heard_answer A room ≡ Done
  unfolding heard_answer
  done e =
      let told = only_0 (eqb (lacking A room) 0) (some_wrong A room) (wrong_check A room) (sym number_is ∙ e) in
      ap₂ (λ (n s : Bool). cond n (cond s (WrongBlock (first_wrong A room)) (cond (wrong_check A room) (Refused 12) Done)) (Lacking (lacking A room)))
      told.0 told.1
      ∙ ap (λ (w : Bool). cond w (Refused 12) Done) told.2

  -- 16 comes with the first wrong code block
  named : eqb (lacking A room) 0 ≡ true → some_wrong A room ≡ true → heard_answer A room ≡ WrongBlock (first_wrong A room)
  unfolding heard_answer
  named n s =
      ap₂ (λ (n s : Bool). cond n (cond s (WrongBlock (first_wrong A room)) (cond (wrong_check A room) (Refused 12) Done)) (Lacking (lacking A room))) n s

  -- no data place lacks a bit
  module _ (none : eqb (lacking A room) 0 ≡ true) where
    leaves : (r : ℕ) → r < blocks (A + 24) → ((crc 24 g_crc24b (heard_code_block (A + 24) room r) ≡ 0) ↔ EndsInCheck g_crc24b (heard_code_block (A + 24) room r))
    leaves r h =
        ends_in g_crc24b refl (heard_code_block (A + 24) room r) (code_block_bits A room good (eqb-true _ 0 none) r h)
        (omega (arith, length_heard_code_block A room good r, fits A room good r))

    -- of several code blocks those before the first wrong one are right
    right_before : 1 < blocks (A + 24) → (r : ℕ) → r < blocks (A + 24) → r < first_wrong A room → EndsInCheck g_crc24b (heard_code_block (A + 24) room r)
    unfolding first_wrong wrong_block
    right_before more r h l =
        (leaves r h).0 (eqb-true _ 0 (not-false _ (go (eqb (blocks (A + 24)) 1) (ne_eqb (blocks (A + 24)) 1 (λ e. omega arith)) (first_from_before _ 0 (blocks (A + 24)) r (omega arith) l))))
      where
        go : (single : Bool) → single ≡ false → {t : Bool} → (not single && t) ≡ false → t ≡ false
        go false e h = h
        go true e h = absurd (true≢false e)

    -- and it is wrong itself, where there is one
    wrong_at : first_wrong A room < blocks (A + 24)
        → (1 < blocks (A + 24)) × (EndsInCheck g_crc24b (heard_code_block (A + 24) room (first_wrong A room)) → ⊥)
    unfolding first_wrong wrong_block
    wrong_at h = go (eqb (blocks (A + 24)) 1) refl (eqb (crc 24 g_crc24b (heard_code_block (A + 24) room r)) 0) refl (first_from_at (wrong_block (A + 24) room) 0 (blocks (A + 24)) (omega arith))
      where
        r : ℕ
        r = first_from (wrong_block (A + 24) room) 0 (blocks (A + 24))

        go : (single : Bool) → eqb (blocks (A + 24)) 1 ≡ single → (nothing : Bool) → eqb (crc 24 g_crc24b (heard_code_block (A + 24) room r)) 0 ≡ nothing
            → (not single && not nothing) ≡ true
            → (1 < blocks (A + 24)) × (EndsInCheck g_crc24b (heard_code_block (A + 24) room r) → ⊥)
        go false e false z t = (omega (arith, eqb-false (blocks (A + 24)) 1 e, some_block (A + 24)), λ c. eqb-false _ 0 z ((leaves r h).1 c))
        go false e true z t = absurd (true≢false (sym t))
        go true e nothing z t = absurd (true≢false (sym t))

    -- the transport check leaves nothing exactly where the block is followed by its check
    followed : (crc 24 g_crc24a (heard_sequence A room) ≡ 0) ↔ (heard_sequence A room ≡ with_check (heard_block A room))
    unfolding with_check heard_block
    followed = (
      λ z. sym (take-append-drop A heard) ∙ ap (λ (l : List ℕ). take A heard ++ l) (rw long at ((ends_in g_crc24a refl heard (sequence_bits A room good (eqb-true _ 0 none)) enough).0 z)),
      λ e. ap (crc 24 g_crc24a) e ∙ checked 24 g_crc24a (take A heard),
    )
      where
        heard : List ℕ
        heard = heard_sequence A room

        enough : 24 ≤ length heard
        enough = omega (arith, length_heard_sequence A room good)

        long : length heard - 24 ≡ A
        long = omega (arith, length_heard_sequence A room good)

-- ---- Read on any state and store

-- a refused one
refused_number : (n : ℕ) (state : State) (o : Outcome) → number_of (unless_refused n state o).answer ≡ 0 → n ≡ 0
unfolding unless_refused number_of
refused_number n state o = go (eqb n 0) refl
  where
    go : (t : Bool) → eqb n 0 ≡ t → number_of (cond {A = Outcome} t o (record { answer = Refused n; state = state })).answer ≡ 0 → n ≡ 0
    go true e h = eqb-true n 0 e
    go false e h = h

refused_values : (n : ℕ) (state : State) (o : Outcome) {r : ℕ} → values_of (unless_refused n state o).answer ≡ r ∷ [] → n ≡ 0
unfolding unless_refused values_of
refused_values n state o {r} = go (eqb n 0) refl
  where
    go : (t : Bool) → eqb n 0 ≡ t → values_of (cond {A = Outcome} t o (record { answer = Refused n; state = state })).answer ≡ r ∷ [] → n ≡ 0
    go true e h = eqb-true n 0 e
    go false e h = let z : ◌≡◌ {A = ℕ} 0 1 = cc in absurd (omega arith)

accepted : (n : ℕ) (state : State) (o : Outcome) → n ≡ 0 → unless_refused n state o ≡ o
unfolding unless_refused
accepted n state o e = ap (λ (t : Bool). cond t o (record { answer = Refused n; state = state })) (eq-eqb n 0 e)

module _ (state : State) (store : List ℕ) (slot terminal size : ℕ) where
  abbrev room : List ℕ
  room = room_at state.blocks slot store

  abbrev A : ℕ
  A = size_at_head state slot

  -- the read comes to the room
  module _ (came : read_number state (length store) slot terminal size ≡ 0) where
    in_room : (read_outcome state store slot terminal size).answer ≡ heard_answer A room
    unfolding read_outcome
    in_room = ap (λ (o : Outcome). o.answer) (accepted (read_number state (length store) slot terminal size) state _ came)

    good_size : bad_size A ≡ false
    good_size = let w = reads state (length store) slot terminal size came in (open_size state w.sound slot w.below w.opened).0

    number_told : {k : ℕ} → number_of (read_outcome state store slot terminal size).answer ≡ k
        → by_tests (eqb (lacking A room) 0) (some_wrong A room) (wrong_check A room) ≡ k
    number_told e = sym (number_is A room good_size) ∙ ap number_of (sym in_room) ∙ e

    -- nothing lacks and no code block is wrong
    blocks_right : eqb (lacking A room) 0 ≡ true → some_wrong A room ≡ false
        → 1 < blocks_at state slot → (r : ℕ) → r < blocks_at state slot → RightBlock state store slot r
    unfolding blocks_at RightBlock some_wrong
    blocks_right none some more r h =
        right_before A room good_size none more r h (omega (arith, ltb-false (first_wrong A room) (blocks (A + 24)) some))

    -- 12: every code block is right, and the transport check is not
    pub transport_wrong : number_of (read_outcome state store slot terminal size).answer ≡ 12
        → (1 < blocks_at state slot → (r : ℕ) → r < blocks_at state slot → RightBlock state store slot r) × (RightTransport state store slot → ⊥)
    unfolding RightTransport wrong_check
    transport_wrong e =
        let told = only_12 _ _ _ (number_told e) in
        (blocks_right told.0 told.1, λ t. eqb-false _ 0 (not-true _ told.2) ((followed A room good_size told.0).1 t))

    released_in : number_of (read_outcome state store slot terminal size).answer ≡ 0
        → RightTransport state store slot × (1 < blocks_at state slot → (r : ℕ) → r < blocks_at state slot → RightBlock state store slot r)
    unfolding RightTransport wrong_check
    released_in e =
        let told = only_0 _ _ _ (number_told e) in
        ((followed A room good_size told.0).0 (eqb-true _ 0 (not-false _ told.2)), blocks_right told.0 told.1)

    given_in : (out : List ℕ) → length out ≡ size → number_of (read_outcome state store slot terminal size).answer ≡ 0
        → read_output state store slot terminal out ≡ heard_block A room ++ drop A out
    unfolding read_output released is_done
    given_in out long e =
        rw long (ap (λ (x : Answer). cond (is_done x) (heard_block A room ++ drop A out) out) (in_room ∙ done A room good_size (ap number_of (sym in_room) ∙ e)))

    named_in : (r : ℕ) → number_of (read_outcome state store slot terminal size).answer ≡ 16 → values_of (read_outcome state store slot terminal size).answer ≡ r ∷ []
        → (1 < blocks_at state slot) × (r < blocks_at state slot) × ((q : ℕ) → q < r → RightBlock state store slot q) × (RightBlock state store slot r → ⊥)
    unfolding blocks_at RightBlock some_wrong values_of
    named_in r e v =
        let told = only_16 _ _ (wrong_check A room) (number_told e) in
        let is : first_wrong A room ∷ [] ≡ r ∷ [] = ap values_of (sym (named A room good_size told.0 told.1) ∙ sym in_room) ∙ v in
        let first : first_wrong A room ≡ r = cc in
        let below = ltb-true (first_wrong A room) (blocks (A + 24)) told.1 in
        let wrong = wrong_at A room good_size told.0 below in
        (wrong.0, omega arith, λ q l. right_before A room good_size told.0 wrong.0 q (omega arith) (omega arith), rw first at wrong.1)

  -- 0: the block is released, its transport check is right, and so is the check of each of several code blocks
  pub released_right : number_of (read_outcome state store slot terminal size).answer ≡ 0
      → RightTransport state store slot × (1 < blocks_at state slot → (r : ℕ) → r < blocks_at state slot → RightBlock state store slot r)
  unfolding read_outcome
  released_right e = released_in (refused_number _ state _ e) e

  -- and its bits are those that were heard
  pub released_given : (out : List ℕ) → length out ≡ size → number_of (read_outcome state store slot terminal size).answer ≡ 0
      → read_output state store slot terminal out ≡ heard_block A room ++ drop A out
  unfolding read_outcome
  released_given out long e = given_in (refused_number _ state _ e) out long e

  -- 16 with r: there are several code blocks, those before r are right, and r is wrong
  pub block_wrong : (r : ℕ) → number_of (read_outcome state store slot terminal size).answer ≡ 16 → values_of (read_outcome state store slot terminal size).answer ≡ r ∷ []
      → (1 < blocks_at state slot) × (r < blocks_at state slot) × ((q : ℕ) → q < r → RightBlock state store slot q) × (RightBlock state store slot r → ⊥)
  unfolding read_outcome
  block_wrong r e v = named_in (refused_values _ state _ v) r e v
