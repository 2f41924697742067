-- Demand 1, 'none where none applies': after any history that began with an accepted New over a store of at least S·M·18,528 bytes each call in 01's ranges is accepted.
-- What is said is 01's ranges, and numbers by 01's definition of an answer's number.
-- Assumes nothing.
use mathlib.Core.Path.{◌≡◌, refl, ap}
use mathlib.Core.Logic.{◌⊎◌, inl, inr}
use mathlib.Core.Bool.{Bool, true, false, cond}
use mathlib.Core.List.{List}
use Prim.Native.Nat.{ℕ, ◌+◌, ◌*◌, ◌≤◌, ◌<◌}
use native.Mathlib.Omega.{arith}
use lib.Dec.{eqb}
use lib.ListN.{length}
use Rattle.laws.specs.Bits.{AreBits}
use Rattle.refusals.specs.Refusals.{first_of}
use Rattle.segmentation.specs.Segmentation.{blocks, size_of}
use Rattle.codeword.specs.Shares.{grant}
use Rattle.slots.specs.Outcome.{Done, Refused}
use Rattle.slots.specs.declared.State.{State}
use Rattle.slots.specs.Outcome.{Outcome}
use Rattle.slots.specs.State.{room_length, head_at}
use Rattle.slots.specs.Room.{room_at}
use Rattle.slots.specs.Reading.{lacking, first_wrong, some_wrong, wrong_check, heard_answer}
use Rattle.slots.specs.Answers.{number_of, Lacking, WrongBlock, unless_refused}
use Rattle.slots.specs.Calls.{open_outcome, open_down_outcome, receive_outcome, read_outcome, streams_outcome, close_outcome, new_outcome, size_at_head}
use Rattle.slots.proofs.Admitted.{open_admitted, open_down_admitted, receive_admitted, read_admitted, streams_admitted, close_admitted}
use Rattle.history.specs.Calls.{History}
use Rattle.history.specs.After.{state_after, store_after}
use Rattle.demands.specs.Ranges.{Size, Allowed, Receiver}
use Rattle.demands.specs.Lent.{New, OpenFor}
use Rattle.demands.proofs.Ranges.{shape_test, size_test, allocation_test, version_test, bits_test_lem, buffer_test}
use Rattle.demands.proofs.Outcomes.{accepting}
use Rattle.demands.proofs.Opened.{Ready, new_ready}

-- New itself
pub new_accepted : (S M : ℕ) (store : List ℕ) → New S M store → number_of (new_outcome S M).answer ≡ 0
unfolding new_outcome unless_refused first_of number_of
new_accepted S M store n = rw ((shape_test S M).where_holds n.shape)

begun : (S M : ℕ) (store₀ : List ℕ) (h : History) → New S M store₀ → Ready S M store₀ h
unfolding room_length
begun S M store₀ h n = new_ready S M store₀ h ((shape_test S M).where_holds n.shape) n.long

-- the numbers that a room can give
heard_numbers : (A : ℕ) (room : List ℕ)
    → let number : ℕ = number_of (heard_answer A room) in (number ≡ 0) ⊎ ((number ≡ 11) ⊎ ((number ≡ 16) ⊎ (number ≡ 12)))
unfolding heard_answer number_of
heard_numbers A room = by (eqb (lacking A room) 0) (some_wrong A room) (wrong_check A room)
  where
    by : (t u v : Bool) → let number : ℕ = number_of (cond t (cond u (WrongBlock (first_wrong A room)) (cond v (Refused 12) Done)) (Lacking (lacking A room))) in
        (number ≡ 0) ⊎ ((number ≡ 11) ⊎ ((number ≡ 16) ⊎ (number ≡ 12)))
    by true true v = inr (inr (inl refl))
    by true false true = inr (inr (inr refl))
    by true false false = inl refl
    by false u v = inr (inl refl)

module _ (S M : ℕ) (store₀ : List ℕ) (new : New S M store₀) (h : History) (past : List ℕ) (slot terminal : ℕ) (below : slot < S) where
  abbrev state : State
  state = state_after S M store₀ h

  abbrev store : List ℕ
  store = store_after S M store₀ h past

  ok : Ready S M store₀ h
  ok = begun S M store₀ h new

  here : slot < state.slots
  here = omega (arith, below, ok.slots)

  -- Open of a closed slot for an A in range that fits M
  module _ (A : ℕ) (size : Size A) (closed : (head_at state slot).opened ≡ false) (few : blocks (A + 24) ≤ M) where
    fits : blocks (A + 24) ≤ state.blocks
    fits = omega (arith, few, ok.blocks)

    pub open_accepted : number_of (open_outcome state (length store) slot terminal A).answer ≡ 0
    unfolding open_outcome number_of
    open_accepted =
        ap (λ (o : Outcome). number_of o.answer)
        (accepting _ state _ (open_admitted state (length store) slot ok.sound (ok.long past) here A ((size_test A).where_holds size) closed fits))

    -- and for a downlink to a receiver in range
    pub open_down_accepted : (release k_mimo processes Nsoft layers : ℕ) → Receiver (A + 24) release k_mimo processes Nsoft layers
        → number_of (open_down_outcome state (length store) slot terminal A release k_mimo processes Nsoft layers).answer ≡ 0
    unfolding open_down_outcome number_of
    open_down_accepted release k_mimo processes Nsoft layers receiver =
        ap (λ (o : Outcome). number_of o.answer)
        (accepting _ state _
        (open_down_admitted state (length store) slot ok.sound (ok.long past) here A ((size_test A).where_holds size) closed fits release k_mimo processes Nsoft layers ((buffer_test (A + 24) release k_mimo processes Nsoft layers).where_holds receiver)))

  -- the other calls, by the owner
  module _ (A : ℕ) (owner : OpenFor state slot terminal A) where
    size_at : size_at_head state slot ≡ A
    unfolding size_at_head
    size_at = owner.size_is

    -- a Receive with Q, N, G, version and bits in range
    pub receive_accepted : (Q N v : ℕ) (bits : List ℕ) → Allowed (blocks (A + 24)) (grant Q N v (length bits)) → AreBits bits
        → number_of (receive_outcome state slot terminal Q N v bits store).answer ≡ 0
    unfolding receive_outcome number_of
    receive_accepted Q N v bits allowed given = ap (λ (o : Outcome). number_of o.answer)
        (accepting _ state _
        (receive_admitted state (length store) slot ok.sound (ok.long past) here terminal owner.opened owner.terminal_is Q N v bits
        (rw size_at ((allocation_test (blocks (A + 24)) Q N (length bits)).where_holds (allowed.symbol, allowed.carried))) ((version_test v).where_holds allowed.version) ((bits_test_lem bits).where_holds given)))

    -- a Close
    pub close_accepted : number_of (close_outcome state slot terminal).answer ≡ 0
    unfolding close_outcome number_of
    close_accepted = ap (λ (o : Outcome). number_of o.answer) (accepting _ state _ (close_admitted state (length store) slot ok.sound (ok.long past) here terminal owner.opened owner.terminal_is))

    -- a Streams for a code block below C into enough room
    pub streams_accepted : (r : ℕ) (out : List ℕ) → r < blocks (A + 24) → 3 * (size_of (A + 24) r + 4) ≤ length out
        → number_of (streams_outcome state (length store) slot terminal r (length out)).answer ≡ 0
    unfolding streams_outcome number_of
    streams_accepted r out block fits = ap (λ (o : Outcome). number_of o.answer)
        (accepting _ state _
        (streams_admitted state (length store) slot ok.sound (ok.long past) here terminal owner.opened owner.terminal_is r (length out) (rw size_at block) (rw size_at fits)))

    -- a Read into enough room answers the block, 11, 16 or 12
    pub read_answers : (out : List ℕ) → A ≤ length out
        → let number : ℕ = number_of (read_outcome state store slot terminal (length out)).answer in
        (number ≡ 0) ⊎ ((number ≡ 11) ⊎ ((number ≡ 16) ⊎ (number ≡ 12)))
    unfolding read_outcome
    read_answers out fits = rw (accepting _ state _ (read_admitted state (length store) slot ok.sound (ok.long past) here terminal owner.opened owner.terminal_is (length out) (rw size_at fits))) (heard_numbers (size_at_head state slot) (room_at state.blocks slot store))
