-- The rows of the calls on a slot: those that tell numbers have at most 50 bytes, a block that is read 30,580, three streams 18,450.
-- Assumes nothing.
use mathlib.Core.Path.{◌≡◌, refl, sym, ap}
use mathlib.Core.Bool.{Bool, true, false, cond, true≢false}
use mathlib.Core.List.{List, [], ◌∷◌}
use Prim.Native.Nat.{ℕ, ◌+◌, ◌^◌, ◌≤◌, ◌<◌}
use native.Mathlib.Nat.{div-le_self, le_trans}
use native.Mathlib.Decide.{dec_lt}
use native.Mathlib.Omega.{arith}
use lib.Dec.{eqb}
use lib.ListN.{length, length-take}
use borrow.Author.Tests.{eqb-true}
use Rattle.laws.proofs.Tab.{length_tab}
use Rattle.segmentation.specs.Segmentation.{blocks}
use Rattle.rate_matching.specs.SoftBuffer.{n_ir, soft_share}
use Rattle.slots.specs.Outcome.{Refused}
use Rattle.slots.specs.declared.Head.{Head}
use Rattle.slots.specs.Outcome.{Outcome}
use Rattle.slots.specs.declared.State.{State}
use Rattle.slots.specs.State.{closed_head, open_head}
use Rattle.slots.specs.Answers.{is_done, unless_refused}
use Rattle.slots.specs.Room.{room_at}
use Rattle.slots.specs.Reading.{heard_block}
use Rattle.slots.specs.Calls.{with_head, opened_for, size_at_head, share_at_head, new_outcome, open_number, open_outcome, open_down_number, open_down_outcome, receive_number, receive_store, receive_outcome, read_number, read_outcome, released, streams_number, streams_outcome, close_number, close_outcome}
use Rattle.slots.proofs.HeadLaws.{open_size, its_head, no_head}
use Rattle.slots.proofs.Acceptance.{receives, reads, streams}
use Rattle.answers.specs.Rows.{answer_row, run_row, runs_row}
use Rattle.answers.proofs.Runs.{run_length, runs_length}
use Rattle.call_rows.specs.Rooms.{read_room, streams_room}
use Rattle.call_rows.specs.Rows.{share_row, read_row, stream_length, stream_run, streams_row}
use Rattle.row_lengths.proofs.Numbers.{accepted_length}
use Rattle.row_lengths.proofs.Refusals.{new_most, open_most, open_down_most, receive_most, read_most, streams_most, close_most}
use Rattle.row_lengths.proofs.Answers.{done_length, lacking_length, refused_answer, outcome_length, lacking_most, heard_length}

-- ---- New, Open, Close and Receive tell their answer

pub new_length : (S M : ℕ) → length (answer_row (new_outcome S M).answer) ≤ 50
unfolding new_outcome
new_length S M = outcome_length _ _ _ (new_most S M) (λ e. done_length)

pub open_length : (state : State) (room slot terminal A : ℕ) → length (answer_row (open_outcome state room slot terminal A).answer) ≤ 50
unfolding open_outcome
open_length state room slot terminal A = outcome_length (open_number state room slot A) state _ (open_most state room slot A) (λ e. done_length)

pub close_length : (state : State) (slot terminal : ℕ) → length (answer_row (close_outcome state slot terminal).answer) ≤ 50
unfolding close_outcome
close_length state slot terminal = outcome_length (close_number state slot terminal) state _ (close_most state slot terminal) (λ e. done_length)

pub receive_length : (state : State) (slot terminal Q N v : ℕ) (bits store : List ℕ) → length (answer_row (receive_outcome state slot terminal Q N v bits store).answer) ≤ 50
unfolding receive_outcome
receive_length state slot terminal Q N v bits store =
    outcome_length (receive_number state (length store) slot terminal Q N v bits) state _ (receive_most state (length store) slot terminal Q N v bits)
    (λ e.
    let took = receives state (length store) slot terminal Q N v bits e in
    let admitted = (open_size state took.sound slot took.below took.opened).0 in
    lacking_length _ (omega (arith, lacking_most (size_at_head state slot) admitted (room_at state.blocks slot (receive_store state slot terminal Q N v bits store)))))

-- ---- Open for a downlink tells the share

-- a share is no larger than the soft buffer
share_most : (C release k_mimo processes Nsoft layers : ℕ) → soft_share C release k_mimo processes Nsoft layers ≤ Nsoft
unfolding soft_share n_ir
share_most C release k_mimo processes Nsoft layers = le_trans (div-le_self _ _) (div-le_self _ _)

-- the share at a head that was opened, 0 where there is no such head
share_there : (state : State) (slot terminal A soft : ℕ) → share_at_head (with_head state slot (open_head terminal A soft)) slot ≤ soft
unfolding share_at_head closed_head
share_there state slot terminal A soft = elim (dec_lt slot (length state.heads)) [
  | yes l ↦ omega (arith, ap (λ (h : Head). h.share) (its_head state slot (open_head terminal A soft) l))
  | no l ↦ let past : length state.heads ≤ slot = omega arith in omega (arith, ap (λ (h : Head). h.share) (no_head state slot (open_head terminal A soft) past))
]

module _ (state : State) (room slot terminal A release k_mimo processes Nsoft layers : ℕ) (small : Nsoft < 2 ^ 64) where
  pub share_length : length (share_row (open_down_outcome state room slot terminal A release k_mimo processes Nsoft layers) slot) ≤ 50
  unfolding open_down_outcome unless_refused share_row is_done
  share_length = go (eqb number 0)
    where
      number : ℕ
      number = open_down_number state room slot A release k_mimo processes Nsoft layers

      soft : ℕ
      soft = soft_share (blocks (A + 24)) release k_mimo processes Nsoft layers

      go : (t : Bool) → length (share_row (cond t (opened_for state slot terminal A soft) (record { answer = Refused number; state = state })) slot) ≤ 50
      go true =
          let share : ℕ = share_at_head (with_head state slot (open_head terminal A soft)) slot in
          omega (arith, accepted_length (share ∷ []) (omega (arith, share_there state slot terminal A soft, share_most (blocks (A + 24)) release k_mimo processes Nsoft layers), tt))
      go false = refused_answer number (open_down_most state room slot A release k_mimo processes Nsoft layers)

-- ---- Read gives a block

-- a call that is done was not refused
done_number : (number : ℕ) (state : State) (o : Outcome) → is_done (unless_refused number state o).answer ≡ true → number ≡ 0
unfolding is_done unless_refused
done_number number state o = go (eqb number 0) refl
  where
    go : (t : Bool) → eqb number 0 ≡ t → is_done (cond {A = Outcome} t o (record { answer = Refused number; state = state })).answer ≡ true → number ≡ 0
    go true e h = eqb-true number 0 e
    go false e h = absurd (true≢false (sym h))

heard_most : (A : ℕ) (room : List ℕ) → length (heard_block A room) ≤ A
unfolding heard_block
heard_most A room = rw length-take (omega arith)

module _ (state : State) (store : List ℕ) (slot terminal : ℕ) where
  read_answer : length (answer_row (read_outcome state store slot terminal read_room).answer) ≤ 50
  unfolding read_outcome
  read_answer =
      outcome_length (read_number state (length store) slot terminal read_room) state _ (read_most state (length store) slot terminal read_room)
      (λ e.
      let read = reads state (length store) slot terminal read_room e in
      heard_length (size_at_head state slot) (open_size state read.sound slot read.below read.opened).0 (room_at state.blocks slot store))

  pub read_length : length (read_row state store slot terminal) ≤ 30580
  unfolding read_row released read_outcome
  read_length = go (released state store slot terminal read_room) refl
    where
      go : (t : Bool) → released state store slot terminal read_room ≡ t
          → length (cond t (run_row (heard_block (size_at_head state slot) (room_at state.blocks slot store))) (answer_row (read_outcome state store slot terminal read_room).answer)) ≤ 30580
      go true e =
          let read = reads state (length store) slot terminal read_room (done_number (read_number state (length store) slot terminal read_room) state _ e) in
          omega (arith, run_length (heard_block (size_at_head state slot) (room_at state.blocks slot store)), heard_most (size_at_head state slot) (room_at state.blocks slot store), read.enough)
      go false e = omega (arith, read_answer)

  -- ---- Streams gives three runs

  module _ (r : ℕ) where
    streams_answer : length (answer_row (streams_outcome state (length store) slot terminal r streams_room).answer) ≤ 50
    unfolding streams_outcome
    streams_answer =
        outcome_length (streams_number state (length store) slot terminal r streams_room) state _ (streams_most state (length store) slot terminal r streams_room) (λ e. done_length)

    run_is : (s : ℕ) → length (stream_run state store slot r s) ≡ stream_length state slot r
    unfolding stream_run
    run_is s = length_tab _ _

    pub streams_length : length (streams_row state store slot terminal r) ≤ 18450
    unfolding streams_row stream_length
    streams_length = go (eqb (streams_number state (length store) slot terminal r streams_room) 0) refl
      where
        go : (t : Bool) → eqb (streams_number state (length store) slot terminal r streams_room) 0 ≡ t
            → length (cond t (runs_row (stream_run state store slot r 0) (stream_run state store slot r 1) (stream_run state store slot r 2))
            (answer_row (streams_outcome state (length store) slot terminal r streams_room).answer)) ≤ 18450
        go true e =
            omega (
              arith,
              runs_length (stream_run state store slot r 0) (stream_run state store slot r 1) (stream_run state store slot r 2),
              run_is 0,
              run_is 1,
              run_is 2,
              (streams state (length store) slot terminal r streams_room (eqb-true _ 0 e)).enough,
            )
        go false e = omega (arith, streams_answer)
