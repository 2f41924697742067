-- `call_rows::put_streams` meets its contract: the answer decides.
-- Assumes nothing.
use mathlib.Core.Path.{◌≡◌, refl, sym, ◌∙◌, ap}
use mathlib.Core.Bool.{true}
use Prim.Native.Nat.{ℕ, ◌+◌, ◌*◌, ◌≤◌}
use native.Mathlib.Omega.{arith}
use lib.ListN.{length, replicate}
use Rattle.slots.specs.Outcome.{Outcome}
use Rattle.slots.specs.Calls.{streams_outcome}
use Rattle.slots.specs.Answers.{is_done}
use Rattle.packing.specs.Store.{places_in}
use Rattle.call_rows.specs.Rooms.{streams_room}
use Rattle.call_rows.specs.Rows.{stream_length}
use Rattle.call_rows.proofs.Wrote.{fresh, runs_fit, stream_size, streams_refused, streams_row_lem}
use Rattle.call_rows.proofs.put_streams.Goals.{After-size_of}
use Rattle.call_rows.proofs.put_streams.Goals as goal

-- the call was accepted
done : (c : After-size_of) → let args = c.args in
    is_done (streams_outcome args.state (length (places_in args.four args.store.now)) args.slot args.terminal args.block (length (replicate {A = ℕ} streams_room 0))).answer ≡ true
done c = ap (λ (o : Outcome). is_done o.answer) (sym c.streams_in-outcome.ensures.value) ∙ sym c.is_done.ensures ∙ c.if-is_done.true

-- D is that of the code block
size : (c : After-size_of) → let args = c.args in c.size_of.result + 4 ≡ stream_length args.state args.slot args.block
size c = stream_size _ _ _ _ _ _ (done c) c.streams_in-outcome.ensures.out_after c.head_at-head.ensures c.segments_for-s.ensures c.size_of.ensures

-- the three runs fit
fit : (c : After-size_of) → let args = c.args in 3 * stream_length args.state args.slot args.block ≤ length (replicate {A = ℕ} streams_room 0)
fit c = runs_fit _ _ _ _ _ _ (done c) c.streams_in-outcome.ensures.out_after

pub overflow_add-size_of : goal.overflow_add-size_of
overflow_add-size_of c = omega (arith, size (goal.at.overflow_add-size_of c).After-size_of, fit (goal.at.overflow_add-size_of c).After-size_of, c.streams_in-outcome.auto.out, fresh streams_room refl)

pub put_three-requires : goal.put_three-requires
put_three-requires c = omega (arith, size (goal.at.put_three-requires c).After-size_of, fit (goal.at.put_three-requires c).After-size_of, c.streams_in-outcome.auto.out)

pub returns-then-is_done : goal.returns-then-is_done
returns-then-is_done c =
    let row = streams_row_lem _ _ _ _ _ _ (fresh streams_room refl) (done (goal.at.returns-then-is_done c).After-size_of) c.streams_in-outcome.ensures.out_after (size (goal.at.returns-then-is_done c).After-size_of) in
    record { value = rw row at c.put_three.ensures.value; out_after = rw row at c.put_three.ensures.out_after }

pub returns-else-is_done : goal.returns-else-is_done
returns-else-is_done c =
    let args = c.args in
    let row = streams_refused args.state (places_in args.four args.store.now) args.slot args.terminal args.block (replicate {A = ℕ} streams_room 0) (fresh streams_room refl) c.streams_in-outcome.ensures.value (sym c.is_done.ensures ∙ c.if-is_done.false) in
    record { value = rw row at c.put_answer.ensures.value; out_after = rw row at c.put_answer.ensures.out_after }
