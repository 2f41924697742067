-- `call_rows::put_read` meets its contract: the answer decides.
-- Assumes nothing.
use mathlib.Core.Path.{◌≡◌, refl, sym, ◌∙◌, ap}
use Prim.Native.Nat.{ℕ, ◌≤◌}
use native.Mathlib.Omega.{arith}
use lib.ListN.{length, take, replicate}
use Rattle.laws.proofs.Parts.{front_count}
use Rattle.slots.specs.declared.Head.{Head}
use Rattle.slots.specs.Calls.{size_at_head}
use Rattle.packing.specs.Store.{places_in}
use Rattle.answers.specs.Rows.{run_row}
use Rattle.call_rows.specs.Rooms.{read_room}
use Rattle.call_rows.specs.Rows.{read_row}
use Rattle.call_rows.proofs.Wrote.{fresh, read_refused, read_row_lem}
use Rattle.call_rows.proofs.put_read.Goals.{After-head_at-head}
use Rattle.call_rows.proofs.put_read.Goals as goal

-- the block that was read stands in the room
given : (c : After-head_at-head) → let args = c.args in let out = c.read_in-outcome.new.out in
    (c.head_at-head.result.size ≤ length out) × (run_row (take c.head_at-head.result.size out) ≡ read_row args.state (places_in args.four args.store.now) args.slot args.terminal)
unfolding size_at_head
given c =
    let kept = c.read_in-outcome.auto.out in
    let row = read_row_lem _ _ _ _ _ (fresh read_room refl) c.read_in-outcome.ensures.value (sym c.is_done.ensures ∙ c.if-is_done.true) c.read_in-outcome.ensures.out_after kept in
    let size = ap (λ (h : Head). h.size) c.head_at-head.ensures in
    (omega (arith, row.0, kept, size), ap (λ (n : ℕ). run_row (take n c.read_in-outcome.new.out)) size ∙ row.1)

pub slice_bounds-block-end : goal.slice_bounds-block-end
slice_bounds-block-end c = omega (arith, (given (goal.at.slice_bounds-block-end c).After-head_at-head).0)

pub slice_bounds-put_run-end : goal.slice_bounds-put_run-end
slice_bounds-put_run-end c = front_count _ _ (given (goal.at.slice_bounds-put_run-end c).After-head_at-head).0

pub returns-then-is_done : goal.returns-then-is_done
returns-then-is_done c =
    let row = (given (goal.at.returns-then-is_done c).After-head_at-head).1 in
    record { value = rw row at c.put_run.ensures.value; out_after = rw row at c.put_run.ensures.out_after }

pub returns-else-is_done : goal.returns-else-is_done
returns-else-is_done c =
    let args = c.args in
    let row = read_refused args.state (places_in args.four args.store.now) args.slot args.terminal (replicate {A = ℕ} read_room 0) (fresh read_room refl) c.read_in-outcome.ensures.value (sym c.is_done.ensures ∙ c.if-is_done.false) in
    record { value = rw row at c.put_answer.ensures.value; out_after = rw row at c.put_answer.ensures.out_after }
