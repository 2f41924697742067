-- `answers::put_told` meets its contract: the row stands at the start of a room that it surely fits.
-- Assumes nothing.
use Prim.Native.Nat.{◌≤◌}
use native.Mathlib.Omega.{arith}
use lib.ListN.{length}
use Rattle.laws.proofs.Parts.{front_count}
use Rattle.answers.proofs.Told.{row_within, row_told}
use Rattle.answers.proofs.put_told.Goals.{After-put_number_row-end}
use Rattle.answers.proofs.put_told.Goals as goal

-- the row ends within its room
within : (c : After-put_number_row-end) → c.put_number_row-end.result ≤ length c.put_number_row-end.new.out
within c =
    let args = c.args in
    let kept = c.put_number_row-end.auto.out in
    let told = row_within args.word.now args.numbers.now _ (omega arith) (c.put_bytes-from.ensures.value, c.put_bytes-from.ensures.out_after) (c.put_number_row-end.ensures.value, c.put_number_row-end.ensures.out_after) kept in
    omega (arith, told, kept, c.put_bytes-from.auto.out)

pub slice_bounds-row-end : goal.slice_bounds-row-end
slice_bounds-row-end c = within (goal.at.slice_bounds-row-end c).After-put_number_row-end

pub slice_bounds-put_bytes-end-2 : goal.slice_bounds-put_bytes-end-2
slice_bounds-put_bytes-end-2 c = front_count _ _ (within (goal.at.slice_bounds-put_bytes-end-2 c).After-put_number_row-end)

pub returns : goal.returns
returns c =
    let args = c.args in
    let told = row_told args.word.now args.numbers.now _ (omega arith) (c.put_bytes-from.ensures.value, c.put_bytes-from.ensures.out_after) (c.put_number_row-end.ensures.value, c.put_number_row-end.ensures.out_after) c.put_number_row-end.auto.out in
    record { value = rw told at c.put_bytes.ensures.value; out_after = rw told at c.put_bytes.ensures.out_after }
