use Prim.Native.Nat.{◌≤◌}
use native.Mathlib.Omega.{arith}
use lib.ListN.{length}
use Rattle.lines.proofs.Lines.{end_from, end_within}
use Rattle.lines.proofs.Rows.{turn, lines_past, lines_full, finish}
use Rattle.lines.proofs.sizes_rows.Goals.{After-line_end-end}
use Rattle.lines.proofs.sizes_rows.Goals as goal

-- a line ends between its start and the text's end
started : (c : After-line_end-end) → c.loop-next.next ≤ c.line_end-end.result
started c = omega (arith, c.line_end-end.ensures, end_from c.args.text.now c.loop-next.next)

ended : (c : After-line_end-end) → c.line_end-end.result ≤ length c.args.text.now
ended c = omega (arith, c.line_end-end.ensures, end_within c.args.text.now c.loop-next.next (omega arith))

pub slice_bounds-put_row-count : goal.slice_bounds-put_row-count
slice_bounds-put_row-count c = started (goal.at.slice_bounds-put_row-count c).After-line_end-end

pub slice_bounds-put_row-start : goal.slice_bounds-put_row-start
slice_bounds-put_row-start c = started (goal.at.slice_bounds-put_row-start c).After-line_end-end

pub slice_bounds-put_row-end : goal.slice_bounds-put_row-end
slice_bounds-put_row-end c = ended (goal.at.slice_bounds-put_row-end c).After-line_end-end

pub loop-next-smaller : goal.loop-next-smaller
loop-next-smaller c = omega (arith, c.line_next-next.ensures, started (goal.at.loop-next-smaller c).After-line_end-end, ended (goal.at.loop-next-smaller c).After-line_end-end)

pub loop-next-preserved : goal.loop-next-preserved
loop-next-preserved c =
    let inv = c.loop-next.invariant in
    let end = c.line_end-end.ensures in
    turn _ inv (omega arith) (omega arith) end c.line_next-next.ensures (c.put_row-written.ensures.value, c.put_row-written.ensures.out_after) c.put_row-written.auto.out

pub returns-after-loop-next : goal.returns-after-loop-next
returns-after-loop-next c =
    let told = finish c.loop-next.invariant (lines_past _ _ _ (omega arith)) in
    record { value = told.0; out_after = told.1 }

pub returns-then-out-written-lt-ROW_ROOM : goal.returns-then-out-written-lt-ROW_ROOM
returns-then-out-written-lt-ROW_ROOM c =
    let told = finish c.loop-next.invariant (lines_full _ _ _ (omega (arith, c.loop-next.invariant.writing.long))) in
    record { value = told.0; out_after = told.1 }
