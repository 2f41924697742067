-- `answers::put_runs` meets its contract: where the row fits, its pieces are put one after another.
-- Assumes nothing.
use mathlib.Core.Path.{sym, ◌∙◌}
use mathlib.Core.List.{[], ◌∷◌, ◌++◌}
use Prim.Native.Nat.{◌+◌, ◌≤◌, ◌<◌}
use native.Mathlib.Omega.{arith}
use lib.ListN.{length}
use Rattle.lines.specs.Row.{tab, newline, row_of, end_of}
use Rattle.lines.proofs.Putting.{put_none, end_none}
use Rattle.answers.specs.Rows.{ok, digits_of, runs_row}
use Rattle.answers.proofs.Runs.{runs_length, begin, piece, row_put}
use borrow.Author.Tests.{leb-true, leb-false}
use Rattle.answers.proofs.put_runs.Goals as goal

pub returns-then-not-is_room : goal.returns-then-not-is_room
returns-then-not-is_room c =
    let args = c.args in
    let first = args.first.now in
    let second = args.second.now in
    let third = args.third.now in
    let room : length args.out.now < 6 + length first + length second + length third = leb-false _ _ (sym c.is_room.ensures ∙ c.if-not-is_room.true) in
    let short : length args.out.now < 0 + length (runs_row first second third) = omega (arith, runs_length first second third) in
    record { value = sym (end_none _ _ _ short); out_after = sym (put_none _ _ _ short) }

pub returns : goal.returns
unfolding runs_row row_of end_of
returns c =
    let args = c.args in
    let a = args.first.now in
    let b = args.second.now in
    let d = args.third.now in
    let room : 6 + length a + length b + length d ≤ length args.out.now = leb-true _ _ (sym c.is_room.ensures ∙ c.if-not-is_room.false) in
    let whole = begin (runs_row a b d) args.out.now (omega (arith, runs_length a b d)) in
    let told = row_put
    (piece (newline ∷ []) (c.put_bytes.ensures.value, c.put_bytes.ensures.out_after)
    (piece (digits_of d) (c.put_digits-third_end.ensures.value, c.put_digits-third_end.ensures.out_after)
    (piece (tab ∷ []) (c.put_bytes-third_at.ensures.value, c.put_bytes-third_at.ensures.out_after)
    (piece (digits_of b) (c.put_digits-second_end.ensures.value, c.put_digits-second_end.ensures.out_after)
    (piece (tab ∷ []) (c.put_bytes-second_at.ensures.value, c.put_bytes-second_at.ensures.out_after)
    (piece (digits_of a) (c.put_digits-first_end.ensures.value, c.put_digits-first_end.ensures.out_after)
    (piece (ok ++ (tab ∷ [])) (c.put_bytes-first_at.ensures.value, c.put_bytes-first_at.ensures.out_after) whole))))))) in
    record { value = told.0; out_after = told.1 }
