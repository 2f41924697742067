-- `answers::put_run` meets its contract: where the row fits, its pieces are put one after another.
-- Assumes nothing.
use mathlib.Core.Path.{sym}
use mathlib.Core.List.{[], ◌∷◌, ◌++◌}
use Prim.Native.Nat.{◌+◌, ◌<◌}
use native.Mathlib.Omega.{arith}
use lib.ListN.{length}
use Rattle.lines.specs.Row.{tab, newline, row_of, end_of}
use Rattle.lines.proofs.Putting.{put_none, end_none}
use Rattle.answers.specs.Rows.{ok, digits_of, run_row}
use Rattle.answers.proofs.Runs.{run_length, begin, piece, row_put}
use Rattle.answers.proofs.put_run.Goals.{then-out-lt4-via-then-out-lt4, then-out-lt4-via-else-out-lt4+then-out-bits}
use Rattle.answers.proofs.put_run.Goals as goal

pub returns-then-out-lt4 : goal.returns-then-out-lt4
returns-then-out-lt4 c =
    let args = c.args in
    let long = run_length args.bits.now in
    let short : length args.out.now < 0 + length (run_row args.bits.now) =
    elim c.then-out-lt4.branch [
      | then-out-lt4-via-then-out-lt4 w ↦ omega arith
      | then-out-lt4-via-else-out-lt4+then-out-bits w ↦ omega arith
    ] in
    record { value = sym (end_none _ _ _ short); out_after = sym (put_none _ _ _ short) }

pub returns : goal.returns
unfolding run_row row_of end_of
returns c =
    let args = c.args in
    let whole = begin (run_row args.bits.now) args.out.now (omega (arith, run_length args.bits.now)) in
    let told = row_put (piece (newline ∷ []) (c.put_bytes.ensures.value, c.put_bytes.ensures.out_after) (piece (digits_of args.bits.now) (c.put_digits-end.ensures.value, c.put_digits-end.ensures.out_after) (piece (ok ++ (tab ∷ [])) (c.put_bytes-from.ensures.value, c.put_bytes-from.ensures.out_after) whole))) in
    record { value = told.0; out_after = told.1 }
