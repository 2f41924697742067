-- `lines::put_row` meets its contract: the row of the line's case.
-- Assumes nothing.
use mathlib.Core.Path.{sym, ◌∙◌, ap}
use mathlib.Core.List.{List}
use Prim.Native.Nat.{ℕ, ◌+◌}
use native.Mathlib.Omega.{arith}
use lib.ListN.{length}
use Rattle.lines.specs.Put.{put_over}
use Rattle.lines.specs.Row.{dash}
use Rattle.lines.proofs.Putting.{looked}
use Rattle.lines.proofs.Refusals.{row_put}
use Rattle.lines.proofs.Rows.{row_read, row_unreadable}
use Rattle.lines.proofs.put_row.Goals as goal

pub put_refusal-requires : goal.put_refusal-requires
put_refusal-requires c =
    let args = c.args in
    let is_put = looked args.at dash args.out.now (omega arith) (c.put_bytes-end.ensures.value, c.put_bytes-end.ensures.out_after) in
    omega (arith, is_put.0, c.put_bytes-end.auto.out)

pub returns-in-Some : goal.returns-in-Some
returns-in-Some c =
    let args = c.args in
    let said = sym c.read_number.ensures ∙ c.in-Some.is in
    let row = row_read args.line.now said c.sizes_for.ensures in
    record { value = c.put_answer.ensures.value ∙ ap (λ (w : List ℕ). args.at + length w) row; out_after = c.put_answer.ensures.out_after ∙ ap (λ (w : List ℕ). put_over args.at w args.out.now) row }

pub returns-in-None : goal.returns-in-None
returns-in-None c =
    let args = c.args in
    let said = sym c.read_number.ensures ∙ c.in-None.is in
    let row = row_unreadable args.line.now said in
    let put = row_put args.at dash 15 args.out.now (omega arith) (c.put_bytes-end.ensures.value, c.put_bytes-end.ensures.out_after) (c.put_refusal.ensures.value, c.put_refusal.ensures.out_after) c.put_refusal.auto.out in
    record { value = put.0 ∙ ap (λ (w : List ℕ). args.at + length w) row; out_after = put.1 ∙ ap (λ (w : List ℕ). put_over args.at w args.out.now) row }
