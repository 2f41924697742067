-- `parting::data_part` meets its contract: nothing after a refusal, else what begins behind the control bits.
-- Assumes nothing.
use mathlib.Core.Path.{sym, ◌∙◌, ap}
use mathlib.Core.List.{[]}
use Prim.Native.Nat.{ℕ, ◌-◌}
use native.Mathlib.Nat.{sub_self}
use native.Mathlib.Omega.{arith}
use lib.ListN.{length, take}
use lib.Seq.{drop-length}
use Rattle.reports.proofs.Parted.{run_accepted, no_data, the_data, all_behind}
use Rattle.reports.proofs.parting.data_part.Goals as goal

pub overflow_mul-ahead : goal.overflow_mul-ahead
overflow_mul-ahead c = omega (arith, (run_accepted _ _ _ _ _ _ _ (sym c.in-Ok.ensures.number)).shape.few)

pub slice_bounds-result-count : goal.slice_bounds-result-count
slice_bounds-result-count c = (run_accepted _ _ _ _ _ _ _ (sym c.in-Ok.ensures.number)).ahead

pub slice_bounds-result-start : goal.slice_bounds-result-start
slice_bounds-result-start c = (run_accepted _ _ _ _ _ _ _ (sym c.in-Ok.ensures.number)).ahead

pub returns-in-Ok : goal.returns-in-Ok
returns-in-Ok c = all_behind _ _ (run_accepted _ _ _ _ _ _ _ (sym c.in-Ok.ensures.number)).ahead ∙ the_data _ _ _ _ _ _ (sym c.in-Ok.ensures.number)

pub returns-in-Err : goal.returns-in-Err
returns-in-Err c =
    let run = c.args.received.now in
    ap (take (length run - length run)) (drop-length run) ∙ ap (λ (k : ℕ). take {A = ℕ} k []) (sub_self (length run)) ∙ no_data _ _ _ _ _ _ _ c.in-Err.ensures.number
