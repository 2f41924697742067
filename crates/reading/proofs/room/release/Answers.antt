-- `room::release` meets its contract: places lacking, a code block wrong, the transport check wrong, all right (`Release`).
-- Assumes nothing.
use mathlib.Core.Path.{◌∙◌, ap}
use mathlib.Core.List.{List, ◌++◌}
use Prim.Native.Nat.{ℕ}
use native.Mathlib.Omega.{arith}
use lib.ListN.{drop}
use Rattle.std.proofs.lemmas.Result.{err_from_is_err_and}
use Rattle.reading.proofs.Thrown.{thrown}
use Rattle.reading.proofs.Release.{blocks_refused, wrong, right_all}
use Rattle.reading.proofs.room.release.Goals as goal

pub returns-in_err-collect : goal.returns-in_err-collect
returns-in_err-collect c =
    let told = blocks_refused _ _ _ c.in_err-collect.ensures.heard in
    let p = err_from_is_err_and c.from_residual.result c.from_residual.ensures.1 in
    record { value = rw (p.1, p.2) told.0; out_after = told.1 }

pub returns-in_err-applied : goal.returns-in_err-applied
returns-in_err-applied c =
    let told = wrong _ _ _ c.in_ok-collect.ensures.heard _ c.in_ok-collect.ensures.sequence c.crc24a.ensures c.in_err-applied.field-0.0 c.in_err-applied.ensures in
    record { value = thrown _ c.from_residual-in_err-applied.result c.from_residual-in_err-applied.ensures ∙ told.0; out_after = told.1 }

pub returns : goal.returns
returns c =
    let told = right_all _ _ _ c.in_ok-collect.ensures.heard _ c.in_ok-collect.ensures.sequence c.crc24a.ensures c.in_ok-applied.ensures (omega (arith, c.collect.auto.b, c.requires.1)) (ap (λ (l : List ℕ). l ++ drop c.args.a c.args.out.now) c.copy_from_slice.ensures.after) in
    record { value = told.0; out_after = told.1 }
