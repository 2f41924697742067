-- `circle::stream` meets its contract: with the filler cleared in streams 0 and 1, and as it is shown in stream 2 (`Runs`).
-- Assumes nothing.
use mathlib.Core.Path.{◌∙◌, ap}
use mathlib.Core.List.{List, ◌++◌}
use Prim.Native.Nat.{ℕ, ◌≤◌}
use native.Mathlib.Omega.{arith}
use lib.ListN.{length, drop, replicate}
use lib.Seq.{length-take-le}
use Rattle.kept_bits.proofs.Runs.{whole_run, cleared_run}
use Rattle.kept_bits.proofs.circle.stream.Goals as goal

pub returns-then-s-lt2 : goal.returns-then-s-lt2
returns-then-s-lt2 c =
    let run = c.show.new.run in
    let long : c.args.f ≤ length run = omega (arith, c.show.auto.run, c.gather_stream.auto.out) in
    cleared_run _ _ _ _ c.requires.1 c.gather_stream.ensures c.show.ensures c.if-s-lt2.true c.requires.0
    (ap (λ (l : List ℕ). l ++ drop c.args.f run) (c.fill.ensures.after (λ y h. h) ∙ ap (λ (n : ℕ). replicate {A = ℕ} n 0) (length-take-le c.args.f run long)))

pub returns-else-s-lt2 : goal.returns-else-s-lt2
returns-else-s-lt2 c =
    whole_run _ _ _ _ c.requires.1 c.gather_stream.ensures c.show.ensures c.if-s-lt2.false
