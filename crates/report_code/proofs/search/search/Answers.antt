use native.Mathlib.Omega.{arith}
use Rattle.report_code.proofs.CountingUp.{start, step_lt, next}
use Rattle.report_code.proofs.search.search.Goals as goal

pub loop-m-init : goal.loop-m-init
loop-m-init c = start _ _ _ _ c.plane_distance.ensures

pub bounds-steps-k : goal.bounds-steps-k
bounds-steps-k c = omega (arith, step_lt c.loop-m.invariant c.requires.0 c.loop-m-test.true, c.requires.0)

pub loop-m-preserved : goal.loop-m-preserved
loop-m-preserved c = next c.loop-m.invariant c.requires.0 c.loop-m-test.true c.steps_for-steps.ensures c.plane_distance-in-loop-m.ensures c.nearer-found.ensures
