-- `worst_for` meets its contract: both least G, which are small, or the refusal.
-- Assumes nothing.
use mathlib.Core.Path.{sym}
use mathlib.Core.Bool.{true, false}
use Prim.Native.Nat.{◌*◌}
use native.Mathlib.Omega.{arith}
use Rattle.std.proofs.lemmas.Result.{err_from_is_err_and}
use Rattle.refusals.proofs.Numbers.{given_err}
use Rattle.planning.specs.Worst.{Planned, worst_answer}
use Rattle.planning.proofs.Numbers.{planned, given_answer, small}
use Rattle.planning.proofs.worst_for.Goals.{In_ok-accept}
use Rattle.planning.proofs.worst_for.Goals as goal

-- past the `?` the call is accepted
plan : (c : In_ok-accept) → Planned c.args.a (c.args.n * c.args.q)
plan c = planned _ _ _ (sym c.in_ok-accept.ensures)

pub returns-in_err-accept : goal.returns-in_err-accept
unfolding worst_answer
returns-in_err-accept c =
    let p = err_from_is_err_and c.from_residual.result c.from_residual.ensures.1 in
    rw (p.1, p.2) (given_err _ c.in_err-accept.ensures)

pub overflow_mul-step : goal.overflow_mul-step
overflow_mul-step c = omega (arith, (plan (goal.at.overflow_mul-step c).In_ok-accept).most)

pub least_symbols-requires : goal.least_symbols-requires
least_symbols-requires c = plan (goal.at.least_symbols-requires c).In_ok-accept

pub overflow_mul-three : goal.overflow_mul-three
overflow_mul-three c = omega (arith, small _ _ false (plan (goal.at.overflow_mul-three c).In_ok-accept) c.least_symbols.ensures)

pub least_symbols-requires-2 : goal.least_symbols-requires-2
least_symbols-requires-2 c = plan (goal.at.least_symbols-requires-2 c).In_ok-accept

pub overflow_mul-one : goal.overflow_mul-one
overflow_mul-one c = omega (arith, small _ _ true (plan (goal.at.overflow_mul-one c).In_ok-accept) c.least_symbols-2.ensures)

pub returns : goal.returns
returns c = given_answer _ _ _ c.in_ok-accept.ensures c.least_symbols.ensures c.least_symbols-2.ensures
