-- `log_answers::turns_left` meets its contract, by the laws of `Turns`.
-- Assumes nothing.
use native.Mathlib.Omega.{arith}
use Rattle.log_answers.proofs.Turns.{left_of_none, left_at_end, left_going, left_stopped}
use Rattle.log_answers.proofs.turns_left.Goals as goal

pub returns-then-turns-eq0 : goal.returns-then-turns-eq0
returns-then-turns-eq0 c =
    let args = c.args in
    let told = left_of_none args.turns args.going args.line c.if-turns-eq0.true in
    record { value = told.0; upper_bound = told.1 }

pub returns-then-nothing_is_left : goal.returns-then-nothing_is_left
returns-then-nothing_is_left c =
    let args = c.args in
    let told = left_at_end args.turns args.going args.line c.if-turns-eq0.false c.nothing_is_left.ensures c.if-nothing_is_left.true in
    record { value = told.0; upper_bound = told.1 }

pub overflow_sub-result : goal.overflow_sub-result
overflow_sub-result c = omega (arith, c.if-turns-eq0.false)

pub returns-then-going : goal.returns-then-going
returns-then-going c =
    let args = c.args in
    let told = left_going args.turns args.going args.line c.if-turns-eq0.false c.nothing_is_left.ensures c.if-nothing_is_left.false c.if-going.true in
    record { value = told.0; upper_bound = told.1 }

pub returns-else-going : goal.returns-else-going
returns-else-going c =
    let args = c.args in
    let told = left_stopped args.turns args.going args.line c.if-turns-eq0.false c.nothing_is_left.ensures c.if-nothing_is_left.false c.if-going.false in
    record { value = told.0; upper_bound = told.1 }
