use mathlib.Core.Path.{sym, ◌∙◌, ap}
use native.Mathlib.Omega.{arith}
use borrow.Author.Tests.{eqb-true}
use lib.ListN.{length}
use Rattle.laws.proofs.Parts.{length_mid}
use Rattle.state_bytes.specs.Numbers.{numbers_over}
use Rattle.state_bytes.proofs.Bytes.{fits, next, finish, none_over}
use Rattle.state_bytes.proofs.Back.{length_low}
use Rattle.state_bytes.proofs.numbers.put_numbers.Goals as goal

pub returns-then-is_empty : goal.returns-then-is_empty
returns-then-is_empty c = none_over _ _ (eqb-true (length c.args.numbers.now) 0 (sym c.is_empty.ensures ∙ c.if-is_empty.true))

pub loop-number-preserved : goal.loop-number-preserved
loop-number-preserved c =
    next c.loop-number.invariant c.loop-number-test.true c.put_number.ensures
    (length_mid _ _ _ (fits c.loop-number.invariant c.loop-number-test.true))
    (ap length c.put_number.ensures ∙ length_low _ _ ∙ length_mid _ _ _ (fits c.loop-number.invariant c.loop-number-test.true))

pub returns : goal.returns
unfolding numbers_over
returns c = finish c.loop-number.invariant c.loop-number-test.false
