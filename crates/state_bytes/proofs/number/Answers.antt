-- `number` meets its contract: each arm is a case of what is told.
-- Assumes nothing.
use mathlib.Core.Path.{◌≡◌, refl}
use Rattle.std.proofs.Common.{rules}
use Prim.Native.Nat.{ℕ}
use Rattle.std.specs.declared.option.Option.{Option}
use Rattle.std.specs.declared.option.Option.TheVariants.{None, Some}
use Rattle.std.specs.declared.result.Result.TheVariants.{Ok, Err}
use Rattle.slots.specs.Outcome.{answer_of}
use Rattle.slots.specs.Answers.{number_of}
use Rattle.state_bytes.proofs.number.Goals as goal

accepted : (lacking : Option ℕ) → 0 ≡ number_of (answer_of (Ok lacking))
unfolding number_of
accepted None = refl
accepted (Some places) = refl

pub returns-in-Ok : goal.returns-in-Ok
returns-in-Ok c = rw c.in-Ok.is (accepted c.in-Ok.field-0)

pub returns-in-Err-Rule : goal.returns-in-Err-Rule
unfolding number_of
returns-in-Err-Rule c = search rules

pub returns-in-Err-Lacking : goal.returns-in-Err-Lacking
unfolding number_of
returns-in-Err-Lacking c = search rules

pub returns-in-Err-WrongCodeBlock : goal.returns-in-Err-WrongCodeBlock
unfolding number_of
returns-in-Err-WrongCodeBlock c = search rules
