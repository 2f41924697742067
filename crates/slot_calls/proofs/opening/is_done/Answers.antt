-- `opening::is_done` meets its contract: of the answers that are told, one is done.
-- Assumes nothing.
use mathlib.Core.Path.{◌≡◌, refl}
use mathlib.Core.Bool.{Bool, true, false, not}
use Prim.Native.Nat.{ℕ}
use Rattle.std.specs.Option.{is_some}
use Rattle.std.specs.declared.option.Option.{Option}
use Rattle.std.specs.declared.option.Option.TheVariants.{None, Some}
use Rattle.std.specs.declared.result.Result.TheVariants.{Ok, Err}
use Rattle.slots.specs.declared.Reason.{Reason}
use Rattle.slots.specs.declared.Reason.TheVariants.{Rule, Lacking, WrongCodeBlock}
use Rattle.slots.specs.Outcome.{answer_of}
use Rattle.slots.specs.Answers.{is_done}
use Rattle.slot_calls.proofs.opening.is_done.Goals as goal

accepted : (lacking : Option ℕ) (none : Bool) → is_some lacking ≡ not none → none ≡ is_done (answer_of (Ok lacking))
unfolding is_done
accepted None true e = refl
accepted None false e = absurd (cc)
accepted (Some places) true e = absurd (cc)
accepted (Some places) false e = refl

refused : (reason : Reason) → false ≡ is_done (answer_of (Err reason))
unfolding is_done
refused (Rule refusal) = refl
refused (Lacking places) = refl
refused (WrongCodeBlock block) = refl

pub returns-in-Ok : goal.returns-in-Ok
returns-in-Ok c = rw c.in-Ok.is (accepted c.in-Ok.lacking c.is_none.result c.is_none.ensures)

pub returns-in-Err : goal.returns-in-Err
returns-in-Err c = rw c.in-Err.is (refused c.in-Err.field-0)
