-- What a call on slots answers, in the words of the rules paper's "Numbers given back", the state that it hands back, and how the code tells both.
-- Assumes nothing.
use Rattle.std.specs.Prelude.{ℕ}
use Rattle.std.specs.declared.option.Option.{Option}
use Rattle.std.specs.declared.option.Option.TheVariants.{None, Some}
use Rattle.std.specs.declared.result.Result.{Result}
use Rattle.std.specs.declared.result.Result.TheVariants.{Ok, Err}
use Rattle.refusals.specs.Refusals.{number_of}
use Rattle.slots.specs.declared.State.{State}
use Rattle.slots.specs.declared.Outcome as code
use Rattle.slots.specs.declared.Reason.{Reason}
use Rattle.slots.specs.declared.Reason.TheVariants.{Rule, Lacking, WrongCodeBlock}

-- accepted with nothing to tell; an accepted reception, so many data places still lacking a bit; a refusal by its number; one that brings a number
pub data Answer : Type 0 where
  Done : Answer
  StillLacking : ℕ → Answer
  Refused : ℕ → Answer
  RefusedWith : ℕ → ℕ → Answer

-- an answer and the state to hand to the next call
pub record Outcome : Type 0 where
  pub answer : Answer
  pub state : State

-- the answer that a result of the code tells
abbrev pub answer_of : Result (Option ℕ) Reason → Answer
answer_of (Ok None) = Done
answer_of (Ok (Some lacking)) = StillLacking lacking
answer_of (Err (Rule refusal)) = Refused (number_of refusal)
answer_of (Err (Lacking places)) = RefusedWith 11 places
answer_of (Err (WrongCodeBlock block)) = RefusedWith 16 block

-- the outcome that an outcome of the code tells
abbrev pub told : code.Outcome → Outcome
told outcome = record { answer = answer_of outcome.answer; state = outcome.state }
