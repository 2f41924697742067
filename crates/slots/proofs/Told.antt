-- Laws of how the code tells an answer and an outcome: no two are told alike, so that an equation for what is told is one for the answer itself.
-- Assumes nothing.
use Rattle.std.specs.Prelude.{◌≡◌, refl, ℕ, cond, eqb}
use mathlib.Core.Path.{sym, ◌∙◌, ap}
use Rattle.std.specs.declared.option.Option.{Option}
use Rattle.std.specs.declared.option.Option.TheVariants.{None, Some}
use Rattle.std.specs.declared.result.Result.{Result}
use Rattle.std.specs.declared.result.Result.TheVariants.{Ok, Err}
use Rattle.refusals.specs.Refusals.{refusal_of}
use Rattle.refusals.proofs.Numbers.{back}
use Rattle.slots.specs.declared.Outcome as code
use Rattle.slots.specs.declared.Reason.{Reason}
use Rattle.slots.specs.declared.Reason.TheVariants.{Rule, Lacking, WrongCodeBlock}
use Rattle.slots.specs.Outcome.{Answer, Done, StillLacking, Refused, RefusedWith, Outcome, answer_of, told}

-- the result that tells an answer
abbrev result_of : Answer → Result (Option ℕ) Reason
result_of Done = Ok None
result_of (StillLacking lacking) = Ok (Some lacking)
result_of (Refused number) = Err (Rule (refusal_of number))
result_of (RefusedWith number value) = cond (eqb number 11) (Err (Lacking value)) (Err (WrongCodeBlock value))

resulted : (a : Result (Option ℕ) Reason) → result_of (answer_of a) ≡ a
resulted (Ok None) = refl
resulted (Ok (Some lacking)) = refl
resulted (Err (Rule refusal)) = ap (λ r. Err (Rule r)) (back refusal)
resulted (Err (Lacking places)) = refl
resulted (Err (WrongCodeBlock block)) = refl

-- no two answers are told alike
pub answer_tells : (a b : Result (Option ℕ) Reason) → answer_of a ≡ answer_of b → a ≡ b
answer_tells a b e = sym (resulted a) ∙ (ap result_of e ∙ resulted b)

-- nor two outcomes
pub told_tells : (x y : code.Outcome) → told x ≡ told y → x ≡ y
told_tells x y e = λ i. record { answer = answer_tells x.answer y.answer (ap (λ (o : Outcome). o.answer) e) i; state = ap (λ (o : Outcome). o.state) e i }
