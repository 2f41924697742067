-- What `?` hands on from a rule that applies: the answer tells the rule's number.
-- Assumes nothing.
use mathlib.Core.Path.{◌≡◌, refl}
use Prim.Native.Nat.{ℕ}
use Rattle.std.specs.declared.option.Option.{Option}
use Rattle.std.specs.declared.result.Result.{Result}
use Rattle.std.specs.Result.{IsErr, IsErrAnd}
use Rattle.std.proofs.lemmas.Result.{err_from_is_err_and}
use Rattle.refusals.specs.declared.Refusal.{Refusal}
use Rattle.refusals.specs.Refusals.{number_of}
use Rattle.slots.specs.declared.Reason.{Reason}
use Rattle.slots.specs.declared.Reason.TheVariants.{Rule}
use Rattle.slots.specs.Outcome.{Refused, answer_of}

pub thrown : (refusal : Refusal) (r : Result (Option ℕ) Reason) → IsErr r × IsErrAnd r (λ y. y ≡ Rule refusal) → answer_of r ≡ Refused (number_of refusal)
thrown refusal r e = let p = err_from_is_err_and r e.1 in rw (p.1, p.2) refl
