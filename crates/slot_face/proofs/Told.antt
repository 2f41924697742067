-- An outcome told in numbers and bytes: what is told of a call's outcome is told of what its contract says it is.
-- Assumes nothing.
use mathlib.Core.Path.{◌≡◌, ◌∙◌, ap}
use mathlib.Core.List.{List}
use Prim.Native.Nat.{ℕ}
use Rattle.slots.specs.Outcome.{Outcome}
use Rattle.slots.specs.Answers.{number_of}
use Rattle.state_bytes.specs.StateBytes.{bytes_after, value_of}

module _ {o said : Outcome} (e : o ≡ said) where
  pub numbered : {n : ℕ} → n ≡ number_of o.answer → n ≡ number_of said.answer
  numbered h = h ∙ ap (λ (x : Outcome). number_of x.answer) e

  pub valued : {n : ℕ} (before : ℕ) → n ≡ value_of o.answer before → n ≡ value_of said.answer before
  valued before h = h ∙ ap (λ (x : Outcome). value_of x.answer before) e

  pub handed : {after : List ℕ} (slot : ℕ) (bytes : List ℕ) → after ≡ bytes_after o slot bytes → after ≡ bytes_after said slot bytes
  handed slot bytes h = h ∙ ap (λ (x : Outcome). bytes_after x slot bytes) e
