-- Laws of a line's answer: it waits, or its answer is made, and what is written stands within the output.
-- Assumes nothing.
use mathlib.Core.Path.{◌≡◌, refl}
use mathlib.Core.List.{List}
use Prim.Native.Nat.{ℕ, ◌≤◌}
use native.Mathlib.Omega.{arith}
use lib.ListN.{length}
use borrow.Author.Tests.{eq-eqb, ne_eqb}
use Rattle.log_input.specs.declared.Line.{Line}
use Rattle.yard.specs.declared.Step.{Step}
use Rattle.yard.specs.Step.{step_within, plain_within, packed_within, out_within}
use Rattle.yard.proofs.Lines.{written_within}
use Rattle.log_answers.specs.Turn.{bytes_of, step_answered, plain_answered, packed_answered, out_answered}

module _ (before : Step) (line : Line) (text plain packed out : List ℕ) where
  -- the step, both stores and the output
  abbrev pub Told : Step → List ℕ → List ℕ → List ℕ → Type 0
  Told step plain' packed' out' =
      (step ≡ step_answered before line text plain packed out)
      × ((plain' ≡ plain_answered before line text plain packed (length out))
      × ((packed' ≡ packed_answered before line text plain packed (length out))
      × ((out' ≡ out_answered before line text plain packed out) × (step.written ≤ length out'))))

  pub waits : line.to ≡ line.end → Told (record { state = before.state; four = before.four; written = 0 }) plain packed out
  unfolding step_answered plain_answered packed_answered out_answered
  waits e = rw (eq-eqb line.to line.end e) (refl, (refl, (refl, (refl, omega arith))))

  pub answered : (line.to ≡ line.end → ⊥) → (step : Step) (plain' packed' out' : List ℕ)
      → (step ≡ step_within before.state before.four plain packed (bytes_of line text) out)
      × ((plain' ≡ plain_within before.state before.four plain packed (bytes_of line text) (length out))
      × ((packed' ≡ packed_within before.state before.four plain packed (bytes_of line text) (length out))
      × (out' ≡ out_within before.state before.four plain packed (bytes_of line text) out)))
      → length out' ≡ length out
      → Told step plain' packed' out'
  unfolding step_answered plain_answered packed_answered out_answered
  answered e step plain' packed' out' made long = rw (ne_eqb line.to line.end e) (made.0, (made.1.0, (made.1.1.0, (made.1.1.1, fits))))
    where
      fits : step.written ≤ length out'
      fits = rw (made.0, long) (written_within before.state before.four plain packed (bytes_of line text) out)
