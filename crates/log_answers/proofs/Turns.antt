-- Laws of a turn: the log and the text after it, by its parts; and the turns that are left.
-- Assumes nothing.
use mathlib.Core.Path.{◌≡◌, refl}
use mathlib.Core.Bool.{Bool, true, false}
use mathlib.Core.List.{List}
use Prim.Native.Nat.{ℕ, ◌-◌, ◌≤◌, ◌<◌}
use native.Mathlib.Omega.{arith}
use lib.ListN.{length}
use borrow.Author.Tests.{eq-eqb, ne_eqb}
use Rattle.log_input.specs.declared.Line.{Line}
use Rattle.log_input.specs.Line.{Stands, line_now, text_now, line_after, text_after, none_left}
use Rattle.yard.specs.declared.Step.{Step}
use Rattle.log_answers.specs.declared.Log.{Log}
use Rattle.log_answers.specs.Turn.{log_turned, text_turned, plain_turned, packed_turned, out_turned, turns_left}
use Rattle.log_answers.proofs.Answers.{Told}

same_log : {s s' : Step} {l l' : Line} → s ≡ s' → l ≡ l' → ◌≡◌ {A = Log} (record { step = s; line = l }) (record { step = s'; line = l' })
same_log e f = rw (e, f)

module _ (log : Log) (count : ℕ) (text plain packed out : List ℕ) {line : Line} {read : List ℕ} (line_is : line ≡ line_now log.line count text) (read_is : read ≡ text_now log.line count text) where
  pub turned : {step : Step} {plain' packed' out' : List ℕ} → Told log.step line read plain packed out step plain' packed' out'
      → {next : Line} {text' : List ℕ} → (next ≡ line_after line read) × ((text' ≡ text_after line read) × Stands next (length text'))
      → (record { step = step; line = next } ≡ log_turned log count text plain packed out)
      × ((text' ≡ text_turned log count text)
      × ((plain' ≡ plain_turned log count text plain packed (length out))
      × ((packed' ≡ packed_turned log count text plain packed (length out))
      × ((out' ≡ out_turned log count text plain packed out)
      × (Stands next (length text') × (step.written ≤ length out'))))))
  unfolding log_turned text_turned plain_turned packed_turned out_turned
  turned told after =
      rw (← line_is, ← read_is)
      (same_log told.0 after.0, (after.1.0, (told.1.0, (told.1.1.0, (told.1.1.1.0, (after.1.1, told.1.1.1.1))))))

module _ (turns : ℕ) (going : Bool) (line : Line) where
  -- the turns that are left
  abbrev Left : ℕ → Type 0
  Left r = (r ≡ turns_left turns going line) × (0 < turns → r < turns)

  pub left_of_none : turns ≡ 0 → Left 0
  unfolding turns_left
  left_of_none e = rw (eq-eqb turns 0 e) (refl, λ h. h)

  module _ (some : turns ≡ 0 → ⊥) {none : Bool} (told : none ≡ none_left line) where
    pub left_at_end : none ≡ true → Left 0
    unfolding turns_left
    left_at_end e = rw (ne_eqb turns 0 some, ← told, e) (refl, λ h. h)

    pub left_going : none ≡ false → going ≡ true → Left (turns - 1)
    unfolding turns_left
    left_going e g = rw (ne_eqb turns 0 some, ← told, e, g) (refl, λ h. omega (arith, h))

    pub left_stopped : none ≡ false → going ≡ false → Left 0
    unfolding turns_left
    left_stopped e g = rw (ne_eqb turns 0 some, ← told, e, g) (refl, λ h. h)
