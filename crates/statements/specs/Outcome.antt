-- A statement of what a call gives, and what it means that it admits a single outcome (01, 'How firm the statements must be').
-- Assumes nothing.
use Rattle.std.specs.Prelude.{◌≡◌}

-- an outcome: what a call answers, and what the lent bytes hold afterwards
pub record Given (A B : Type 0) : Type 0 where
  pub answer : A
  pub after : B

-- the statement that the outcome is this answer and these bytes
pub record Gives {A B : Type 0} (answer : A) (after : B) (g : Given A B) : Type 0 where
  pub answers : g.answer ≡ answer
  pub leaves : g.after ≡ after

-- no two outcomes meet the statement
abbrev pub SingleOutcome : {X : Type 0} → (X → Type 0) → Type 0
SingleOutcome {X} P = (x y : X) → P x → P y → x ≡ y
