-- A rearrangement of 0 .. n - 1: what clause 5.1.3.2.3 has Π be of the places of a code block.
-- Assumes nothing.
use Rattle.std.specs.Prelude.{◌≡◌, ℕ, ◌<◌}

-- p takes the numbers below n to the numbers below n, no two to one, and leaves none out
pub record Rearrangement (n : ℕ) (p : ℕ → ℕ) : Type 0 where
  pub within : (i : ℕ) → i < n → p i < n
  pub one_to_one : (i j : ℕ) → i < n → j < n → p i ≡ p j → i ≡ j
  pub onto : (j : ℕ) → j < n → (i : ℕ) × (i < n) × (p i ≡ j)
