-- A test over a range of numbers, to be computed by the prover.
-- Assumes nothing.
use Rattle.std.specs.Prelude.{Bool, true, false, ℕ, zero, suc}

-- the test p passes at each number below n
unfoldable pub all_below : (ℕ → Bool) → ℕ → Bool
all_below p zero = true
all_below p (suc n) = elim (p n) [ true ↦ all_below p n | false ↦ false ]
