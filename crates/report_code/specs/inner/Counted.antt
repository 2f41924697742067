-- What the counts of received control bits must be: each no more than the turns, and for every block of 32 bits they give its distance.
-- Assumes nothing.
use Rattle.std.specs.Prelude.{◌≡◌, List, ℕ, suc, ◌+◌, ◌/◌, length}
use Rattle.laws.specs.Bits.{EachBelow, AreBits}
use Rattle.report_code.specs.Code.{repeated}
use Rattle.report_code.specs.inner.Counts.{cost}
use Rattle.report_code.specs.Nearest.{differences}

pub record Counted (received heard_ones heard_zeros : List ℕ) : Type 0 where
  pub ones_long : length heard_ones ≡ 32
  pub zeros_long : length heard_zeros ≡ 32
  pub ones_few : EachBelow (suc ((length received + 31) / 32)) heard_ones
  pub zeros_few : EachBelow (suc ((length received + 31) / 32)) heard_zeros
  pub distances : (b : List ℕ) → length b ≡ 32 → AreBits b → cost b heard_ones heard_zeros ≡ differences received (repeated b (length received))
