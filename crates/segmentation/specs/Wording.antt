-- The words of clause 5.1.2 on the sizes K+ and K−: a minimum and a maximum over table 5.1.3-3.
-- Assumes nothing.
use Rattle.std.specs.Prelude.{◌≡◌, ℕ, ◌*◌, ◌≤◌, ◌<◌}
use Rattle.interleaver.specs.Table.{size_at, row_count}

-- K stands in the table
abbrev pub Listed : ℕ → Type 0
Listed K = (row : ℕ) × (row < row_count) × (size_at row ≡ K)

-- "the minimum K in the table such that C·K ≥ B'"
pub record Minimum (C need K : ℕ) : Type 0 where
  pub listed : Listed K
  pub enough : need ≤ C * K
  pub least : (row : ℕ) → row < row_count → need ≤ C * size_at row → K ≤ size_at row

-- "the maximum K in the table such that K < K+"
pub record MaximumBelow (long K : ℕ) : Type 0 where
  pub listed : Listed K
  pub below : K < long
  pub most : (row : ℕ) → row < row_count → size_at row < long → size_at row ≤ K
