-- How many repeats at worst, in a planner's terms: for A, Q and N the least G of three transmissions, versions 0, 1 and 3, and the least G of one alone.
-- Refusals: 1 for A, then 3 for Q or N.
-- Assumes nothing.
use Rattle.std.specs.Prelude.{◌≡◌, Bool, false, cond, List, [], ◌∷◌, ℕ, ◌+◌, ◌≤◌, ◌<◌}
use Rattle.std.specs.declared.result.Result.{Result}
use Rattle.std.specs.declared.result.Result.TheVariants.{Ok, Err}
use Rattle.refusals.specs.declared.Refusal.{Refusal}
use Rattle.refusals.specs.Refusals.{Rule, first_of, given_by}
use Rattle.segmentation.specs.Segmentation.{blocks}
use Rattle.segmentation.specs.Sizes.{bad_size}
use Rattle.codeword.specs.Build.{size_rule, symbol_rule}
use Rattle.planning.specs.declared.Worst.{Worst}
use Rattle.planning.specs.Needs.{quarter, whole, need_of_three, need_of_one}
use Rattle.planning.specs.Least.{least_bits}

-- the least G of each of three transmissions
unfoldable pub least_of_three : ℕ → ℕ → ℕ → ℕ
least_of_three A Q N = least_bits (need_of_three A) (blocks (A + 24)) Q N

-- the least G of one alone
unfoldable pub least_of_one : ℕ → ℕ → ℕ → ℕ
least_of_one A Q N = least_bits (need_of_one A) (blocks (A + 24)) Q N

-- its refusals in 01's order
unfoldable pub worst_rules : ℕ → ℕ → ℕ → List Rule
worst_rules A Q N = size_rule A ∷ symbol_rule Q N ∷ []

unfoldable pub worst_number : ℕ → ℕ → ℕ → ℕ
worst_number A Q N = first_of (worst_rules A Q N)

-- the two, or the refusal
unfoldable pub worst_answer : ℕ → ℕ → ℕ → Result Worst Refusal
worst_answer A Q N = given_by (worst_number A Q N) (record { three = least_of_three A Q N; one = least_of_one A Q N })

-- its values: the least G of three, then of one
unfoldable pub values_of : Result Worst Refusal → List ℕ
values_of (Ok w) = w.three ∷ w.one ∷ []
values_of (Err refusal) = []

-- what a code block of K bits with F filler bits needs, of one transmission alone or of each of three
unfoldable pub need_by : Bool → ℕ → ℕ → ℕ
need_by alone K F = cond alone (whole K F) (quarter K)

unfoldable pub need_in : Bool → ℕ → ℕ → ℕ
need_in alone A r = cond alone (need_of_one A r) (need_of_three A r)

-- a block of A bits, A in range, and an allocation unit of `step` = N·Q bits
pub record Planned (A step : ℕ) : Type 0 where
  pub size : bad_size A ≡ false
  pub some : 0 < step
  pub most : step ≤ 24
