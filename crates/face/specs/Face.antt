-- What the C scheduler's call of Sizes gives: 01's six numbers as bytes, refused with 1 and then with 5.
-- Assumes nothing.
use Rattle.std.specs.Prelude.{cond, List, [], ◌∷◌, ◌++◌, ℕ, eqb, ltb, length, drop}
use Rattle.refusals.specs.Refusals.{rule, first_of}
use Rattle.segmentation.specs.Sizes.{bad_size, sizes_answer, values_of}
use Rattle.state_bytes.specs.Numbers.{in_bytes}

-- the number that zemrukste_sizes answers for A and an output of `size` bytes: 1, then 5 where the output is too short
unfoldable pub sizes_number : ℕ → ℕ → ℕ
sizes_number A size = first_of (rule (bad_size A) 1 ∷ rule (ltb size 24) 5 ∷ [])

-- the output afterwards: the six numbers, four bytes each, over its first 24 bytes, or as it was
unfoldable pub sizes_bytes : ℕ → List ℕ → List ℕ
sizes_bytes A out = cond (eqb (sizes_number A (length out)) 0) (in_bytes 4 (values_of (sizes_answer A)) ++ drop 24 out) out
