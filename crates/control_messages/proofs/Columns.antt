-- The columns of table 5.1.4-2: the rule gives the numbers as printed, permutes the 32 columns, and every place past the dummies is read once.
-- Assumes nothing.
use mathlib.Core.Path.{◌≡◌, ◌∙◌, ap}
use mathlib.Core.Bool.{Bool}
use Prim.Native.Nat.{ℕ, ◌+◌, ◌%◌, ◌<◌}
use native.Mathlib.Nat.{mod-lt}
use native.Mathlib.Omega.{arith}
use lib.Dec.{eqb, eqb→eq, lit<}
use lib.ListN.{get_or}
use Rattle.laws.specs.Bits.{bits_of}
use Rattle.laws.specs.inner.Computed.{all_below}
use Rattle.laws.proofs.Computed.{all_below_at}
use Rattle.rate_matching.specs.Columns.{number_of, turned_round, column}
use Rattle.rate_matching.proofs.Columns.{column_rule}
use Rattle.rate_matching.proofs.Places.{Permuted}
use Rattle.control_messages.specs.RateMatching.{control_column}
use Rattle.control_messages.specs.Printed.{printed_control_columns}

test : ℕ → Bool
test c = eqb (control_column c) (get_or printed_control_columns c 0)

-- P(c) is the number that table 5.1.4-2 prints for column c
pub control_column_printed : (c : ℕ) → c < 32 → control_column c ≡ get_or printed_control_columns c 0
unfolding all_below number_of bits_of turned_round column control_column printed_control_columns test
control_column_printed c h = eqb→eq (control_column c) (get_or printed_control_columns c 0) (all_below_at test 32 tt c h)

-- where table 5.1.4-2 has the column p
abbrev pub control_place : ℕ → ℕ
control_place p = (column p + 16) % 32

half_turn : (c : ℕ) → c < 32 → ((c + 16) % 32 + 16) % 32 ≡ c
half_turn c h = omega arith

pub control_permuted : Permuted control_column control_place
unfolding control_column
control_permuted = record {
  there = λ c h.
      let half : (c + 16) % 32 < 32 = mod-lt (c + 16) (lit< tt) in
      ((column_rule ((c + 16) % 32) half).0, ap (λ (x : ℕ). (x + 16) % 32) (column_rule ((c + 16) % 32) half).1 ∙ half_turn c h);
  back = λ c h.
      (mod-lt (column c + 16) (lit< tt), ap column (half_turn (column c) (column_rule c h).0) ∙ (column_rule c h).1);
}
