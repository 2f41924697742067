-- The rule of the columns, clause 5.1.4.1.1: it gives the numbers of Table 5.1.4-1 as printed, permutes the 32 columns and is its own inverse.
-- Assumes nothing.
use mathlib.Core.Path.{◌≡◌, refl, sym, ◌∙◌}
use mathlib.Core.Bool.{Bool, true, false, ◌&&◌, and-eq-true_iff}
use mathlib.Core.List.{List}
use Prim.Native.Nat.{ℕ, ◌+◌, ◌*◌, ◌/◌, ◌%◌, ◌≤◌, ◌<◌}
use native.Mathlib.Omega.{arith}
use lib.Dec.{ltb, eqb}
use lib.ListN.{length, get_or, get_or-eq_default}
use borrow.Author.Tests.{ltb-true, ltb-false, eqb-true, lt-ltb, le-ltb}
use Rattle.laws.specs.Lists.{tab}
use Rattle.laws.specs.Bits.{bits_of}
use Rattle.laws.specs.inner.Computed.{all_below}
use Rattle.laws.proofs.Computed.{all_below_at, T_true}
use Rattle.laws.proofs.Tab.{length_tab, get_or_tab}
use Rattle.rate_matching.specs.Columns.{number_of, turned_round, column_table, column}
use Rattle.rate_matching.specs.Printed.{printed_columns}

-- the rule gives what is printed at c, which is one of the 32, and what is printed there is c
test : ℕ → Bool
test c = eqb (column c) (get_or printed_columns c 0) && (ltb (column c) 32 && eqb (column (column c)) c)

-- what the test says of a column
record Tested (c : ℕ) : Type 0 where
  printed : column c ≡ get_or printed_columns c 0
  below : column c < 32
  back : column (column c) ≡ c

tested : (c : ℕ) → c < 32 → Tested c
unfolding all_below number_of bits_of turned_round column printed_columns test
tested c h = go (T_true (test c) (all_below_at test 32 tt c h))
  where
    go : test c ≡ true → Tested c
    go t =
        let l = (and-eq-true_iff (eqb (column c) (get_or printed_columns c 0)) (ltb (column c) 32 && eqb (column (column c)) c)).0 t in
        let r = (and-eq-true_iff (ltb (column c) 32) (eqb (column (column c)) c)).0 l.1 in
        record { printed = eqb-true _ _ l.0; below = ltb-true _ _ r.0; back = eqb-true _ _ r.1 }

-- P(c) is the number that Table 5.1.4-1 prints for column c
pub column_printed : (c : ℕ) → c < 32 → column c ≡ get_or printed_columns c 0
column_printed c h = (tested c h).printed

pub column_rule : (c : ℕ) → c < 32 → (column c < 32) × (column (column c) ≡ c)
column_rule c h = ((tested c h).below, (tested c h).back)

-- the rule written out: the lowest bit counts 16, the next 8, and so on
pub rule_is : (c : ℕ) → turned_round c ≡ c % 2 * 16 + c / 2 % 2 * 8 + c / 4 % 2 * 4 + c / 8 % 2 * 2 + c / 16 % 2
unfolding turned_round number_of bits_of
rule_is c = omega arith

-- the 32 columns go by the rule
pub column_turned : (c : ℕ) → c < 32 → column c ≡ turned_round c
unfolding column
column_turned c h = simp (lt-ltb c 32 h)

pub column_past : (c : ℕ) → 32 ≤ c → column c ≡ 0
unfolding column
column_past c h = simp (le-ltb c 32 h)

-- P(c) read from a list of them
pub table_at : {p : List ℕ} (c : ℕ) → p ≡ column_table → get_or p c 0 ≡ column c
unfolding column_table
table_at c e = rw e (go (ltb c 32) refl)
  where
    go : (t : Bool) → ltb c 32 ≡ t → get_or (tab 32 column) c 0 ≡ column c
    go true h = get_or_tab 32 column c 0 (ltb-true c 32 h)
    go false h =
        let past : 32 ≤ c = ltb-false c 32 h in
        let long : length (tab 32 column) ≤ c = omega (arith, length_tab 32 column) in
        get_or-eq_default (tab 32 column) 0 long ∙ sym (column_past c past)

pub table_below : {p : List ℕ} (c : ℕ) → p ≡ column_table → c < 32 → get_or p c 0 < 32
table_below c e h = rw (table_at c e) (column_rule c h).0
