-- What the rules that both calls look at first tell where none applies, and how the rules behind them follow.
-- Assumes nothing.
use mathlib.Core.Path.{◌≡◌, refl, sym, ◌∙◌, ap}
use mathlib.Core.Bool.{Bool, true, false, cond, not, ◌||◌}
use mathlib.Core.List.{List, ◌++◌}
use Prim.Native.Nat.{ℕ, ◌+◌, ◌*◌, ◌/◌, ◌%◌, ◌≤◌, ◌<◌}
use native.Mathlib.Nat.{mul-le-mul, zero-div}
use native.Mathlib.Omega.{arith}
use lib.Dec.{T, eqb, ltb}
use borrow.Author.Tests.{eqb-true, eqb-false, ltb-false, eq-eqb, ne_eqb}
use Rattle.refusals.specs.Refusals.{Rule, first_of}
use Rattle.refusals.proofs.Refusals.{numbered, passed, listed, first_of_append}
use Rattle.segmentation.specs.Segmentation.{blocks}
use Rattle.segmentation.specs.Sizes.{bad_size}
use Rattle.segmentation.proofs.Segmentation.{in_range, blocks_least}
use Rattle.codeword.specs.Shares.{symbols}
use Rattle.codeword.specs.Build.{bad_modulation, bad_layers, bad_symbol, bad_length, size_rule, symbol_rule}
use Rattle.codeword.proofs.Accepted as accepted
use Rattle.codeword.proofs.Segmented.{sized, unsized}
use Rattle.reports.specs.Refusals.{bad_report, bad_control, report_rule, control_rule, shape_rules}

-- ---- one list of rules behind another

pub passed_on : (rs ss : List Rule) {n : ℕ} → T (numbered rs) → n ≡ first_of rs → n ≡ 0 → first_of (rs ++ ss) ≡ first_of ss
passed_on rs ss t e z =
    let none : first_of rs ≡ 0 = sym e ∙ z in
    first_of_append rs ss t ∙ ap (λ (b : Bool). cond b (first_of ss) (first_of rs)) (eq-eqb (first_of rs) 0 none)

pub stopped : (rs ss : List Rule) {n : ℕ} → T (numbered rs) → n ≡ first_of rs → (n ≡ 0 → ⊥) → n ≡ first_of (rs ++ ss)
stopped rs ss t e z =
    e ∙ sym (first_of_append rs ss t ∙ ap (λ (b : Bool). cond b (first_of ss) (first_of rs)) (ne_eqb (first_of rs) 0 (λ h. z (e ∙ h))))

-- the earlier rules do not apply where none does
pub earlier : (rs ss : List Rule) → T (numbered rs) → first_of (rs ++ ss) ≡ 0 → first_of rs ≡ 0
earlier rs ss t e = go (eqb (first_of rs) 0) refl
  where
    go : (b : Bool) → eqb (first_of rs) 0 ≡ b → first_of rs ≡ 0
    go true h = eqb-true (first_of rs) 0 h
    go false h = ap (λ (b : Bool). cond b (first_of ss) (first_of rs)) (sym h) ∙ sym (first_of_append rs ss t) ∙ e

-- ---- Q and N

pub symbol_some : (Q N : ℕ) → bad_symbol Q N ≡ false → 0 < Q
unfolding bad_symbol
symbol_some Q N e = (accepted.modulation Q (accepted.or-false (bad_modulation Q) (bad_layers N) e).0).0

-- what the tests on the way to the number tell
pub ruleset shaping = (sized, unsized, symbol_some)

-- ---- a report, an allocation and control bits that are in range

pub record Shaped (A Q N O control : ℕ) : Type 0 where
  pub size : bad_size A ≡ false
  pub symbol : bad_symbol Q N ≡ false
  pub least : 0 < O
  pub short : O ≤ 11
  pub layers : N ≤ 4
  pub per_layer : control ≤ 4096
  pub few : N * control ≤ 16384

pub shaped : (A Q N O control : ℕ) {n : ℕ} → n ≡ first_of (shape_rules A Q N O control) → n ≡ 0 → Shaped A Q N O control
unfolding shape_rules bad_symbol bad_report bad_control
shaped A Q N O control {n} e z =
    let clear = passed (shape_rules A Q N O control) e z tt in
    let symbol = accepted.or-false (bad_modulation Q) (bad_layers N) (clear (symbol_rule Q N) (search listed)) in
    let report = accepted.or-false (eqb O 0) (ltb 11 O) (clear (report_rule O) (search listed)) in
    let some = accepted.or-false (eqb control 0) (ltb 4096 control || not (eqb (control % Q) 0)) (clear (control_rule Q control) (search listed)) in
    let most = accepted.or-false (ltb 4096 control) (not (eqb (control % Q) 0)) some.1 in
    let n4 : N ≤ 4 = (accepted.layers N symbol.1).1 in
    let c4 : control ≤ 4096 = ltb-false 4096 control most.0 in
    record {
      size = clear (size_rule A) (search listed);
      symbol = clear (symbol_rule Q N) (search listed);
      least = omega (arith, eqb-false O 0 report.0);
      short = ltb-false 11 O report.1;
      layers = n4;
      per_layer = c4;
      few = mul-le-mul n4 c4;
    }

-- an accepted allocation has some bits
pub some_data : (A Q N G : ℕ) → bad_size A ≡ false → bad_symbol Q N ≡ false → bad_length (blocks (A + 24)) Q N G ≡ false → 0 < G
unfolding symbols
some_data A Q N G good s e = go (eqb G 0) refl
  where
    low : 1 ≤ blocks (A + 24)
    low = blocks_least (A + 24) (omega (arith, (in_range A good).1))

    go : (t : Bool) → eqb G 0 ≡ t → 0 < G
    go true h =
        let none : G / (N * Q) ≡ 0 = ap (λ (g : ℕ). g / (N * Q)) (eqb-true G 0 h) ∙ zero-div (N * Q) in
        absurd (omega (arith, low, (accepted.allocated (blocks (A + 24)) Q N G (accepted.allocation_of (blocks (A + 24)) Q N G s e)).enough))
    go false h = omega (arith, eqb-false G 0 h)

-- what the tests behind those of the shape tell
pub ruleset ordered = (stopped, passed_on, shaped)
