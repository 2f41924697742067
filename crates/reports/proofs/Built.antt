-- Build with a report: what number 0 tells, and the output when both parts are back.
-- Assumes nothing.
use mathlib.Core.Path.{◌≡◌, refl, sym, ◌∙◌, ap, ap₂}
use mathlib.Core.List.{List, [], ◌∷◌, ◌++◌, append_assoc}
use Prim.Native.Nat.{ℕ, ◌+◌, ◌-◌, ◌*◌, ◌≤◌}
use native.Mathlib.Omega.{arith}
use lib.ListN.{length, take, drop, length-drop, length-append}
use lib.Seq.{length-take-le, drop-drop, take-length, drop_at}
use borrow.Author.Tests.{ltb-false, le-ltb, eq-eqb}
use borrow.Rule.Slice.PartMut.{mid_of, put_mid}
use Rattle.laws.specs.Bits.{AreBits}
use Rattle.laws.proofs.Parts.{rest_back}
use Rattle.refusals.specs.declared.Refusal.{Refusal}
use Rattle.refusals.specs.Refusals.{Rule, first_of}
use Rattle.refusals.specs.Refusals as refusing
use Rattle.refusals.proofs.Numbers.{refusal_ne0}
use Rattle.refusals.proofs.Refusals.{passed, listed}
use Rattle.segmentation.specs.Segmentation.{blocks}
use Rattle.codeword.specs.declared.Grant.{Grant}
use Rattle.codeword.specs.Codeword.{codeword}
use Rattle.codeword.specs.Build as plain
use Rattle.codeword.specs.Build.{bad_length, bad_version, bad_bits, length_rule, version_rule, output_rule, bits_rule, build_output}
use Rattle.codeword.proofs.Accepted.{given_bits}
use Rattle.report_code.specs.Code.{control_bits, repeated, block}
use Rattle.report_code.specs.Words.{number_of, message_bits}
use Rattle.report_code.proofs.Linear.{block_number}
use Rattle.report_code.proofs.Folding.{length_repeated}
use Rattle.reports.specs.Refusals.{shape_rules, build_rules}
use Rattle.reports.specs.Calls.{report_build_number, multiplexed, report_build_output}
use Rattle.reports.proofs.Shape.{earlier, Shaped, shaped}

-- the rules behind those that both calls look at first
abbrev others : List ℕ → ℕ → List ℕ → Grant → ℕ → List Rule
others o control a g lent =
    length_rule (blocks (length a + 24)) g.modulation g.layers g.bits
    ∷ version_rule g.version
    ∷ output_rule (g.layers * control + g.bits) lent
    ∷ bits_rule o
    ∷ bits_rule a
    ∷ []

-- ---- what number 0 tells

pub record Accepted (o : List ℕ) (control : ℕ) (a : List ℕ) (g : Grant) (lent : ℕ) : Type 0 where
  pub shape : Shaped (length a) g.modulation g.layers (length o) control
  pub codeword_fits : plain.build_number a g (lent - g.layers * control) ≡ 0
  pub enough : g.layers * control + g.bits ≤ lent
  pub report_bits : AreBits o

pub accepted : (o : List ℕ) (control : ℕ) (a : List ℕ) (g : Grant) (lent : ℕ) → report_build_number o control a g lent ≡ 0 → Accepted o control a g lent
unfolding report_build_number build_rules shape_rules bad_version plain.build_number plain.build_rules first_of
accepted o control a g lent h =
    let shape = shaped (length a) g.modulation g.layers (length o) control refl (earlier (shape_rules (length a) g.modulation g.layers (length o) control) (others o control a g lent) tt h) in
    let clear = passed (build_rules o control a g lent) refl h tt in
    let long : g.layers * control + g.bits ≤ lent = ltb-false lent (g.layers * control + g.bits) (clear (output_rule (g.layers * control + g.bits) lent) (search listed)) in
    let length-fits = clear (length_rule (blocks (length a + 24)) g.modulation g.layers g.bits) (search listed) in
    record {
      shape = shape;
      codeword_fits =
          simp (
            shape.size,
            shape.symbol,
            length-fits,
            le-ltb 3 g.version (ltb-false 3 g.version (clear (version_rule g.version) (search listed))),
            le-ltb (lent - g.layers * control) g.bits (omega arith),
            clear (bits_rule a) (search listed),
          );
      enough = long;
      report_bits = given_bits o (clear (bits_rule o) (search listed));
    }

-- ---- the output

pub refused_output : (o : List ℕ) (control : ℕ) (a : List ℕ) (g : Grant) (out : List ℕ) (refusal : Refusal) → refusing.number_of refusal ≡ report_build_number o control a g (length out)
    → out ≡ report_build_output o control a g out
unfolding report_build_output
refused_output o control a g out refusal e = rw (← e, refusal_ne0 refusal)

-- the control bits by the report's number
pub control_is : (o : List ℕ) (n : ℕ) → length o ≤ 11 → AreBits o → control_bits (message_bits 11 (number_of o)) n ≡ control_bits o n
unfolding control_bits
control_is o n l h = ap (λ (b : List ℕ). repeated b n) (block_number o l h)

length_control : (o : List ℕ) (n : ℕ) → length (control_bits o n) ≡ n
unfolding control_bits
length_control o n = length_repeated (block o) n

module _ (o : List ℕ) (control : ℕ) (a : List ℕ) (g : Grant) (out : List ℕ) (h : report_build_number o control a g (length out) ≡ 0) where
  fits : g.layers * control ≤ length out
  fits = omega (arith, (accepted o control a g (length out) h).enough)

  module _ {m : ℕ} {ctl : List ℕ} (first : m ≡ number_of o) (told : ctl ≡ control_bits (message_bits 11 m) (length (take (g.layers * control) out))) where
    control_told : ctl ≡ control_bits o (g.layers * control)
    control_told =
        let w = accepted o control a g (length out) h in
        told
        ∙ ap₂ (λ (k n : ℕ). control_bits (message_bits 11 k) n) first (length-take-le (g.layers * control) out fits)
        ∙ control_is o (g.layers * control) w.shape.short w.report_bits

    control_long : length ctl ≡ g.layers * control
    control_long = ap length control_told ∙ length_control o (g.layers * control)

    -- the data begins within the output
    pub data_start : g.layers * control ≤ length (ctl ++ drop (g.layers * control) out)
    data_start = rw (length-append ctl (drop (g.layers * control) out)) (omega (arith, control_long))

    data_lent : mid_of (g.layers * control) (length (ctl ++ drop (g.layers * control) out) - g.layers * control) (ctl ++ drop (g.layers * control) out) ≡ drop (g.layers * control) out
    data_lent =
        ap (take (length (ctl ++ drop (g.layers * control) out) - g.layers * control)) (drop_at ctl (drop (g.layers * control) out) (g.layers * control) control_long)
        ∙ ap (λ (k : ℕ). take k (drop (g.layers * control) out)) left
        ∙ take-length (drop (g.layers * control) out)
      where
        left : length (ctl ++ drop (g.layers * control) out) - g.layers * control ≡ length (drop (g.layers * control) out)
        left = omega (arith, length-append ctl (drop (g.layers * control) out), control_long)

    data_number : plain.build_number a g (length (drop (g.layers * control) out)) ≡ 0
    data_number = ap (plain.build_number a g) (length-drop (g.layers * control) out) ∙ (accepted o control a g (length out) h).codeword_fits

    pub data_accepted : plain.build_number a g (length (mid_of (g.layers * control) (length (ctl ++ drop (g.layers * control) out) - g.layers * control) (ctl ++ drop (g.layers * control) out))) ≡ 0
    data_accepted = ap (λ (l : List ℕ). plain.build_number a g (length l)) data_lent ∙ data_number

    data_told : build_output a g (drop (g.layers * control) out) ≡ codeword a g ++ drop (g.layers * control + g.bits) out
    unfolding build_output
    data_told = simp (eq-eqb _ _ data_number) (ap (λ (l : List ℕ). codeword a g ++ l) (drop-drop g.bits (g.layers * control) out))

    -- both parts are back
    pub built_output : {tail : List ℕ}
        → tail ≡ build_output a g (mid_of (g.layers * control) (length (ctl ++ drop (g.layers * control) out) - g.layers * control) (ctl ++ drop (g.layers * control) out))
        → put_mid (g.layers * control) (length (ctl ++ drop (g.layers * control) out) - g.layers * control) (ctl ++ drop (g.layers * control) out) tail
        ≡ report_build_output o control a g out
    unfolding report_build_output multiplexed
    built_output {tail} e =
        rest_back ctl (drop (g.layers * control) out) (g.layers * control) control_long tail
        ∙ ap₂ (λ (x y : List ℕ). x ++ y) control_told (e ∙ ap (build_output a g) data_lent ∙ data_told)
        ∙ sym (append_assoc (control_bits o (g.layers * control)) (codeword a g) (drop (g.layers * control + g.bits) out))
        ∙ simp (eq-eqb _ _ h)
