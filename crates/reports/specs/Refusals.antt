-- What E3 of 02 refuses, each rule by its name, and the refusals of its two calls in their order.
-- Assumes nothing.
use Rattle.std.specs.Prelude.{Bool, not, ◌||◌, List, [], ◌∷◌, ◌++◌, ℕ, ◌+◌, ◌-◌, ◌*◌, ◌%◌, eqb, ltb, length}
use Rattle.refusals.specs.Refusals.{Rule, rule}
use Rattle.segmentation.specs.Segmentation.{blocks}
use Rattle.codeword.specs.declared.Grant.{Grant}
use Rattle.codeword.specs.Build.{size_rule, symbol_rule, length_rule, version_rule, output_rule, bits_rule}

-- number 17: a report has 1 to 11 bits
unfoldable pub bad_report : ℕ → Bool
bad_report O = eqb O 0 || ltb 11 O

-- number 18: the control bits a layer are a positive multiple of Q, at most 4,096
unfoldable pub bad_control : ℕ → ℕ → Bool
bad_control Q control = eqb control 0 || (ltb 4096 control || not (eqb (control % Q) 0))

-- both by their names; the others are Build's
abbrev pub report_rule : ℕ → Rule
report_rule O = rule (bad_report O) 17

abbrev pub control_rule : ℕ → ℕ → Rule
control_rule Q control = rule (bad_control Q control) 18

-- what both calls look at first, for a block of A bits and a report of O: 1, 3 (Q, N), 17, 18
unfoldable pub shape_rules : ℕ → ℕ → ℕ → ℕ → ℕ → List Rule
shape_rules A Q N O control = size_rule A ∷ symbol_rule Q N ∷ report_rule O ∷ control_rule Q control ∷ []

-- Build with a report o: then 3 (G), 4, 5, 2; the output has N·control + G bits
unfoldable pub build_rules : List ℕ → ℕ → List ℕ → Grant → ℕ → List Rule
build_rules o control a g size =
    shape_rules (length a) g.modulation g.layers (length o) control
    ++ (length_rule (blocks (length a + 24)) g.modulation g.layers g.bits
    ∷ version_rule g.version
    ∷ output_rule (g.layers * control + g.bits) size
    ∷ bits_rule o
    ∷ bits_rule a
    ∷ [])

-- the way back before the messages are compared: then 3 (G), 5, 2; G is what the run has past its N·control control bits
unfoldable pub part_rules : ℕ → ℕ → ℕ → ℕ → ℕ → List ℕ → ℕ → List Rule
part_rules A Q N O control received size =
    shape_rules A Q N O control
    ++ (length_rule (blocks (A + 24)) Q N (length received - N * control) ∷ output_rule O size ∷ bits_rule received ∷ [])
