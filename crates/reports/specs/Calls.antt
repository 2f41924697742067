-- Control reports with the data (02, E3): what Build with a report gives, and the way back. The control bits come before the data (clause 5.2.2.7).
-- Assumes nothing.
use Rattle.std.specs.Prelude.{cond, List, [], ◌∷◌, ◌++◌, ℕ, ◌+◌, ◌*◌, eqb, length, take, drop}
use Rattle.refusals.specs.Refusals.{Rule, rule, first_of}
use Rattle.codeword.specs.declared.Grant.{Grant}
use Rattle.codeword.specs.Codeword.{codeword}
use Rattle.report_code.specs.Code.{control_bits}
use Rattle.report_code.specs.Words.{message_bits}
use Rattle.report_code.specs.Nearest.{nearest_message}
use Rattle.reports.specs.Refusals.{build_rules, part_rules}

-- ---- Build with a report

-- the number that it answers: 0 where it is accepted
unfoldable pub report_build_number : List ℕ → ℕ → List ℕ → Grant → ℕ → ℕ
report_build_number o control a g size = first_of (build_rules o control a g size)

-- first place the control information, then place the data
unfoldable pub multiplexed : List ℕ → ℕ → List ℕ → Grant → List ℕ
multiplexed o control a g = control_bits o (g.layers * control) ++ codeword a g

-- the output afterwards: both parts over its first N·control + G bytes, or as it was
unfoldable pub report_build_output : List ℕ → ℕ → List ℕ → Grant → List ℕ → List ℕ
report_build_output o control a g out =
    cond (eqb (report_build_number o control a g (length out)) 0) (multiplexed o control a g ++ drop (g.layers * control + g.bits) out) out

-- ---- the way back

-- the control bits of a run, and the data
unfoldable pub control_part : ℕ → ℕ → List ℕ → List ℕ
control_part N control received = take (N * control) received

unfoldable pub past_control : ℕ → ℕ → List ℕ → List ℕ
past_control N control received = drop (N * control) received

-- two or more messages are nearest
abbrev pub tie_rule : ℕ → List ℕ → Rule
tie_rule O control = rule (nearest_message O control).tied 19

-- the number that it answers: 19 comes last
unfoldable pub part_number : ℕ → ℕ → ℕ → ℕ → ℕ → List ℕ → ℕ → ℕ
part_number A Q N O control received size =
    first_of (part_rules A Q N O control received size ++ (tie_rule O (control_part N control received) ∷ []))

-- the message that is nearest: its O bits
unfoldable pub nearest_report : ℕ → ℕ → ℕ → List ℕ → List ℕ
nearest_report N O control received = message_bits O (nearest_message O (control_part N control received)).message

-- the output afterwards: the O bits over its front, or as it was
unfoldable pub part_output : ℕ → ℕ → ℕ → ℕ → ℕ → List ℕ → List ℕ → List ℕ
part_output A Q N O control received out =
    cond (eqb (part_number A Q N O control received (length out)) 0) (nearest_report N O control received ++ drop O out) out

-- the data of a run that is not refused, else nothing; no output is lent, so none is too short
unfoldable pub data_part : ℕ → ℕ → ℕ → ℕ → ℕ → List ℕ → List ℕ
data_part A Q N O control received = cond (eqb (part_number A Q N O control received O) 0) (past_control N control received) []
