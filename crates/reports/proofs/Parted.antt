-- The way back: what number 0 tells, and what reading a run comes to.
-- Assumes nothing.
use mathlib.Core.Path.{◌≡◌, refl, sym, ◌∙◌, ap}
use mathlib.Core.Bool.{true, false, ◌||◌}
use mathlib.Core.List.{List, [], ◌∷◌, ◌++◌}
use Prim.Native.Nat.{ℕ, suc, ◌+◌, ◌-◌, ◌*◌, ◌/◌, ◌%◌, ◌≤◌, ◌<◌}
use native.Mathlib.Omega.{arith}
use lib.ListN.{length, take, drop, length-drop, take-append-drop}
use lib.Seq.{length-take-le, take-length}
use borrow.Author.Tests.{eqb-false, ltb-false, le-ltb, eq-eqb}
use Rattle.refusals.specs.declared.Refusal.{Refusal}
use Rattle.refusals.specs.Refusals.{Rule, first_of, number_of}
use Rattle.refusals.proofs.Numbers.{refusal_ne0}
use Rattle.refusals.proofs.Refusals.{passed, listed}
use Rattle.segmentation.specs.Segmentation.{blocks}
use Rattle.codeword.specs.Build.{bad_bits, length_rule, output_rule, bits_rule}
use Rattle.codeword.proofs.Accepted.{or-false}
use Rattle.codeword.proofs.Seen.{appended}
use Rattle.report_code.specs.Words.{message_bits}
use Rattle.report_code.specs.Nearest.{nearest_message, unfit, nearest_of}
use Rattle.report_code.proofs.Answered.{nearest_fit}
use Rattle.reports.specs.Refusals.{shape_rules, part_rules}
use Rattle.reports.specs.Calls.{control_part, past_control, tie_rule, part_number, nearest_report, part_output, data_part}
use Rattle.reports.proofs.Shape.{passed_on, stopped, earlier, some_data, Shaped, shaped}

abbrev others : ℕ → ℕ → ℕ → ℕ → ℕ → List ℕ → ℕ → List Rule
others A Q N O control received lent =
    length_rule (blocks (A + 24)) Q N (length received - N * control) ∷ output_rule O lent ∷ bits_rule received ∷ []

-- ---- what number 0 tells

pub record Accepted (A Q N O control : ℕ) (received : List ℕ) (lent : ℕ) : Type 0 where
  pub shape : Shaped A Q N O control
  pub ahead : N * control ≤ length received
  pub enough : O ≤ lent
  pub bits : bad_bits received ≡ false

pub accepted : (A Q N O control : ℕ) (received : List ℕ) (lent : ℕ) {n : ℕ} → n ≡ first_of (part_rules A Q N O control received lent) → n ≡ 0
    → Accepted A Q N O control received lent
unfolding part_rules shape_rules
accepted A Q N O control received lent {n} e z =
    let shape = shaped A Q N O control refl (earlier (shape_rules A Q N O control) (others A Q N O control received lent) tt (sym e ∙ z)) in
    let clear = passed (part_rules A Q N O control received lent) e z tt in
    record {
      shape = shape;
      ahead = omega (arith, some_data A Q N (length received - N * control) shape.size shape.symbol (clear (length_rule (blocks (A + 24)) Q N (length received - N * control)) (search listed)));
      enough = ltb-false lent O (clear (output_rule O lent) (search listed));
      bits = clear (bits_rule received) (search listed);
    }

-- ---- the message

some_number : (refusal : Refusal) → number_of refusal ≡ 0 → ⊥
some_number refusal e = eqb-false _ 0 (refusal_ne0 refusal) e

-- the control bits are fit for the search
front_fit : (A Q N O control : ℕ) (received : List ℕ) (lent : ℕ) → Accepted A Q N O control received lent → unfit O (control_part N control received) ≡ false
unfolding unfit control_part
front_fit A Q N O control received lent w =
    simp (
      le-ltb 11 O w.shape.short,
      le-ltb 16384 (length (take (N * control) received)) (rw (length-take-le (N * control) received w.ahead) w.shape.few),
      bits,
    )
  where
    whole : (bad_bits (take (N * control) received) || bad_bits (drop (N * control) received)) ≡ false
    whole = sym (appended (take (N * control) received) (drop (N * control) received)) ∙ ap bad_bits (take-append-drop (N * control) received) ∙ w.bits

    bits : bad_bits (take (N * control) received) ≡ false
    bits = (or-false (bad_bits (take (N * control) received)) (bad_bits (drop (N * control) received)) whole).0

module _ (A Q N O control : ℕ) (received : List ℕ) (lent : ℕ) {n : ℕ} (e : n ≡ first_of (part_rules A Q N O control received lent)) where
  pub refused_run : (refusal : Refusal) → number_of refusal ≡ n → number_of refusal ≡ part_number A Q N O control received lent
  unfolding part_number part_rules shape_rules
  refused_run refusal told =
      told ∙ stopped (part_rules A Q N O control received lent) (tie_rule O (control_part N control received) ∷ []) tt e (λ z. some_number refusal (told ∙ z))

  module _ (z : n ≡ 0) where
    pub found_is : nearest_of O (control_part N control received) ≡ nearest_message O (control_part N control received)
    found_is = nearest_fit O (control_part N control received) (front_fit A Q N O control received lent (accepted A Q N O control received lent e z))

    last_rule : part_number A Q N O control received lent ≡ first_of (tie_rule O (control_part N control received) ∷ [])
    unfolding part_number part_rules shape_rules
    last_rule = passed_on (part_rules A Q N O control received lent) (tie_rule O (control_part N control received) ∷ []) tt e z

    pub tied_run : (nearest_message O (control_part N control received)).tied ≡ true → 19 ≡ part_number A Q N O control received lent
    unfolding first_of
    tied_run h = sym (last_rule ∙ simp h)

    pub read_run_lem : (nearest_message O (control_part N control received)).tied ≡ false → 0 ≡ part_number A Q N O control received lent
    unfolding first_of
    read_run_lem h = sym (last_rule ∙ simp h)

-- ---- what a run that is read tells

pub run_accepted : (A Q N O control : ℕ) (received : List ℕ) (lent : ℕ) → part_number A Q N O control received lent ≡ 0 → Accepted A Q N O control received lent
unfolding part_number part_rules shape_rules
run_accepted A Q N O control received lent z =
    accepted A Q N O control received lent refl
    (earlier (part_rules A Q N O control received lent) (tie_rule O (control_part N control received) ∷ []) tt z)

-- ---- the output

pub refused_output : (A Q N O control : ℕ) (received out : List ℕ) (refusal : Refusal) → number_of refusal ≡ part_number A Q N O control received (length out)
    → out ≡ part_output A Q N O control received out
unfolding part_output
refused_output A Q N O control received out refusal e = rw (← e, refusal_ne0 refusal)

pub read_output_lem : (A Q N O control : ℕ) (received out : List ℕ) {front : List ℕ} → part_number A Q N O control received (length out) ≡ 0
    → front ≡ nearest_report N O control received → front ++ drop O out ≡ part_output A Q N O control received out
unfolding part_output
read_output_lem A Q N O control received out h e = simp (eq-eqb _ _ h) (ap (λ (l : List ℕ). l ++ drop O out) e)

pub no_data : (A Q N O control : ℕ) (received : List ℕ) (refusal : Refusal) → number_of refusal ≡ part_number A Q N O control received O → [] ≡ data_part A Q N O control received
unfolding data_part
no_data A Q N O control received refusal e = rw (← e, refusal_ne0 refusal)

pub the_data : (A Q N O control : ℕ) (received : List ℕ) → part_number A Q N O control received O ≡ 0 → drop (N * control) received ≡ data_part A Q N O control received
unfolding data_part past_control
the_data A Q N O control received h = simp (eq-eqb _ _ h)

pub all_behind : (k : ℕ) (xs : List ℕ) → k ≤ length xs → take (length xs - k) (drop k xs) ≡ drop k xs
all_behind k xs h = ap (λ (n : ℕ). take n (drop k xs)) (sym (length-drop k xs)) ∙ take-length (drop k xs)

-- ---- the bits of a message, one after another

pub message_more : (n i m : ℕ) → i < n → message_bits (n - i) m ≡ (m % 2) ∷ message_bits (n - (i + 1)) (m / 2)
unfolding message_bits
message_more n i m h = ap (λ (k : ℕ). message_bits k m) one
  where
    one : n - i ≡ suc (n - (i + 1))
    one = omega arith

pub message_none : (n i m : ℕ) → n ≤ i → message_bits (n - i) m ≡ []
unfolding message_bits
message_none n i m h = ap (λ (k : ℕ). message_bits k m) none
  where
    none : n - i ≡ 0
    none = omega arith
