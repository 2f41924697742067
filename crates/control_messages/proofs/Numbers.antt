-- What number 0 of the two calls tells, and what the output holds then.
-- Assumes nothing.
use mathlib.Core.Path.{◌≡◌, refl, sym, ◌∙◌, ap}
use mathlib.Core.Bool.{Bool, true, false, ◌||◌}
use mathlib.Core.List.{List, ◌++◌}
use Prim.Native.Nat.{ℕ, ◌+◌, ◌≤◌, ◌<◌}
use native.Mathlib.Omega.{arith}
use lib.Dec.{eqb, ltb}
use lib.ListN.{length, drop}
use borrow.Author.Tests.{ltb-false, eqb-false, eq-eqb}
use Rattle.std.specs.declared.result.Result.TheVariants.{Ok}
use Rattle.refusals.specs.declared.Refusal.{Refusal}
use Rattle.refusals.specs.Refusals.{first_of, number_of, number_in}
use Rattle.refusals.proofs.Numbers.{refusal_ne0, given_ok}
use Rattle.refusals.proofs.Refusals.{passed, listed}
use Rattle.laws.specs.Bits.{AreBits}
use Rattle.codeword.specs.Build.{bad_bits, output_rule, bits_rule}
use Rattle.codeword.proofs.Accepted.{given_bits}
use Rattle.control_messages.specs.Message.{message}
use Rattle.control_messages.specs.Ownership.{owner_of}
use Rattle.control_messages.specs.Calls.{bad_payload, bad_run, payload_rule, run_rule, control_rules, control_number, control_output, whose_rules, whose_number, whose_answer}
use Rattle.control_messages.specs.Working.{Sized}

-- ---- building

no_truth : true ≡ false → ⊥
no_truth q = let z : ◌≡◌ {A = ℕ} 0 1 = cc in omega arith

-- what number 0 tells
pub record Accepted (a : List ℕ) (E lent : ℕ) : Type 0 where
  pub size : Sized (length a + 16)
  pub fits : E ≤ lent
  pub bits : AreBits a

either : (n m : ℕ) → (eqb n 0 || ltb m n) ≡ false → (0 < n) × (n ≤ m)
either n m e = go (eqb n 0) refl e
  where
    go : (b : Bool) → eqb n 0 ≡ b → (b || ltb m n) ≡ false → (0 < n) × (n ≤ m)
    go true t f = absurd (no_truth f)
    go false t f = (omega (arith, eqb-false n 0 t), ltb-false m n f)

pub accepted : (a : List ℕ) (E lent : ℕ) → control_number a E lent ≡ 0 → Accepted a E lent
unfolding control_number control_rules bad_payload
accepted a E lent h =
    let clear = passed (control_rules a E lent) refl h tt in
    let size = either (length a) 64 (clear (payload_rule (length a)) (search listed)) in record {
      size = record { least = omega (arith, size.0); most = omega (arith, size.1) };
      fits = ltb-false lent E (clear (output_rule E lent) (search listed));
      bits = given_bits a (clear (bits_rule a) (search listed));
    }

-- the output after a refusal, and after the message came back in its first E bytes
module _ (a : List ℕ) (t E : ℕ) (out : List ℕ) where
  pub refused_output : (refusal : Refusal) → number_of refusal ≡ control_number a E (length out) → out ≡ control_output a t E out
  unfolding control_output
  refused_output refusal e = rw (← e, refusal_ne0 refusal)

  pub built_output : {front : List ℕ} → control_number a E (length out) ≡ 0 → front ≡ message a t E → front ++ drop E out ≡ control_output a t E out
  unfolding control_output
  built_output h e = simp (eq-eqb _ _ h) (ap (λ (l : List ℕ). l ++ drop E out) e)

-- ---- the way back

module _ (run : List ℕ) where
  pub whose_is : bad_run (length run) ≡ false → bad_bits run ≡ false → 0 ≡ whose_number run
  unfolding whose_number whose_rules first_of
  whose_is size e = simp (size, e)

  pub whose_sized : whose_number run ≡ 0 → Sized (length run)
  unfolding whose_number whose_rules bad_run
  whose_sized h = go (ltb (length run) 17) refl (passed (whose_rules run) refl h tt (run_rule (length run)) (search listed))
    where
      go : (b : Bool) → ltb (length run) 17 ≡ b → (b || ltb 80 (length run)) ≡ false → Sized (length run)
      go true t f = absurd (no_truth f)
      go false t f = record { least = ltb-false (length run) 17 t; most = ltb-false 80 (length run) f }

  pub whose_bits : whose_number run ≡ 0 → AreBits run
  unfolding whose_number whose_rules
  whose_bits h = given_bits run (passed (whose_rules run) refl h tt (bits_rule run) (search listed))

  pub named_answer : {t : ℕ} → whose_number run ≡ 0 → t ≡ owner_of run → Ok t ≡ whose_answer run
  unfolding whose_answer
  named_answer h e = ap Ok e ∙ given_ok _ (sym h)

  -- the number of the answer is that of the first refusal that applies
  pub answer_number : number_in (whose_answer run) ≡ whose_number run
  unfolding whose_answer whose_number whose_rules first_of
  answer_number = go (bad_run (length run)) (bad_bits run) refl refl
    where
      go : (s t : Bool) → bad_run (length run) ≡ s → bad_bits run ≡ t → number_in (whose_answer run) ≡ whose_number run
      go true t e f = simp e
      go false true e f = simp (e, f)
      go false false e f = simp (e, f)
