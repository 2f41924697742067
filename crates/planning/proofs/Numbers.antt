-- What number 0 of `worst` tells: A in range, Q and N as 01 has them; and the answer then.
-- Assumes nothing.
use mathlib.Core.Path.{◌≡◌, refl}
use mathlib.Core.Bool.{Bool, true, false}
use Prim.Native.Nat.{ℕ, ◌+◌, ◌*◌, ◌≤◌}
use Rattle.std.specs.declared.result.Result.TheVariants.{Ok}
use Rattle.refusals.proofs.Numbers.{given_ok}
use Rattle.refusals.specs.Refusals.{first_of, number_in}
use Rattle.refusals.proofs.Refusals.{passed, listed}
use Rattle.segmentation.specs.Segmentation.{blocks}
use Rattle.segmentation.specs.Sizes.{bad_size}
use Rattle.codeword.specs.Build.{bad_symbol, size_rule, symbol_rule}
use Rattle.codeword.proofs.Accepted.{symbol_step}
use Rattle.codeword.proofs.Segmented.{sized, unsized}
use Rattle.planning.specs.Least.{least_symbols, least_bits}
use Rattle.planning.specs.Worst.{least_of_three, least_of_one, worst_rules, worst_number, worst_answer, need_in, Planned}
use Rattle.planning.proofs.Needs.{need_modest, few_blocks, least_small}

-- what the tests on the way to the number tell
pub ruleset accepting = (sized, unsized)

module _ (A Q N : ℕ) where
  -- what number 0 tells
  pub planned : worst_number A Q N ≡ 0 → Planned A (N * Q)
  unfolding worst_number worst_rules
  planned e =
      let clear = passed (worst_rules A Q N) refl e tt in
      let s = symbol_step Q N (clear (symbol_rule Q N) (search listed)) in
      record { size = clear (size_rule A) (search listed); some = s.0; most = s.1 }

  -- the number of the answer is that of the first refusal that applies
  pub answer_number : number_in (worst_answer A Q N) ≡ worst_number A Q N
  unfolding worst_answer worst_number worst_rules first_of
  answer_number = go (bad_size A) (bad_symbol Q N) refl refl
    where
      go : (s t : Bool) → bad_size A ≡ s → bad_symbol Q N ≡ t → number_in (worst_answer A Q N) ≡ worst_number A Q N
      go true t e f = simp e
      go false true e f = simp (e, f)
      go false false e f = simp (e, f)

  pub given_answer : {three one : ℕ} → 0 ≡ worst_number A Q N
      → three ≡ least_symbols (need_in false A) (blocks (A + 24)) (N * Q) → one ≡ least_symbols (need_in true A) (blocks (A + 24)) (N * Q)
      → Ok (record { three = N * Q * three; one = N * Q * one }) ≡ worst_answer A Q N
  unfolding worst_answer least_of_three least_of_one least_bits need_in
  given_answer e t o = rw (t, o) (given_ok _ e)

-- the least G is a small number
pub small : (A step : ℕ) (alone : Bool) {least : ℕ} → Planned A step → least ≡ least_symbols (need_in alone A) (blocks (A + 24)) step → step * least ≤ 92335
small A step alone p e = rw e (least_small (need_in alone A) (need_modest A p.size alone) (blocks (A + 24)) step (few_blocks A p.size) p.some p.most)
