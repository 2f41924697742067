-- What the search by planes finds is the nearest message of the definition.
-- Assumes nothing.
use mathlib.Core.Path.{◌≡◌, ◌∙◌, ap}
use mathlib.Core.Bool.{false}
use mathlib.Core.List.{List, ◌++◌}
use Prim.Native.Nat.{ℕ, ◌+◌, ◌-◌, ◌/◌, ◌^◌, ◌≤◌, ◌<◌}
use native.Mathlib.Omega.{arith}
use lib.Pow.{pow_pos}
use lib.ListN.{length, get_or, replicate}
use borrow.Author.Tests.{ltb-false}
use Rattle.laws.specs.Bits.{AreBits}
use Rattle.laws.specs.Lists.{tab}
use Rattle.codeword.proofs.Accepted.{or-false, given_bits}
use Rattle.report_code.specs.Code.{block, repeated, control_bits}
use Rattle.report_code.specs.Words.{message_bits, word_of}
use Rattle.report_code.specs.inner.Counts.{plane}
use Rattle.report_code.specs.Nearest.{differences, distance, distance_of, nearest_up_to, nearest_message, unfit, nearest_of}
use Rattle.report_code.specs.inner.Counted.{Counted}
use Rattle.report_code.specs.inner.Search.{word_distance}
use Rattle.report_code.proofs.Entries.{kept}
use Rattle.report_code.proofs.Linear.{length_block, block_bits_lem, block_short}
use Rattle.report_code.proofs.Planes.{plane_distance_lem}
use Rattle.report_code.proofs.Least.{nearest_same}

-- arguments that are fit
pub record Fit (O : ℕ) (received : List ℕ) : Type 0 where
  pub short : O ≤ 11
  pub few : length received ≤ 16384
  pub bits : AreBits received

pub fit : (O : ℕ) (received : List ℕ) → unfit O received ≡ false → Fit O received
unfolding unfit
fit O received e =
    let first = or-false _ _ e in
    let others = or-false _ _ first.1 in
    record { short = ltb-false 11 O first.0; few = ltb-false 16384 (length received) others.0; bits = given_bits received others.1 }

module _ {O : ℕ} {received os zs os' zs' : List ℕ} (count : ℕ) (short : O ≤ 11) (counted : Counted received os zs)
    (enough : (length received + 31) / 32 < 2 ^ count) (o : os' ≡ tab count (plane os) ++ replicate {A = ℕ} (10 - count) 0)
    (z : zs' ≡ tab count (plane zs) ++ replicate {A = ℕ} (10 - count) 0) where
  -- the distance by planes is the distance place by place
  distance_is : (m : ℕ) → m < 2 ^ O → word_distance os' zs' count m ≡ distance_of O received m
  unfolding word_distance word_of distance_of distance control_bits
  distance_is m h =
      plane_distance_lem (block (message_bits 11 m)) os zs os' zs' count (length_block (message_bits 11 m)) (block_bits_lem (message_bits 11 m))
      (λ p l. ap (λ (r : List ℕ). get_or r p 0) o ∙ kept (plane os) count (10 - count) p l)
      (λ p l. ap (λ (r : List ℕ). get_or r p 0) z ∙ kept (plane zs) count (10 - count) p l)
      (λ i. omega (arith, counted.ones_few i))
      (λ i. omega (arith, counted.zeros_few i))
      ∙ counted.distances (block (message_bits 11 m)) (length_block (message_bits 11 m)) (block_bits_lem (message_bits 11 m))
      ∙ ap (λ (b : List ℕ). differences received (repeated b (length received))) (block_short O m short h)

  pub answered : nearest_up_to (word_distance os' zs' count) (2 ^ O - 1) ≡ nearest_message O received
  unfolding nearest_message
  answered =
      nearest_same (word_distance os' zs' count) (distance_of O received) (2 ^ O - 1)
      (λ k l. distance_is k (let some : 0 < 2 ^ O = pow_pos O in omega arith))

pub nearest_fit : (O : ℕ) (received : List ℕ) → unfit O received ≡ false → nearest_of O received ≡ nearest_message O received
unfolding nearest_of
nearest_fit O received e = simp e
