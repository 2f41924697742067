-- The loop that writes the interleaved bits: the counters stand at Π(i), and the bits from place i on are still to come.
-- Assumes nothing.
use mathlib.Core.Path.{◌≡◌, sym}
use mathlib.Core.List.{List, ◌∷◌}
use Prim.Native.Nat.{ℕ, ◌+◌, ◌*◌, ◌-◌, ◌%◌, ◌≤◌, ◌<◌}
use native.Mathlib.Nat.{mod-lt}
use native.Mathlib.Omega.{arith}
use lib.ListN.{length, get_or, set}
use Rattle.laws.specs.Lists.{tab_from}
use Rattle.laws.proofs.Writing as W
use Rattle.laws.proofs.Writing.{Writing}
use Rattle.laws.proofs.Tab.{tab_rest, rest_more, rest_none}
use Rattle.interleaver.specs.Into.{bit_by, bits_by}
use Rattle.interleaver.proofs.Counters as C
use Rattle.interleaver.proofs.Counters.{Counters}

-- out₀ has become out, and the counters are g, p and i; g grows by step
pub record Walking (K f1 f2 : ℕ) (c out₀ : List ℕ) (step : ℕ) (out : List ℕ) (g p i : ℕ) : Type 0 where
  pub writing : Writing out₀ out i (tab_from i (K - i) (bit_by K f1 f2 c)) (bits_by K f1 f2 c)
  pub counters : Counters K f1 f2 i p g
  pub steps : step ≡ 2 * f2 % K
  pub below : step < K

module _ {K f1 f2 : ℕ} {c out₀ : List ℕ} {step : ℕ} where
  pub start : {g : ℕ} → 0 < K → step ≡ 2 * f2 % K → g ≡ (f1 + f2) % K → Walking K f1 f2 c out₀ step out₀ g 0 0
  unfolding bits_by
  start some s e = record {
    writing = W.same (sym (tab_rest K (bit_by K f1 f2 c))) W.start;
    counters = rw e (C.start K f1 f2 some);
    steps = s;
    below = rw s (mod-lt (2 * f2) some);
  }

  pub next : {out : List ℕ} {g p i g' p' : ℕ} → length out₀ ≡ K → i < K → p' ≡ (p + g) % K → g' ≡ (g + step) % K
      → Walking K f1 f2 c out₀ step out g p i → Walking K f1 f2 c out₀ step (set out i (get_or c p 0)) g' p' (i + 1)
  unfolding bit_by
  next {p = p} {i = i} e h ep eg w = record {
    writing = W.push (omega (arith, w.writing.long)) (W.same one w.writing);
    counters = rw (ep, eg, w.steps) (C.next K f1 f2 (omega arith) w.counters);
    steps = w.steps;
    below = w.below;
  }
    where
      one : tab_from i (K - i) (bit_by K f1 f2 c) ≡ get_or c p 0 ∷ tab_from (i + 1) (K - (i + 1)) (bit_by K f1 f2 c)
      one = rw w.counters.place (rest_more i K (bit_by K f1 f2 c) h)

  pub finish : {out : List ℕ} {g p i : ℕ} → length out₀ ≡ K → K ≤ i → Walking K f1 f2 c out₀ step out g p i → out ≡ bits_by K f1 f2 c
  finish {i = i} e h w = W.finish_all (omega (arith, w.writing.long)) (rest_none i K (bit_by K f1 f2 c) h) w.writing
