-- The loop that finds four places a turn: each of four pairs of counters goes from Π(i) to Π(i + 4).
-- Assumes nothing.
use mathlib.Core.Path.{◌≡◌, refl, ap}
use mathlib.Core.List.{List}
use Prim.Native.Nat.{ℕ, ◌+◌, ◌*◌, ◌≤◌, ◌<◌}
use native.Mathlib.Nat.{mod-lt}
use native.Mathlib.Omega.{arith}
use lib.ListN.{length, get_or, set}
use Rattle.laws.specs.Lists.{tab}
use Rattle.interleaver.specs.declared.fours.Counter.{Counter}
use Rattle.interleaver.specs.declared.fours.Start.{Start}
use Rattle.interleaver.specs.Into.{bit_by}
use Rattle.interleaver.specs.inner.Quarters.{counter, counter_on, doubled, first_four}
use Rattle.interleaver.proofs.Filling as F
use Rattle.interleaver.proofs.Filling.{Filling}
use Rattle.interleaver.proofs.Strides as S
use Rattle.interleaver.proofs.Strides.{Stride}
use Rattle.interleaver.proofs.Alike.{Alike, remainder}

-- y₀ has become y, and the counters are a, b, c and d
pub record Finding (K f1 f2 : ℕ) (w y₀ : List ℕ) (step : ℕ) (y : List ℕ) (a b c d : Counter) (i : ℕ) : Type 0 where
  pub filling : Filling (length y₀) (bit_by K f1 f2 w) y₀ y i
  pub zeroth : Stride K f1 f2 i a.place a.back
  pub first : Stride K f1 f2 (i + 1) b.place b.back
  pub second : Stride K f1 f2 (i + 2) c.place c.back
  pub third : Stride K f1 f2 (i + 3) d.place d.back
  pub steps : Alike K step (32 * f2)
  pub below : step < K

module _ {K f1 f2 : ℕ} {w y₀ : List ℕ} where
  pub start : {r : Start} → 0 < K → r ≡ first_four K f1 f2 → Finding K f1 f2 w y₀ r.step y₀ r.zeroth r.first r.second r.third 0
  unfolding counter doubled first_four
  start some e = rw e record {
    filling = F.start refl;
    zeroth = S.start K f1 f2 some refl refl;
    first = S.start K f1 f2 some refl refl;
    second = S.start K f1 f2 some refl refl;
    third = S.start K f1 f2 some refl refl;
    steps = remainder refl;
    below = mod-lt (32 * f2) some;
  }

  pub next : {step : ℕ} {y : List ℕ} {a b c d a' b' c' d' : Counter} {i : ℕ} → i + 4 ≤ length y₀
      → a' ≡ counter_on K step a → b' ≡ counter_on K step b → c' ≡ counter_on K step c → d' ≡ counter_on K step d
      → Finding K f1 f2 w y₀ step y a b c d i
      → Finding K f1 f2 w y₀ step (set (set (set (set y i (get_or w a.place 0)) (i + 1) (get_or w b.place 0)) (i + 2) (get_or w c.place 0)) (i + 3) (get_or w d.place 0)) a' b' c' d' (i + 4)
  unfolding bit_by counter_on
  next {step} {y} {i = i} within ea eb ec ed f = rw (ea, eb, ec, ed) record {
    filling = one_more three_four f.third (one_more two_three f.second (one_more one_two f.first (F.next (omega arith) (ap (λ (x : ℕ). get_or w x 0) f.zeroth.place) f.filling)));
    zeroth = S.next K f1 f2 (omega arith) f.below f.steps f.zeroth;
    first = rw on1 at (S.next K f1 f2 (omega arith) f.below f.steps f.first);
    second = rw on2 at (S.next K f1 f2 (omega arith) f.below f.steps f.second);
    third = rw on3 at (S.next K f1 f2 (omega arith) f.below f.steps f.third);
    steps = f.steps;
    below = f.below;
  }
    where
      one_more : {j n p g : ℕ} {z : List ℕ} → (j + 1 ≡ n) × (j < length y₀) → Stride K f1 f2 j p g → Filling (length y₀) (bit_by K f1 f2 w) y₀ z j → Filling (length y₀) (bit_by K f1 f2 w) y₀ (set z j (get_or w p 0)) n
      one_more e s filled = rw e.0 at (F.next e.1 (ap (λ (x : ℕ). get_or w x 0) s.place) filled)

      one_two : (i + 1 + 1 ≡ i + 2) × (i + 1 < length y₀)
      one_two = (omega arith, omega arith)

      two_three : (i + 2 + 1 ≡ i + 3) × (i + 2 < length y₀)
      two_three = (omega arith, omega arith)

      three_four : (i + 3 + 1 ≡ i + 4) × (i + 3 < length y₀)
      three_four = (omega arith, omega arith)

      on1 : i + 1 + 4 ≡ i + 4 + 1
      on1 = omega arith

      on2 : i + 2 + 4 ≡ i + 4 + 2
      on2 = omega arith

      on3 : i + 3 + 4 ≡ i + 4 + 3
      on3 = omega arith

  pub finish : {step : ℕ} {y : List ℕ} {a b c d : Counter} {i : ℕ} → length y₀ ≤ i → Finding K f1 f2 w y₀ step y a b c d i → y ≡ tab (length y₀) (bit_by K f1 f2 w)
  finish h f = F.finish h f.filling
