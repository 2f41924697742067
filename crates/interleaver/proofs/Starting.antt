-- Where `find` begins: the sums make the multiples of f2, the first four places and what takes each of them back.
-- Assumes nothing.
use mathlib.Core.Path.{◌≡◌, sym, ◌∙◌, ap}
use Prim.Native.Nat.{ℕ, ◌+◌, ◌*◌, ◌-◌, ◌%◌, ◌<◌}
use native.Mathlib.Nat.{mod-eq_of_lt, zero-mod}
use native.Mathlib.Omega.{arith}
use Rattle.interleaver.specs.declared.fours.Doubled.{Doubled}
use Rattle.interleaver.specs.declared.fours.Start.{Start}
use Rattle.interleaver.specs.Place.{quadratic}
use Rattle.interleaver.specs.inner.Quarters.{doubled, ahead, back_from, counter, first_four}
use Rattle.interleaver.proofs.Alike.{sum, remainder}

-- m is what n leaves modulo K
record Rest (K m n : ℕ) : Type 0 where
  is : m ≡ n % K

itself : {K m : ℕ} → m < K → Rest K m m
itself low = record { is = sym (mod-eq_of_lt low) }

added : {K m a b a' b' n : ℕ} → m ≡ (a + b) % K → Rest K a a' → Rest K b b' → a' + b' ≡ n → Rest K m n
added {K} s e f whole = record { is = s ∙ (sum (remainder e.is) (remainder f.is)).rest ∙ ap (λ (x : ℕ). x % K) whole }

module _ (K f2 : ℕ) where
  pub doubled_by : {two four eight sixteen step : ℕ} → f2 < K
      → two ≡ (f2 + f2) % K → four ≡ (two + two) % K → eight ≡ (four + four) % K → sixteen ≡ (eight + eight) % K → step ≡ (sixteen + sixteen) % K
      → ◌≡◌ {A = Doubled} (record { four = four; eight = eight; sixteen = sixteen; step = step }) (doubled K f2)
  unfolding doubled
  doubled_by {two} {four} {eight} {sixteen} {step} low e2 e4 e8 e16 e32 = rw (fours.is, eights.is, sixteens.is, steps.is)
    where
      twos : Rest K two (2 * f2)
      twos = added e2 (itself low) (itself low) (omega arith)

      fours : Rest K four (4 * f2)
      fours = added e4 twos twos (omega arith)

      eights : Rest K eight (8 * f2)
      eights = added e8 fours fours (omega arith)

      sixteens : Rest K sixteen (16 * f2)
      sixteens = added e16 eights eights (omega arith)

      steps : Rest K step (32 * f2)
      steps = added e32 sixteens sixteens (omega arith)

module _ (K f1 f2 : ℕ) where
  pub first_by : {by : Doubled} {twice p1 p2 q p3 both way next third last : ℕ} → f1 < K → f2 < K → by ≡ doubled K f2
      → twice ≡ (f1 + f1) % K → p1 ≡ (f1 + f2) % K → p2 ≡ (twice + by.four) % K → q ≡ (p1 + p2) % K → p3 ≡ (q + by.four) % K
      → both ≡ (twice + twice) % K → way ≡ (both + by.sixteen) % K → next ≡ (way + by.eight) % K → third ≡ (way + by.sixteen) % K → last ≡ (next + by.sixteen) % K
      → ◌≡◌ {A = Start} (record {
        zeroth = record { place = 0; back = K - way };
        first = record { place = p1; back = K - next };
        second = record { place = p2; back = K - third };
        third = record { place = p3; back = K - last };
        step = by.step;
      }) (first_four K f1 f2)
  unfolding doubled quadratic ahead back_from counter first_four
  first_by {by} {twice} {p1} {p2} {q} {p3} {both} {way} {next} {third} {last} low1 low2 e et e1 e2 eq e3 eb ew en e-third e-last =
      rw (p1s.is, p2s.is, p3s.is, ways.is, nexts.is, thirds.is, lasts.is, ap (λ (d : Doubled). d.step) e, ← none)
    where
      none : 0 ≡ (f1 * 0 + f2 * (0 * 0)) % K
      none = sym (ap (λ (x : ℕ). x % K) (omega arith) ∙ zero-mod K)

      fours : Rest K by.four (4 * f2)
      fours = record { is = ap (λ (d : Doubled). d.four) e }

      eights : Rest K by.eight (8 * f2)
      eights = record { is = ap (λ (d : Doubled). d.eight) e }

      sixteens : Rest K by.sixteen (16 * f2)
      sixteens = record { is = ap (λ (d : Doubled). d.sixteen) e }

      twices : Rest K twice (2 * f1)
      twices = added et (itself low1) (itself low1) (omega arith)

      p1s : Rest K p1 (f1 * 1 + f2 * (1 * 1))
      p1s = added e1 (itself low1) (itself low2) (omega arith)

      p2s : Rest K p2 (f1 * 2 + f2 * (2 * 2))
      p2s = added e2 twices fours (omega arith)

      qs : Rest K q (3 * f1 + 5 * f2)
      qs = added eq p1s p2s (omega arith)

      p3s : Rest K p3 (f1 * 3 + f2 * (3 * 3))
      p3s = added e3 qs fours (omega arith)

      boths : Rest K both (4 * f1)
      boths = added eb twices twices (omega arith)

      ways : Rest K way (4 * f1 + f2 * (8 * 0 + 16))
      ways = added ew boths sixteens (omega arith)

      nexts : Rest K next (4 * f1 + f2 * (8 * 1 + 16))
      nexts = added en ways eights (omega arith)

      thirds : Rest K third (4 * f1 + f2 * (8 * 2 + 16))
      thirds = added e-third ways sixteens (omega arith)

      lasts : Rest K last (4 * f1 + f2 * (8 * 3 + 16))
      lasts = added e-last nexts sixteens (omega arith)
