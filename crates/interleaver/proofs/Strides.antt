-- Π four places on, by counters that run backwards modulo K: p less g and g less 32·f2 pass from Π(i) to Π(i + 4).
-- Assumes nothing.
use mathlib.Core.Path.{◌≡◌, refl, sym, ◌∙◌}
use Prim.Native.Nat.{ℕ, ◌+◌, ◌*◌, ◌-◌, ◌%◌, ◌≤◌, ◌<◌}
use native.Mathlib.Nat.{add-mod_right, mod-eq_of_lt, mod-lt}
use native.Mathlib.Omega.{arith}
use Rattle.interleaver.specs.Place.{quadratic}
use Rattle.interleaver.specs.inner.Quarters.{less, ahead, back_from}
use Rattle.interleaver.proofs.Alike.{Alike, same, turned, through, sum, remainder, less_sum, less_lt, less_le}

-- p and g at turn i
pub record Stride (K f1 f2 i p g : ℕ) : Type 0 where
  pub place : p ≡ quadratic K f1 f2 i
  pub way : Alike K (g + ahead f1 f2 i) 0
  pub within : p < K
  pub short : g ≤ K

-- what `back` is asked, of p less g
pub both_within : {K f1 f2 i p g : ℕ} → K ≤ 6144 → Stride K f1 f2 i p g → (p ≤ K) × (g ≤ K) × (K ≤ 6144)
both_within most s = (omega (arith, s.within), s.short, most)

module _ (K f1 f2 : ℕ) (some : 0 < K) where
  pub start : {i p g : ℕ} → p ≡ quadratic K f1 f2 i → g ≡ back_from K f1 f2 i → Stride K f1 f2 i p g
  unfolding quadratic back_from
  start {i} {p} {g} e h = record {
    place = e;
    way = rw h (through (sum (same refl) (turned (remainder refl))) (through (same whole) (record { rest = add-mod_right 0 K })));
    within = rw e (mod-lt (f1 * i + f2 * (i * i)) some);
    short = rw h (omega arith);
  }
    where
      low : ahead f1 f2 i % K < K
      low = mod-lt _ some

      whole : K - ahead f1 f2 i % K + ahead f1 f2 i % K ≡ 0 + K
      whole = omega (arith, low)

  pub next : {i p g step : ℕ} → step < K → Alike K step (32 * f2) → Stride K f1 f2 i p g → Stride K f1 f2 (i + 4) (less K p g) (less K g step)
  unfolding quadratic ahead
  next {i} {p} {g} {step} low s c = record {
    place = sym (mod-eq_of_lt inside) ∙ on.rest;
    way = through (same more) (through (sum (through (sum (same refl) (turned s)) (less_sum K g step (omega arith))) (same refl)) c.way);
    within = inside;
    short = less_le K g step c.short;
  }
    where
      inside : less K p g < K
      inside = less_lt K p g c.within

      more : less K g step + ahead f1 f2 (i + 4) ≡ less K g step + 32 * f2 + ahead f1 f2 i
      more = omega arith

      none : less K p g ≡ less K p g + 0
      none = omega arith

      regroup : less K p g + (g + ahead f1 f2 i) ≡ less K p g + g + ahead f1 f2 i
      regroup = omega arith

      square : f1 * i + f2 * (i * i) + ahead f1 f2 i ≡ f1 * (i + 4) + f2 * ((i + 4) * (i + 4))
      square = omega arith

      here : Alike K (less K p g + g) (f1 * i + f2 * (i * i))
      here = through (less_sum K p g c.short) (remainder c.place)

      on : Alike K (less K p g) (f1 * (i + 4) + f2 * ((i + 4) * (i + 4)))
      on = through (same none) (through (sum (same refl) (turned c.way)) (through (same regroup) (through (sum here (same refl)) (same square))))
