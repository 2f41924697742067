-- The one law for every loop that sets a slice to one value from the front: the first i entries are v, and the others as they were.
-- In a loop over i: the invariant has `Filling v l.initial.d l.d l.i`; `loop-i-init` is `start`, `loop-i-preserved` is `fill`, `returns` is `told`, or `filled` where
-- the loop goes to the end.
-- Assumes nothing.
use mathlib.Core.Path.{◌≡◌, refl, ◌∙◌, ap}
use mathlib.Core.List.{List, ◌++◌, append-nil}
use Prim.Native.Nat.{ℕ, ◌+◌, ◌≤◌, ◌<◌}
use native.Mathlib.Omega.{arith}
use lib.ListN.{length, drop, set, replicate, length-set}
use lib.Seq.{drop-length}
use borrow.Author.Fill.{fill_none, fill_more}

-- d is d₀ after i entries were set to v
pub record Filling (v : ℕ) (d₀ d : List ℕ) (i : ℕ) : Type 0 where
  pub within : i ≤ length d₀
  pub long : length d ≡ length d₀
  pub told : d ≡ replicate {A = ℕ} i v ++ drop i d₀

module _ {v : ℕ} {d₀ : List ℕ} where
  pub start : Filling v d₀ d₀ 0
  start = record { within = omega arith; long = refl; told = fill_none d₀ v }

  -- `d[i] = v; i += 1`
  pub fill : {d : List ℕ} {i : ℕ} → i < length d₀ → Filling v d₀ d i → Filling v d₀ (set d i v) (i + 1)
  fill {d} {i} h w = record {
    within = omega arith;
    long = length-set d i v ∙ w.long;
    told = ap (λ (l : List ℕ). set l i v) w.told ∙ fill_more i v d₀ h;
  }

  -- the loop has come to the end
  pub filled : {d : List ℕ} {i : ℕ} → length d₀ ≤ i → Filling v d₀ d i → d ≡ replicate {A = ℕ} (length d₀) v
  filled {d} {i} h w = w.told ∙ rw (all, drop-length d₀) (append-nil (replicate {A = ℕ} (length d₀) v))
    where
      all : i ≡ length d₀
      all = omega (arith, w.within)
