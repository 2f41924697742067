-- A computed test over a range holds at each number of it.
-- In a proof: `all_below_at p 188 tt i h` under `unfolding all_below` and the names that p computes by.
-- Assumes nothing.
use mathlib.Core.Path.{◌≡◌, refl, sym, subst}
use mathlib.Core.Bool.{Bool, true, false}
use Prim.Native.Nat.{ℕ, zero, suc, ◌<◌}
use native.Mathlib.Nat.{not-suc-le-zero}
use native.Mathlib.Omega.{arith}
use lib.Dec.{T, eqb}
use borrow.Author.Tests.{eqb-true, eqb-false}
use Rattle.laws.specs.inner.Computed.{all_below}

pub T_true : (b : Bool) → T b → b ≡ true
T_true true t = refl
T_true false t = absurd t

pub true_T : (b : Bool) → b ≡ true → T b
true_T b e = subst (λ (x : Bool). T x) (sym e) tt

pub all_below_at : (p : ℕ → Bool) (n : ℕ) → T (all_below p n) → (i : ℕ) → i < n → T (p i)
unfolding all_below
all_below_at p zero t i h = absurd (not-suc-le-zero h)
all_below_at p (suc n) t i h = go (p n) refl t (λ u l. all_below_at p n u i l)
  where
    go : (b : Bool) → p n ≡ b → T (elim b [ true ↦ all_below p n | false ↦ false ]) → (T (all_below p n) → i < n → T (p i)) → T (p i)
    go false e u f = absurd u
    go true e u f = at (eqb i n) refl
      where
        at : (s : Bool) → eqb i n ≡ s → T (p i)
        at true q = true_T (p i) (rw (eqb-true i n q) e)
        at false q = let l : i < n = omega (arith, eqb-false i n q) in f u l
