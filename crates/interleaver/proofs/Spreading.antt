-- The loop that spreads the bits found over the four quarters, a quarter a turn: `at` is the start of quarter u, and `shift` is u·f1 mod 4.
-- Assumes nothing.
use mathlib.Core.Path.{◌≡◌, sym, ◌∙◌, ap, ap₂}
use mathlib.Core.List.{List}
use Prim.Native.Nat.{ℕ, ◌+◌, ◌*◌, ◌-◌, ◌%◌, ◌≤◌, ◌<◌}
use native.Mathlib.Nat.{mul-le-mul}
use native.Mathlib.Omega.{arith}
use lib.Arith.{digits_div, digits_mod}
use lib.ListN.{length}
use borrow.Rule.Slice.PartMut.{put_mid}
use Rattle.laws.specs.Lists.{tab}
use Rattle.laws.proofs.Tab.{tab_ext}
use Rattle.interleaver.specs.inner.Quarters.{digit, spread_over}
use Rattle.interleaver.proofs.Filling as F
use Rattle.interleaver.proofs.Filling.{Filling}

-- out₀ has become out, of which u quarters are written
pub record Spreading (f1 : ℕ) (y out₀ out : List ℕ) (shift u : ℕ) : Type 0 where
  pub filling : Filling (4 * length y) (spread_over f1 y) out₀ out (u * length y)
  pub turned : shift ≡ u * f1 % 4

-- there is room for a quarter
pub room : (n u : ℕ) → u < 4 → u * n + n ≤ 4 * n
room n u l = let most : (u + 1) * n ≤ 4 * n = mul-le-mul (omega arith) (omega arith) in omega arith

module _ {f1 : ℕ} {y out₀ : List ℕ} where
  pub start : length out₀ ≡ 4 * length y → Spreading f1 y out₀ out₀ 0 0
  start e = let none : 0 * length y ≡ 0 = omega arith in record { filling = rw none (F.start e); turned = omega arith }

  module _ {out : List ℕ} {shift u : ℕ} (s : Spreading f1 y out₀ out shift u) (l : u < 4) where
    pub low : shift < 4
    low = omega (arith, s.turned)

    part_is : tab (length y) (digit y shift) ≡ tab (length y) (λ (k : ℕ). spread_over f1 y (u * length y + k))
    unfolding spread_over
    part_is = tab_ext (length y) (digit y shift) (λ (k : ℕ). spread_over f1 y (u * length y + k))
        (λ k l. ap₂ (digit y) (s.turned ∙ ap (λ (v : ℕ). v * f1 % 4) (sym (digits_div u l))) (sym (digits_mod u l)))

    pub next : {part : List ℕ} → length part ≡ u * length y + length y - u * length y → part ≡ tab (length y) (digit y shift)
        → Spreading f1 y out₀ (put_mid (u * length y) (u * length y + length y - u * length y) out part) ((shift + f1) % 4) (u + 1)
    next {part} count told = record {
      filling = F.moved on (F.next_part (omega arith) (room (length y) u l) count (told ∙ part_is ∙ ap (λ (n : ℕ). tab n (λ (k : ℕ). spread_over f1 y (u * length y + k))) whole) s.filling);
      turned = omega (arith, s.turned);
    }
      where
        whole : length y ≡ u * length y + length y - u * length y
        whole = omega arith

        on : u * length y + length y ≡ (u + 1) * length y
        on = omega arith

  pub finish : {out : List ℕ} {shift u : ℕ} → 4 ≤ u → Spreading f1 y out₀ out shift u → out ≡ tab (4 * length y) (spread_over f1 y)
  finish {u = u} h s = let all : 4 * length y ≤ u * length y = mul-le-mul h (omega arith) in F.finish all s.filling
