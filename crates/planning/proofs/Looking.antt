-- The loop over the code blocks that looks for the least G': what it has found so far is the largest of what the code blocks passed ask for.
-- Assumes nothing.
use mathlib.Core.Path.{◌≡◌, refl, sym, ◌∙◌, ap}
use mathlib.Core.Bool.{Bool, true, false, cond}
use Prim.Native.Nat.{ℕ, ◌+◌, ◌-◌, ◌*◌, ◌/◌, ◌%◌, ◌≤◌, ◌<◌, min, max}
use native.Mathlib.Nat.{div-add-mod', mod-lt, mul-le-mul, mul-le-mul_left}
use native.Mathlib.Decide.{dec_lt}
use native.Mathlib.Numerals.{add-one}
use native.Mathlib.Omega.{arith}
use lib.Arith.{digits_div}
use lib.Dec.{ltb, eqb}
use Rattle.segmentation.specs.declared.Segments.{Segments}
use Rattle.segmentation.specs.Segmentation.{blocks, size_of, filler_of}
use Rattle.segmentation.specs.Sizes.{segments_of, segments_for}
use Rattle.codeword.proofs.Segmented.{Sized, sized_in}
use Rattle.planning.specs.Needs.{need_of_three, need_of_one}
use Rattle.planning.specs.Least.{rounded_up, symbols_for, largest, least_symbols}
use Rattle.planning.specs.Worst.{need_by, need_in, Planned}
use Rattle.planning.proofs.Needs.{sizes, need_modest, few_blocks, units_some, units_few}

need_is : (alone : Bool) (A r : ℕ) → need_by alone (size_of (A + 24) r) (filler_of (A + 24) r) ≡ need_in alone A r
unfolding need_by need_in need_of_three need_of_one
need_is true A r = refl
need_is false A r = refl

-- a quotient rounded up, as it is worked out
rounded_is : (step need : ℕ) → 0 < step → need / step + min 1 (need % step) ≡ rounded_up step need
unfolding rounded_up
rounded_is step need some =
    let parts : need / step * step + need % step ≡ need = div-add-mod' need step in
    let low : need % step < step = mod-lt need some in
    elim (dec_lt 0 (need % step)) [
      | yes l ↦
          let sum : need + (step - 1) ≡ (need / step + 1) * step + (need % step - 1) = omega arith in
          omega arith ∙ sym (ap (λ (x : ℕ). x / step) sum ∙ digits_div (need / step + 1) (omega arith))
      | no l ↦
          let sum : need + (step - 1) ≡ need / step * step + (step - 1) = omega arith in
          omega arith ∙ sym (ap (λ (x : ℕ). x / step) sum ∙ digits_div (need / step) (omega arith))
    ]

pub record Looking (A step : ℕ) (alone : Bool) (s : Segments) (least r : ℕ) : Type 0 where
  pub planned : Planned A step
  pub sized : Sized A s
  pub within : r ≤ blocks (A + 24)
  pub told : least ≡ largest (symbols_for (need_in alone A) (blocks (A + 24)) step) r

pub start : {A step : ℕ} {alone : Bool} {s : Segments} → Planned A step → s ≡ segments_for A → Looking A step alone s 0 0
unfolding largest
start {A} {s = s} p e = record { planned = p; sized = sized_in A s p.size e; within = omega arith; told = refl }

module _ {A step : ℕ} {alone : Bool} {s : Segments} {least r : ℕ} (w : Looking A step alone s least r) (h : r < s.blocks) where
  pub below : r < blocks (A + 24)
  below = omega (arith, w.sized.count)

  -- the size and the filler of the code block, as the segmentation tells them
  size_is : {size : ℕ} → size ≡ cond (ltb r s.shorts) s.short s.long → size ≡ size_of (A + 24) r
  unfolding segments_of size_of
  size_is e = e ∙ rw w.sized.told

  filler_is : {filler : ℕ} → filler ≡ cond (eqb r 0) s.filler 0 → filler ≡ filler_of (A + 24) r
  unfolding segments_of filler_of
  filler_is e = e ∙ rw w.sized.told

  module _ {size filler : ℕ} (size_told : size ≡ cond (ltb r s.shorts) s.short s.long) (filler_told : filler ≡ cond (eqb r 0) s.filler 0) where
    pub sizes_fit : (size ≤ 6144) × (filler ≤ size)
    sizes_fit =
        let fit = sizes A w.planned.size r in
        (omega (arith, size_is size_told), omega (arith, size_is size_told, filler_is filler_told))

    module _ {need : ℕ} (need_told : need ≡ need_by alone size filler) where
      needed : need ≡ need_in alone A r
      needed = need_told ∙ ap (λ (k : ℕ). need_by alone k filler) (size_is size_told) ∙ ap (need_by alone (size_of (A + 24) r)) (filler_is filler_told) ∙ need_is alone A r

      abbrev units : ℕ
      units = need / step + min 1 (need % step)

      units_is : units ≡ rounded_up step (need_in alone A r)
      units_is = rounded_is step need w.planned.some ∙ ap (rounded_up step) needed

      some_units : (1 ≤ units) × (units ≤ 18467)
      some_units =
          let modest = need_modest A w.planned.size alone r in (
            omega (arith, units_is, units_some step (need_in alone A r) w.planned.some w.planned.most modest),
            omega (arith, units_is, units_few step (need_in alone A r) w.planned.some w.planned.most modest),
          )

      -- what the code block asks for is a number, and a small one
      pub product_fits : {n : ℕ} → n ≡ units → (r ≤ s.blocks * n) × (s.blocks * n ≤ 92335)
      product_fits {n} e =
          let few : s.blocks ≤ 5 = omega (arith, w.sized.count, few_blocks A w.planned.size) in
          (omega (arith, ap (λ (m : ℕ). s.blocks * m) e, mul-le-mul_left s.blocks some_units.0), omega (arith, ap (λ (m : ℕ). s.blocks * m) e, mul-le-mul few some_units.1))

      pub next : {n found : ℕ} → n ≡ units → found ≡ max least (s.blocks * n - r) → Looking A step alone s found (r + 1)
      unfolding largest symbols_for
      next {n} {found} e f = record {
        planned = w.planned;
        sized = w.sized;
        within = omega (arith, below);
        told = rw (add-one r) (f ∙ ap (λ (m : ℕ). max least (s.blocks * m - r)) e ∙ ap (λ (m : ℕ). max m (s.blocks * units - r)) w.told ∙ ap (max (largest (symbols_for (need_in alone A) (blocks (A + 24)) step) r)) asked);
      }
        where
          asked : s.blocks * units - r ≡ blocks (A + 24) * rounded_up step (need_in alone A r) - r
          asked = ap (λ (n : ℕ). n * units - r) w.sized.count ∙ ap (λ (n : ℕ). blocks (A + 24) * n - r) units_is

pub finish : {A step : ℕ} {alone : Bool} {s : Segments} {least r : ℕ} → Looking A step alone s least r → s.blocks ≤ r
    → least ≡ least_symbols (need_in alone A) (blocks (A + 24)) step
unfolding least_symbols
finish {A} {step} {alone} {r = r} w h =
    let all : r ≡ blocks (A + 24) = omega (arith, w.within, w.sized.count) in
    w.told ∙ ap (largest (symbols_for (need_in alone A) (blocks (A + 24)) step)) all
