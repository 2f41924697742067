-- The needs of the code blocks are small, so the least G of both kinds is always an allocation that Build takes: 172,800 is never passed.
-- Assumes nothing.
use mathlib.Core.Path.{◌≡◌}
use mathlib.Core.Bool.{Bool, true, false}
use Prim.Native.Nat.{ℕ, ◌+◌, ◌-◌, ◌*◌, ◌/◌, ◌%◌, ◌≤◌, ◌<◌}
use native.Mathlib.Nat.{div-le_self, le-div_iff_mul-le, mul-mod_right, mul-div_cancel_left, mul-le-mul, mul-le-mul_left}
use native.Mathlib.Omega.{arith}
use borrow.Author.Tests.{le-ltb}
use Rattle.segmentation.specs.Segmentation.{blocks, size_of, filler_of}
use Rattle.segmentation.specs.Sizes.{bad_size}
use Rattle.segmentation.proofs.Segmentation.{in_range, blocks_least, blocks_most, size_most}
use Rattle.segmentation.proofs.CodeBlocks.{filler_within}
use Rattle.rate_matching.specs.SubBlocks.{rows}
use Rattle.codeword.specs.Shares.{symbols}
use Rattle.codeword.specs.Build.{bad_modulation, bad_layers, bad_symbol, bad_length, bad_allocation}
use Rattle.codeword.proofs.Accepted.{modulation, layers, step}
use Rattle.planning.specs.Needs.{quarter, whole, need_of_three, need_of_one}
use Rattle.planning.specs.Least.{rounded_up, symbols_for, largest, least_symbols, least_bits}
use Rattle.planning.specs.Worst.{least_of_three, least_of_one, need_in}
use Rattle.planning.proofs.Least.{largest_over, largest_within}

-- what a code block may need
abbrev pub Modest : ℕ → Type 0
Modest need = (1 ≤ need) × (need ≤ 18444)

quarter_modest : (K : ℕ) → K ≤ 6144 → Modest (quarter K)
unfolding quarter rows
quarter_modest K h = (omega arith, omega arith)

whole_modest : (K F : ℕ) → K ≤ 6144 → F ≤ K → Modest (whole K F)
unfolding whole
whole_modest K F h l = (omega arith, omega arith)

module _ (A : ℕ) (good : bad_size A ≡ false) where
  high : A + 24 ≤ 30600
  high = omega (arith, in_range A good)

  pub sizes : (r : ℕ) → (size_of (A + 24) r ≤ 6144) × (filler_of (A + 24) r ≤ size_of (A + 24) r)
  sizes r = (size_most (A + 24) high r, omega (arith, filler_within (A + 24) high (omega arith) r))

  three_modest : (r : ℕ) → Modest (need_of_three A r)
  unfolding need_of_three
  three_modest r = quarter_modest (size_of (A + 24) r) (sizes r).0

  one_modest : (r : ℕ) → Modest (need_of_one A r)
  unfolding need_of_one
  one_modest r = whole_modest (size_of (A + 24) r) (filler_of (A + 24) r) (sizes r).0 (sizes r).1

  pub need_modest : (alone : Bool) (r : ℕ) → Modest (need_in alone A r)
  unfolding need_in
  need_modest true r = one_modest r
  need_modest false r = three_modest r

  pub few_blocks : (1 ≤ blocks (A + 24)) × (blocks (A + 24) ≤ 5)
  few_blocks = (blocks_least (A + 24) high, blocks_most (A + 24) high)

-- ---- N·Q times as many

module _ (step need : ℕ) (some : 0 < step) (most : step ≤ 24) (modest : Modest need) where
  pub units_some : 1 ≤ rounded_up step need
  unfolding rounded_up
  units_some = (le-div_iff_mul-le {k = step} some).1 (omega arith)

  pub units_few : rounded_up step need ≤ 18467
  unfolding rounded_up
  units_few = omega (arith, div-le_self (need + (step - 1)) step)

  -- the bits of so many units
  pub units_bits : step * rounded_up step need ≤ 18467
  unfolding rounded_up
  units_bits = omega (arith, (le-div_iff_mul-le {k = step} {x = rounded_up step need} {y = need + (step - 1)} some).0 (omega arith))

-- ---- the least G of modest needs

module _ (need : ℕ → ℕ) (modest : (r : ℕ) → Modest (need r)) (C step : ℕ) (few : (1 ≤ C) × (C ≤ 5)) (some : 0 < step) (most : step ≤ 24) where
  one_small : (r : ℕ) → symbols_for need C step r * step ≤ 92335
  unfolding symbols_for
  one_small r =
      let u : ℕ = rounded_up step (need r) in
      let less : C * u - r ≤ C * u = omega arith in
      let bits : C * (step * u) ≤ 5 * 18467 = mul-le-mul few.1 (units_bits step (need r) some most (modest r)) in
      omega (arith, mul-le-mul_left step less)

  -- it is at most 92,335 bits
  pub least_small : step * least_symbols need C step ≤ 92335
  unfolding least_symbols
  least_small =
      let each : largest (symbols_for need C step) C ≤ 92335 / step = largest_within _ C _ (λ r l. (le-div_iff_mul-le {k = step} some).1 (one_small r)) in
      omega (arith, (le-div_iff_mul-le {k = step} some).0 each)

  -- and N·Q for each code block
  least_some : C ≤ least_symbols need C step
  unfolding least_symbols symbols_for
  least_some =
      omega (arith, largest_over (symbols_for need C step) C 0 (omega arith), mul-le-mul_left C (units_some step (need 0) some most (modest 0)))

module _ (need : ℕ → ℕ) (modest : (r : ℕ) → Modest (need r)) (C Q N : ℕ) (few : (1 ≤ C) × (C ≤ 5)) (q : bad_modulation Q ≡ false) (n : bad_layers N ≡ false) where
  -- so Build takes it
  least_accepted : bad_allocation C Q N (least_bits need C Q N) ≡ false
  unfolding bad_allocation bad_symbol bad_length least_bits symbols
  least_accepted =
      let fits = step Q N (modulation Q q) (layers N n) in
      let m : ℕ = least_symbols need C (N * Q) in
      let units : N * Q * m / (N * Q) ≡ m = mul-div_cancel_left m fits.0 in
      let multiple : N * Q * m % (N * Q) ≡ 0 = mul-mod_right (N * Q) m in
      simp (
        q,
        n,
        units,
        multiple,
        le-ltb 172800 (N * Q * m) (omega (arith, least_small need modest C (N * Q) few fits.0 fits.1)),
        le-ltb m C (least_some need modest C (N * Q) few fits.0 fits.1),
      )

-- of both kinds, for every block, every Q and every N
module _ (A Q N : ℕ) (good : bad_size A ≡ false) (q : bad_modulation Q ≡ false) (n : bad_layers N ≡ false) where
  pub three_accepted : bad_allocation (blocks (A + 24)) Q N (least_of_three A Q N) ≡ false
  unfolding least_of_three
  three_accepted = least_accepted (need_of_three A) (three_modest A good) (blocks (A + 24)) Q N (few_blocks A good) q n

  pub one_accepted : bad_allocation (blocks (A + 24)) Q N (least_of_one A Q N) ≡ false
  unfolding least_of_one
  one_accepted = least_accepted (need_of_one A) (one_modest A good) (blocks (A + 24)) Q N (few_blocks A good) q n
