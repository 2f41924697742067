-- The promises of planning in one place, request E8 of 02: what the code blocks need, and that the least G of each kind is the least that gives it to them and can always be had.
-- Assumes nothing.
use mathlib.Core.Path.{◌≡◌, refl}
use mathlib.Core.Logic.{◌↔◌}
use mathlib.Core.Bool.{false}
use Prim.Native.Nat.{ℕ, ◌+◌, ◌-◌, ◌*◌, ◌≤◌, ◌<◌}
use native.Mathlib.Omega.{arith}
use borrow.Author.Tests.{ne_eqb}
use Rattle.segmentation.specs.Segmentation.{blocks, size_of, filler, filler_of}
use Rattle.segmentation.specs.Sizes.{bad_size}
use Rattle.codeword.specs.Codeword.{block_rows}
use Rattle.codeword.specs.Build.{bad_modulation, bad_layers, bad_allocation}
use Rattle.planning.specs.Needs.{quarter, whole, need_of_three, need_of_one, Gives}
use Rattle.planning.specs.Worst.{least_of_three, least_of_one}
use Rattle.planning.proofs.Least.{gives_iff, lower_fails}
use Rattle.planning.proofs.Needs as needing

-- ---- what the code blocks need

-- 24·R of its own R
pub three_need : (A r : ℕ) → need_of_three A r ≡ 24 * block_rows (A + 24) r
unfolding need_of_three quarter block_rows
three_need A r = refl

-- 3·D − 2·F for code block 0
pub one_need_first : (A : ℕ) → need_of_one A 0 ≡ 3 * (size_of (A + 24) 0 + 4) - 2 * filler (A + 24)
unfolding need_of_one whole filler_of
one_need_first A = refl

-- 3·D for each other
pub one_need_other : (A r : ℕ) → 1 ≤ r → need_of_one A r ≡ 3 * (size_of (A + 24) r + 4)
unfolding need_of_one whole filler_of
one_need_other A r h = rw (ne_eqb r 0 (λ e. omega arith)) (omega arith)

-- ---- the least G: a transmission gives every code block what it needs exactly when it has at least so many bits

module _ (A Q N G : ℕ) (unit : 0 < N * Q) where
  pub three_iff : Gives (need_of_three A) (blocks (A + 24)) Q N G ↔ (least_of_three A Q N ≤ G)
  unfolding least_of_three
  three_iff = gives_iff (need_of_three A) (blocks (A + 24)) Q N G unit

  pub one_iff : Gives (need_of_one A) (blocks (A + 24)) Q N G ↔ (least_of_one A Q N ≤ G)
  unfolding least_of_one
  one_iff = gives_iff (need_of_one A) (blocks (A + 24)) Q N G unit

  -- one allocation unit lower it does not
  pub three_lower : G + N * Q ≡ least_of_three A Q N → Gives (need_of_three A) (blocks (A + 24)) Q N G → ⊥
  unfolding least_of_three
  three_lower = lower_fails (need_of_three A) (blocks (A + 24)) Q N G unit

  pub one_lower : G + N * Q ≡ least_of_one A Q N → Gives (need_of_one A) (blocks (A + 24)) Q N G → ⊥
  unfolding least_of_one
  one_lower = lower_fails (need_of_one A) (blocks (A + 24)) Q N G unit

-- ---- it can always be had: Build takes it for every block, every Q and every N, so 172,800 is never passed

pub three_accepted : (A Q N : ℕ) → bad_size A ≡ false → bad_modulation Q ≡ false → bad_layers N ≡ false
    → bad_allocation (blocks (A + 24)) Q N (least_of_three A Q N) ≡ false
three_accepted = needing.three_accepted

pub one_accepted : (A Q N : ℕ) → bad_size A ≡ false → bad_modulation Q ≡ false → bad_layers N ≡ false
    → bad_allocation (blocks (A + 24)) Q N (least_of_one A Q N) ≡ false
one_accepted = needing.one_accepted
