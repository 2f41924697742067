-- What Build's number 0 tells: no rule of 01 refuses the call.
-- Assumes nothing.
use mathlib.Core.Path.{◌≡◌, refl}
use mathlib.Core.Bool.{Bool, false}
use mathlib.Core.List.{List}
use Prim.Native.Nat.{ℕ, ◌+◌, ◌≤◌}
use lib.ListN.{length}
use borrow.Author.Tests.{ltb-false}
use Rattle.refusals.specs.Refusals.{Rule}
use Rattle.refusals.proofs.Refusals.{Listed, passed, listed}
use Rattle.segmentation.specs.Segmentation.{blocks}
use Rattle.segmentation.specs.Sizes.{bad_size}
use Rattle.rate_matching.specs.SoftBuffer.{whole_share}
use Rattle.codeword.specs.declared.Grant.{Grant}
use Rattle.codeword.specs.Build.{bad_allocation, bad_version, bad_bits, size_rule, symbol_rule, length_rule, version_rule, output_rule, bits_rule, build_rules, build_number}
use Rattle.codeword.specs.inner.Accepted.{Accepted}
use Rattle.codeword.proofs.Accepted.{allocation_of}
use Rattle.codeword.proofs.Segmented.{whole_fits}

abbrev refused : List ℕ → Grant → Bool
refused a g = bad_allocation (blocks (length a + 24)) g.modulation g.layers g.bits

-- what number 0 tells, whatever the soft buffer is
pub record Rest (a : List ℕ) (g : Grant) (room : ℕ) : Type 0 where
  pub size : bad_size (length a) ≡ false
  pub allocation : refused a g ≡ false
  pub version : g.version ≤ 3
  pub fits : g.bits ≤ room
  pub bits : bad_bits a ≡ false

pub rest : (a : List ℕ) (g : Grant) (room : ℕ) → build_number a g room ≡ 0 → Rest a g room
unfolding build_number build_rules bad_version
rest a g room h = record {
  size = clear (size_rule (length a)) (search listed);
  allocation = allocation_of _ _ _ _
      (clear (symbol_rule g.modulation g.layers) (search listed))
      (clear (length_rule (blocks (length a + 24)) g.modulation g.layers g.bits) (search listed));
  version = ltb-false 3 g.version (clear (version_rule g.version) (search listed));
  fits = ltb-false room g.bits (clear (output_rule g.bits room) (search listed));
  bits = clear (bits_rule a) (search listed);
}
  where
    clear : (r : Rule) → Listed r (build_rules a g room) → r.bad ≡ false
    clear = passed (build_rules a g room) refl h tt

pub accepted : (a : List ℕ) (g : Grant) (room : ℕ) → build_number a g room ≡ 0 → Accepted whole_share a g × (g.bits ≤ room)
accepted a g room h =
    let k = rest a g room h in
    (record { size = k.size; buffer = λ r below. whole_fits (length a) k.size r; allocation = k.allocation; version = k.version; bits = k.bits }, k.fits)
