-- What the segmentation that a function answers tells of the block's size: no code block stands for a size out of range.
-- Assumes nothing.
use mathlib.Core.Path.{◌≡◌, refl, sym, ◌∙◌, ap}
use mathlib.Core.Bool.{Bool, true, false, cond}
use Prim.Native.Nat.{ℕ, ◌+◌, ◌*◌, ◌≤◌}
use native.Mathlib.Omega.{arith}
use Rattle.segmentation.specs.declared.Segments.{Segments}
use Rattle.segmentation.specs.Segmentation.{blocks}
use Rattle.segmentation.specs.Sizes.{bad_size, segments_of, segments_for, no_segments}
use Rattle.segmentation.proofs.Segmentation.{in_range, blocks_least, long_most, size_most}
use Rattle.rate_matching.specs.SubBlocks.{rows}
use Rattle.rate_matching.specs.SoftBuffer.{whole_share}
use Rattle.codeword.specs.Codeword.{block_rows}

-- the segmentation of a block of A bits, A in range
pub record Sized (A : ℕ) (s : Segments) : Type 0 where
  pub size : bad_size A ≡ false
  pub told : s ≡ segments_of (A + 24)
  pub count : s.blocks ≡ blocks (A + 24)

-- its number of code blocks and its long size
pub count_told : (B : ℕ) {s : Segments} → s ≡ segments_of B → s.blocks ≡ blocks B
unfolding segments_of
count_told B told = ap (λ (x : Segments). x.blocks) told

pub long_told : (A : ℕ) {s : Segments} → bad_size A ≡ false → s ≡ segments_of (A + 24) → s.long ≤ 6144
unfolding segments_of
long_told A good told = rw told (long_most (A + 24) (omega (arith, (in_range A good).1)))

-- no code block: the size is out of range
pub unsized : (A : ℕ) (s : Segments) → s ≡ segments_for A → s.blocks ≡ 0 → bad_size A ≡ true
unfolding segments_for segments_of no_segments
unsized A s told none = go (bad_size A) refl (sym (ap (λ (x : Segments). x.blocks) told) ∙ none)
  where
    go : (t : Bool) → bad_size A ≡ t → (cond t no_segments (segments_of (A + 24))).blocks ≡ 0 → t ≡ true
    go true e h = refl
    go false e h =
        let low : 1 ≤ blocks (A + 24) = blocks_least (A + 24) (omega (arith, (in_range A e).1)) in
        absurd (omega arith)

pub sized : (A : ℕ) (s : Segments) → s ≡ segments_for A → (s.blocks ≡ 0 → ⊥) → Sized A s
unfolding segments_for segments_of no_segments
sized A s told some = go (bad_size A) refl told
  where
    go : (t : Bool) → bad_size A ≡ t → s ≡ cond t no_segments (segments_of (A + 24)) → Sized A s
    go true e h = absurd (some (ap (λ (x : Segments). x.blocks) h))
    go false e h = record { size = e; told = h; count = ap (λ (x : Segments). x.blocks) h }

-- the same where the size is known to be in range
pub sized_in : (A : ℕ) (s : Segments) → bad_size A ≡ false → s ≡ segments_for A → Sized A s
unfolding segments_for
sized_in A s good told =
    let e : s ≡ segments_of (A + 24) = told ∙ rw good refl in
    record { size = good; told = e; count = count_told (A + 24) e }

-- an uplink's share of the soft buffer is long enough for every code block
pub whole_fits : (A : ℕ) → bad_size A ≡ false → (r : ℕ) → 32 * block_rows (A + 24) r ≤ whole_share
unfolding block_rows rows
whole_fits A good r = omega (arith, size_most (A + 24) (omega (arith, (in_range A good).1)) r)
