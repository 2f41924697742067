-- What the segmentation of a block of A bits tells of its code blocks: their sizes, their filler, and that their streams can be read.
-- Assumes nothing.
use mathlib.Core.Path.{◌≡◌, refl, ◌∙◌, ap}
use mathlib.Core.Bool.{Bool, true, false, cond}
use mathlib.Core.List.{List}
use Prim.Native.Nat.{ℕ, ◌+◌, ◌-◌, ◌≤◌, ◌<◌}
use native.Mathlib.Omega.{arith}
use lib.Dec.{eqb, ltb}
use Rattle.interleaver.proofs.Rows.{Row, row_keeps}
use Rattle.segmentation.specs.declared.Segments.{Segments}
use Rattle.segmentation.specs.Segmentation.{check_length, blocks, size_of, filler_of, row_of}
use Rattle.segmentation.specs.Sizes.{bad_size, segments_of, segments_for, no_segments}
use Rattle.segmentation.proofs.Segmentation.{in_range, blocks_most, row_below, size_row}
use Rattle.segmentation.proofs.CodeBlocks.{filler_within}
use Rattle.slots.specs.State.{per_block}
use Rattle.slots.specs.Room.{circle_at}
use Rattle.slots.specs.Circle.{kept_on, missing_on, lacking_on}
use Rattle.slots.specs.Reading.{lacking_in}
use Rattle.slots.proofs.Sums.{sum_from_most}
use Rattle.kept_bits.specs.inner.Rows.{Streams, Stretch}
use Rattle.kept_bits.proofs.Bytes.{missing_le}
use Rattle.kept_bits.proofs.Rows.{reach_most}

-- ---- a block of A bits, A in range

module _ (A : ℕ) (admitted : bad_size A ≡ false) where
  pub high : A + 24 ≤ 30600
  high = omega (arith, in_range A admitted)

  pub few : blocks (A + 24) ≤ 5
  few = blocks_most (A + 24) high

  pub streams : (r : ℕ) → Streams (size_of (A + 24) r + 4)
  streams r = rw (size_row (A + 24) high r) (record { least = omega (arith, row.least); most = omega (arith, row.most); bytes = omega (arith, row.bytes) })
    where
      row : Row (row_of (A + 24) r)
      row = row_keeps (row_of (A + 24) r) (row_below (A + 24) high r)

  pub filler_below : (r : ℕ) → filler_of (A + 24) r + 24 + check_length (A + 24) ≤ size_of (A + 24) r
  filler_below r = omega (arith, filler_within (A + 24) high (omega arith) r)

  -- n places of stream s from place i on
  pub stretch : (r s i n : ℕ) {long : ℕ} → s < 3 → i < size_of (A + 24) r + 4 → i + n ≤ size_of (A + 24) r + 4 → per_block ≤ long → Stretch long (size_of (A + 24) r + 4) s i n
  stretch r s i n u b h l = record { sized = streams r; stream = u; begin = b; within = h; room = omega (arith, l, reach_most s (streams r).most) }

  -- no count of a code block is above 6,144
  pub block_few : (r : ℕ) (room : List ℕ) → lacking_in (A + 24) room r ≤ 6144
  unfolding lacking_in lacking_on missing_on
  block_few r room =
      omega (
        arith,
        sum_from_most (missing_on (circle_at r room) (size_of (A + 24) r + 4)) (filler_of (A + 24) r) (size_of (A + 24) r - filler_of (A + 24) r)
            (λ i. missing_le (kept_on (circle_at r room) (size_of (A + 24) r + 4) 0 i)),
        (streams r).most,
      )

-- ---- the segmentation s of a block of A bits, nothing where A is out of range

none : (A : ℕ) {s : Segments} → s ≡ segments_for A → bad_size A ≡ true → s.blocks ≡ 0
unfolding segments_for no_segments
none A e t = rw (e, t)

some : (A : ℕ) {s : Segments} → s ≡ segments_for A → bad_size A ≡ false → s ≡ segments_of (A + 24)
unfolding segments_for
some A e t = e ∙ rw t

pub blocks_told : (A : ℕ) {s : Segments} → s ≡ segments_for A → bad_size A ≡ false → s.blocks ≡ blocks (A + 24)
unfolding segments_of
blocks_told A e t = ap (λ (x : Segments). x.blocks) (some A e t)

-- the size of code block r, and its filler
pub size_told : (A r : ℕ) {s : Segments} → s ≡ segments_for A → bad_size A ≡ false → cond (ltb r s.shorts) s.short s.long ≡ size_of (A + 24) r
unfolding segments_of size_of
size_told A r e t = rw (some A e t)

pub filler_told : (A r : ℕ) {s : Segments} → s ≡ segments_for A → bad_size A ≡ false → cond (eqb r 0) s.filler 0 ≡ filler_of (A + 24) r
unfolding segments_of filler_of
filler_told A r e t = rw (some A e t)

-- one case for each
pub by_range : (A : ℕ) {s : Segments} (P : Type 0) → s ≡ segments_for A
    → (bad_size A ≡ true → s.blocks ≡ 0 → P) → (bad_size A ≡ false → s.blocks ≡ blocks (A + 24) → P) → P
by_range A {s} P e f g = go (bad_size A) refl
  where
    go : (b : Bool) → bad_size A ≡ b → P
    go true t = f t (none A e t)
    go false t = g t (blocks_told A e t)

pub blocks_few : (A : ℕ) {s : Segments} → s ≡ segments_for A → s.blocks ≤ 5
blocks_few A {s} e = by_range A (s.blocks ≤ 5) e (λ t z. omega arith) (λ t z. omega (arith, few A t))

-- s has the code block r
pub record Block (A : ℕ) (s : Segments) (r : ℕ) : Type 0 where
  pub admitted : bad_size A ≡ false
  pub below : r < blocks (A + 24)
  pub size : cond (ltb r s.shorts) s.short s.long ≡ size_of (A + 24) r
  pub filled : cond (eqb r 0) s.filler 0 ≡ filler_of (A + 24) r

pub block_of : (A : ℕ) {s : Segments} {r : ℕ} → s ≡ segments_for A → r < s.blocks → Block A s r
block_of A {s} {r} e h =
    by_range A (Block A s r) e (λ t z. absurd (omega arith)) (λ t z. record { admitted = t; below = omega arith; size = size_told A r e t; filled = filler_told A r e t })
