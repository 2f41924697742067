-- The loop that writes each code block into its own stretch of the codeword (clause 5.1.5): what stands before the stretch of code block r is the codeword's beginning.
-- Assumes nothing.
use mathlib.Core.Path.{◌≡◌, refl, sym, ◌∙◌, ap, ap₂}
use mathlib.Core.List.{List, ◌++◌}
use Prim.Native.Nat.{ℕ, suc, ◌+◌, ◌-◌, ◌≤◌, ◌<◌}
use native.Mathlib.Numerals.{add-one}
use native.Mathlib.Omega.{arith}
use lib.ListN.{length}
use borrow.Rule.Slice.PartMut.{mid_of, put_mid}
use Rattle.laws.specs.Bits.{bits_of}
use Rattle.laws.proofs.Parts.{length_mid}
use Rattle.laws.proofs.Writing as writing
use Rattle.laws.proofs.Writing.{Writing}
use Rattle.check_bits.specs.CheckBits.{crc, check_bits, g_crc24a}
use Rattle.segmentation.specs.declared.Segments.{Segments}
use Rattle.segmentation.specs.Segmentation.{blocks}
use Rattle.segmentation.specs.CodeBlocks.{with_check}
use Rattle.segmentation.specs.Sizes.{segments_of}
use Rattle.segmentation.proofs.Segmentation.{in_range, blocks_least, blocks_most}
use Rattle.codeword.specs.declared.Grant.{Grant}
use Rattle.codeword.specs.Shares.{share, shares_before, granted, granted_before}
use Rattle.codeword.specs.Codeword.{sent_bits, block_bits, bits_from, codeword_in}
use Rattle.codeword.specs.Build.{share_of}
use Rattle.codeword.specs.inner.Accepted.{Accepted}
use Rattle.build_calls.specs.inner.Sending.{Sending}
use Rattle.build_calls.proofs.Sent.{sending}
use Rattle.codeword.proofs.Accepted.{Allocated, allocated, share_told}
use Rattle.codeword.proofs.Shares.{shares_all, stretch_within}
use Rattle.codeword.proofs.Taken.{length_with_check}

-- the stretches start one after another
before_next : (C Q N G r : ℕ) → shares_before C Q N G r + share C Q N G r ≡ shares_before C Q N G (r + 1)
unfolding shares_before
before_next C Q N G r = rw (add-one r)

-- the block with its check, as the check's remainder is written out
checked : (a : List ℕ) {remainder : ℕ} → remainder ≡ crc 24 g_crc24a a → a ++ bits_of 24 remainder ≡ with_check a
unfolding with_check check_bits
checked a e = ap (λ (x : ℕ). a ++ bits_of 24 x) e

bits_sent : (soft : ℕ) (b : List ℕ) (g : Grant) (r : ℕ)
    → sent_bits soft b g.version r (granted (blocks (length b)) g r) ≡ block_bits soft b g r
unfolding block_bits
bits_sent soft b g r = refl

from_next : (soft : ℕ) (b : List ℕ) (g : Grant) (r C : ℕ) → r < C
    → bits_from soft b g r (C - r) ≡ block_bits soft b g r ++ bits_from soft b g (r + 1) (C - (r + 1))
unfolding bits_from
from_next soft b g r C h =
    let more : C - r ≡ suc (C - (r + 1)) = omega arith in
    ap (bits_from soft b g r) more ∙ ap (λ (k : ℕ). block_bits soft b g r ++ bits_from soft b g k (C - (r + 1))) (sym (add-one r))

pub record Stretching (soft : ℕ) (a : List ℕ) (g : Grant) (out₀ : List ℕ) (s : Segments) (C remainder : ℕ) (out : List ℕ) (at r : ℕ) : Type 0 where
  pub accepted : Accepted soft a g
  pub whole : length out₀ ≡ g.bits
  pub segments : s ≡ segments_of (length a + 24)
  pub count : C ≡ blocks (length a + 24)
  pub check : remainder ≡ crc 24 g_crc24a a
  pub below : r ≤ C
  pub starts : at ≡ granted_before C g r
  pub written : Writing out₀ out at (bits_from soft (with_check a) g r (C - r)) (codeword_in soft a g)

pub start : {soft : ℕ} {a : List ℕ} {g : Grant} {out : List ℕ} {s : Segments} {C remainder : ℕ} → Accepted soft a g → length out ≡ g.bits
    → s ≡ segments_of (length a + 24) → C ≡ blocks (length a + 24) → remainder ≡ crc 24 g_crc24a a
    → Stretching soft a g out s C remainder out 0 0
unfolding shares_before codeword_in
start {soft} {a} {g} {out} {C = C} ok whole told count check = record {
  accepted = ok;
  whole = whole;
  segments = told;
  count = count;
  check = check;
  below = omega arith;
  starts = refl;
  written = writing.same (ap (bits_from soft (with_check a) g 0) (sym count ∙ omega arith)) writing.start;
}

module _ {soft : ℕ} {a : List ℕ} {g : Grant} {out₀ : List ℕ} {s : Segments} {C remainder : ℕ} {out : List ℕ} {at r : ℕ}
    (h : Stretching soft a g out₀ s C remainder out at r) where
  high : length a + 24 ≤ 30600
  high = omega (arith, (in_range (length a) h.accepted.size).1)

  pub few : C ≤ 5
  few = omega (arith, h.count, blocks_most (length a + 24) high)

  ok : Allocated C g.modulation g.layers g.bits
  ok = allocated C g.modulation g.layers g.bits (rw h.count h.accepted.allocation)

  all : granted_before C g C ≡ g.bits
  all = shares_all C g.modulation g.layers g.bits (omega (arith, h.count, blocks_least (length a + 24) high)) ok.multiple

  module _ (more : r < C) where
    own : {e : ℕ} → e ≡ share_of C g.modulation g.layers g.bits r → e ≡ granted C g r
    own e-is = e-is ∙ share_told C g.modulation g.layers g.bits r more (rw h.count h.accepted.allocation)

    pub sends : Sending soft a s r g.version
    sends = sending h.accepted h.segments (omega (arith, h.count))

    -- the stretch of code block r lies within the output
    pub within : {e : ℕ} → e ≡ share_of C g.modulation g.layers g.bits r → at + e ≤ length out
    within e-is = omega (arith, h.starts, own e-is, stretch_within C g.modulation g.layers g.bits r more ok.multiple, h.whole, h.written.long)

    pub next : {e : ℕ} {part : List ℕ} → e ≡ share_of C g.modulation g.layers g.bits r
        → part ≡ sent_bits soft (a ++ bits_of 24 remainder) g.version r (length (mid_of at (at + e - at) out))
        → length part ≡ at + e - at
        → Stretching soft a g out₀ s C remainder (put_mid at (at + e - at) out part) (at + e) (r + 1)
    next {e} {part} e-is part_is long = record {
      accepted = h.accepted;
      whole = h.whole;
      segments = h.segments;
      count = h.count;
      check = h.check;
      below = omega arith;
      starts = ap₂ (λ (x y : ℕ). x + y) h.starts (own e-is) ∙ next_start;
      written = writing.push_part said (omega arith) (within e-is) long (writing.same one_more h.written);
    }
      where
        next_start : granted_before C g r + granted C g r ≡ granted_before C g (r + 1)
        next_start = before_next C g.modulation g.layers g.bits r

        lent : length (mid_of at (at + e - at) out) ≡ granted (blocks (length (with_check a))) g r
        lent =
            length_mid at (at + e) out (within e-is) ∙ omega arith ∙ own e-is
            ∙ ap (λ (c : ℕ). granted c g r) (h.count ∙ ap blocks (sym (length_with_check a)))

        said : part ≡ block_bits soft (with_check a) g r
        said = part_is ∙ ap₂ (λ (b : List ℕ) (E : ℕ). sent_bits soft b g.version r E) (checked a h.check) lent ∙ bits_sent soft (with_check a) g r

        one_more : bits_from soft (with_check a) g r (C - r)
            ≡ block_bits soft (with_check a) g r ++ bits_from soft (with_check a) g (r + 1) (C - (r + 1))
        one_more = from_next soft (with_check a) g r C more

pub finish : {soft : ℕ} {a : List ℕ} {g : Grant} {out₀ : List ℕ} {s : Segments} {C remainder : ℕ} {out : List ℕ} {at r : ℕ}
    → Stretching soft a g out₀ s C remainder out at r → C ≤ r → out ≡ codeword_in soft a g
unfolding bits_from
finish {soft} {a} {g} {out₀} {C = C} {out = out} {at = at} {r = r} h end =
    let last : r ≡ C = omega (arith, h.below) in
    let whole : at ≡ g.bits = h.starts ∙ ap (granted_before C g) last ∙ all h in
    let none : C - r ≡ 0 = omega arith in
    writing.finish_all (omega (arith, h.whole, h.written.long)) (ap (bits_from soft (with_check a) g r) none) h.written
