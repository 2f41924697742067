-- What `code_block` leaves in the list that it is lent, return by return: each is a case of `code_block_into`.
-- Assumes nothing.
use mathlib.Core.Path.{◌≡◌, refl, sym, ◌∙◌, ap}
use mathlib.Core.Bool.{Bool, true, false, cond, not, ◌&&◌}
use mathlib.Core.List.{List, ◌++◌, append-nil}
use Prim.Native.Nat.{ℕ, ◌+◌, ◌-◌, ◌≤◌, ◌<◌}
use native.Mathlib.Nat.{sub-zero}
use native.Mathlib.Decide.{dec_le}
use native.Mathlib.Omega.{arith}
use lib.Dec.{eqb, ltb}
use lib.ListN.{length, take, drop, length-append, length-drop}
use lib.Seq.{length-take-le, take_at}
use borrow.Author.Tests.{eq-eqb, ne_eqb, lt-ltb, le-ltb}
use borrow.Rule.Slice.PartMut.{mid_of, put_mid}
use Rattle.laws.specs.Bits.{bits_of}
use Rattle.check_bits.specs.CheckBits.{crc, crc_from, check_bits, g_crc24b}
use Rattle.check_bits.specs.Put.{put_check_bits}
use Rattle.check_bits.proofs.Register.{from_zero}
use Rattle.segmentation.specs.declared.Segments.{Segments}
use Rattle.segmentation.specs.Segmentation.{check_length, blocks, size_of}
use Rattle.segmentation.specs.CodeBlocks.{payload, code_block}
use Rattle.segmentation.specs.Sizes.{bad_size, segments_of, segments_for, no_segments}
use Rattle.segmentation.specs.Into.{fits_block, code_block_into, Segmented, Room}
use Rattle.segmentation.proofs.Segmentation.{in_range, single, several, size_checks}
use Rattle.segmentation.proofs.CodeBlocks.{length_payload}
use Rattle.segmentation.proofs.Tails.{ended}
use Rattle.segmentation.proofs.Payload.{with_bits}

-- s is the segmentation for a, and r is one of its code blocks
pub record Found (a : List ℕ) (s : Segments) (r : ℕ) : Type 0 where
  pub told : s ≡ segments_for (length a)
  pub below : r < s.blocks

-- and c has the size of that
pub record Sized (a c : List ℕ) (s : Segments) (r : ℕ) : Type 0 where
  pub found : Found a s r
  pub size : length c ≡ cond (ltb r s.shorts) s.short s.long

-- A out of range, or no such code block
pub none_such : (a c : List ℕ) (x r : ℕ) {s : Segments} → s ≡ segments_for (length a) → s.blocks ≤ r → c ≡ code_block_into a x r c
unfolding code_block_into fits_block segments_for segments_of
none_such a c x r told h = go (bad_size (length a)) refl (rw told at h)
  where
    go : (t : Bool) → bad_size (length a) ≡ t → (cond t no_segments (segments_of (length a + 24))).blocks ≤ r
        → c ≡ cond (not (bad_size (length a)) && (ltb r (blocks (length a + 24)) && eqb (length c) (size_of (length a + 24) r))) (code_block (a ++ bits_of 24 x) r) c
    go true e l = rw e
    go false e l = rw (e, le-ltb r (blocks (length a + 24)) l)

module _ {a : List ℕ} {s : Segments} {r : ℕ} (f : Found a s r) where
  good : bad_size (length a) ≡ false
  unfolding segments_for no_segments
  good = go (bad_size (length a)) refl (rw f.told at f.below)
    where
      go : (t : Bool) → bad_size (length a) ≡ t → r < (cond t no_segments (segments_of (length a + 24))).blocks → bad_size (length a) ≡ false
      go true e l = absurd (omega arith)
      go false e l = e

  told_of : s ≡ segments_of (length a + 24)
  unfolding segments_for
  told_of = f.told ∙ rw good

  segmented : Segmented (length a) s r
  unfolding segments_of
  segmented = record { least = (in_range (length a) good).0; most = (in_range (length a) good).1; told = told_of; below = rw told_of at f.below }

  size_is : {n : ℕ} → n ≡ cond (ltb r s.shorts) s.short s.long → n ≡ size_of (length a + 24) r
  unfolding segments_of size_of
  size_is e = rw told_of at e

  -- the list has another length
  pub other_size : (c : List ℕ) (x : ℕ) {k : ℕ} → k ≡ cond (ltb r s.shorts) s.short s.long → (length c ≡ k → ⊥) → c ≡ code_block_into a x r c
  unfolding code_block_into fits_block
  other_size c x e h =
      rw (good, lt-ltb r (blocks (length a + 24)) segmented.below, ne_eqb (length c) (size_of (length a + 24) r) (λ l. h (l ∙ sym (size_is e))))

module _ {a c : List ℕ} {s : Segments} {r : ℕ} (z : Sized a c s r) where
  top : length a + 24 ≤ 30600
  top = omega (arith, (segmented z.found).most)

  long_is : length c ≡ size_of (length a + 24) r
  long_is = size_is z.found z.size

  into : (x : ℕ) → code_block_into a x r c ≡ code_block (a ++ bits_of 24 x) r
  unfolding code_block_into fits_block
  into x = rw (good z.found, lt-ltb r (blocks (length a + 24)) (segmented z.found).below, eq-eqb (length c) (size_of (length a + 24) r) long_is)

  -- C = 1: the payload is the code block
  module _ (one : s.blocks ≡ 1) where
    block_one : blocks (length a + 24) ≡ 1
    unfolding segments_of
    block_one = rw (told_of z.found) at one

    no_checks : check_length (length a + 24) ≡ 0
    no_checks = elim (dec_le (length a + 24) 6144) [
      | yes h ↦ (single (length a + 24) h).1
      | no h ↦ absurd (let large : 6144 < length a + 24 = omega arith in omega (arith, (several (length a + 24) large).0, block_one))
    ]

    pub single_room : Room a s r c
    single_room = record { segmented = segmented z.found; room = rw no_checks (long_is ∙ sym (sub-zero (size_of (length a + 24) r))) }

    pub single_put : (x : ℕ) {put : List ℕ} → put ≡ payload (a ++ bits_of 24 x) r → put ≡ code_block_into a x r c
    unfolding code_block
    single_put x e = e ∙ sym (into x ∙ rw (with_bits a x, block_one) (append-nil (payload (a ++ bits_of 24 x) r)))

  -- C > 1: the payload, and CRC24B after it
  module _ (more : s.blocks ≡ 1 → ⊥) where
    blocks_more : blocks (length a + 24) ≡ 1 → ⊥
    unfolding segments_of
    blocks_more = rw (told_of z.found) at more

    checks : check_length (length a + 24) ≡ 24
    checks = elim (dec_le (length a + 24) 6144) [
      | yes h ↦ absurd (blocks_more (single (length a + 24) h).0)
      | no h ↦ (several (length a + 24) (omega arith)).1
    ]

    pub several_size : 24 ≤ length c
    several_size = omega (arith, long_is, checks, size_checks (length a + 24) top r)

    front_room : length c - 24 ≡ size_of (length a + 24) r - check_length (length a + 24)
    front_room = rw (checks, ← long_is)

    pub several_room : Room a s r (take (length c - 24) c)
    several_room = record { segmented = segmented z.found; room = length-take-le (length c - 24) c (omega arith) ∙ front_room }

    pub several_put : (x : ℕ) {front last : List ℕ} {check : ℕ} → front ≡ payload (a ++ bits_of 24 x) r
        → check ≡ crc_from 24 g_crc24b 0 (take (length c - 24) (front ++ drop (length c - 24) c))
        → last ≡ put_check_bits check (mid_of (length c - 24) (length (front ++ drop (length c - 24) c) - (length c - 24)) (front ++ drop (length c - 24) c))
        → put_mid (length c - 24) (length (front ++ drop (length c - 24) c) - (length c - 24)) (front ++ drop (length c - 24) c) last ≡ code_block_into a x r c
    unfolding code_block check_bits
    several_put x {front} {last} {check} e f g =
        ended check (length c - 24) (front ++ drop (length c - 24) c) last whole g
        ∙ ap (λ (l : List ℕ). l ++ bits_of 24 check) taken
        ∙ ap (λ (n : ℕ). front ++ bits_of 24 n) (f ∙ from_zero 24 g_crc24b _ ∙ ap (crc 24 g_crc24b) taken)
        ∙ ap (λ (l : List ℕ). l ++ bits_of 24 (crc 24 g_crc24b l)) e
        ∙ sym (into x ∙ rw (with_bits a x, ne_eqb (blocks (length a + 24)) 1 blocks_more))
      where
        front_long : length front ≡ length c - 24
        front_long = ap length e ∙ length_payload (length a + 24) top (a ++ bits_of 24 x) (with_bits a x) r (segmented z.found).below ∙ sym front_room

        whole : length (front ++ drop (length c - 24) c) ≡ length c - 24 + 24
        whole = rw (length-append, front_long, length-drop) (omega (arith, several_size))

        taken : take (length c - 24) (front ++ drop (length c - 24) c) ≡ front
        taken = take_at front (drop (length c - 24) c) (length c - 24) front_long
