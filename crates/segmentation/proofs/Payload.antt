-- The payload of a code block by its pieces, for code that has the numbers of the segmentation: where each begins, and that none runs over.
-- Assumes nothing.
use mathlib.Core.Path.{◌≡◌, sym, ◌∙◌, ap}
use mathlib.Core.Bool.{cond}
use mathlib.Core.List.{List, [], ◌++◌, append-nil, append_assoc}
use Prim.Native.Nat.{ℕ, ◌+◌, ◌-◌, ◌*◌, ◌^◌, ◌≤◌, ◌<◌}
use native.Mathlib.Nat.{sub-zero, add-sub_cancel_left}
use native.Mathlib.Decide.{ℕ_discrete}
use native.Mathlib.Omega.{arith}
use lib.Dec.{eqb}
use lib.ListN.{length, take, drop, replicate, length-append, length-drop, length-replicate, drop_of_length-le}
use lib.Seq.{take-append-le, drop-append-le, take-append-add, drop-append-add, take_all, take_at}
use borrow.Rule.Slice.PartMut.{mid_of, put_mid}
use borrow.Author.Tests.{ne_eqb}
use Rattle.laws.specs.Bits.{bits_of}
use Rattle.laws.proofs.Bits.{length_bits_of}
use Rattle.laws.proofs.Parts.{length_mid}
use Rattle.check_bits.specs.Put.{put_check_bits}
use Rattle.segmentation.specs.declared.Segments.{Segments}
use Rattle.segmentation.specs.Segmentation.{check_length, blocks, long, short, shorts, filler, size_of}
use Rattle.segmentation.specs.CodeBlocks.{taken_before, payload}
use Rattle.segmentation.specs.Sizes.{segments_of}
use Rattle.segmentation.specs.Into.{start_of, Segmented, Room}
use Rattle.segmentation.proofs.Tails.{tail_lent, ended}
use Rattle.segmentation.proofs.Segmentation.{several, large_of, blocks_most, size_checks, filler_most, short_large, long_large}
use Rattle.segmentation.proofs.CodeBlocks.{taken_short, taken_back, taken_within, taken_inner, taken_last, filler_first, filler_taken}

-- ---- where the part begins

-- what the sums for a short and for a long block keep to, and that they give the place
pub record Short (A : ℕ) (s : Segments) (r : ℕ) : Type 0 where
  pub checks : 24 ≤ s.short
  pub fits : r * (s.short - 24) < 2 ^ 64
  pub filler_within : s.filler ≤ r * (s.short - 24)
  pub starts : r * (s.short - 24) - s.filler ≡ start_of (A + 24) r

pub record Long (A : ℕ) (s : Segments) (r : ℕ) : Type 0 where
  pub below : r ≤ s.blocks
  pub checks : 24 ≤ s.long
  pub fits : (s.blocks - r) * (s.long - 24) < 2 ^ 64
  pub within : (s.blocks - r) * (s.long - 24) ≤ A + 24
  pub starts : A + 24 - (s.blocks - r) * (s.long - 24) ≡ start_of (A + 24) r

module _ {A : ℕ} {s : Segments} {r : ℕ} (g : Segmented A s r) where
  high : A + 24 ≤ 30600
  high = omega (arith, g.most)

  -- a code block after the first is one of several
  large : 1 ≤ r → 6144 < A + 24
  large h = large_of (A + 24) (omega (arith, g.below))

  -- block 0
  pub start_first : r ≡ 0 → 0 ≡ start_of (A + 24) r
  unfolding start_of taken_before
  start_first e = rw e (omega arith)

  -- a short block
  pub start_short : 1 ≤ r → r < s.shorts → Short A s r
  unfolding start_of segments_of
  start_short h l = rw g.told (made (rw g.told at l))
    where
      made : r < shorts (A + 24) → Short A (segments_of (A + 24)) r
      made k = record {
        checks = omega (arith, short_large (A + 24) high (large h));
        fits = omega (arith, taken, within, filler_most (A + 24) high, g.most);
        filler_within = omega (arith, taken, after);
        starts = rw taken;
      }
        where
          taken : r * (short (A + 24) - 24) ≡ taken_before (A + 24) r
          taken = sym (rw (several (A + 24) (large h)).1 at (taken_short (A + 24) high r (omega arith)))

          within : taken_before (A + 24) r ≤ filler (A + 24) + (A + 24)
          within = omega (arith, taken_within (A + 24) high r g.below)

          after : filler (A + 24) ≤ taken_before (A + 24) r
          after = filler_taken (A + 24) high (omega arith) r h

  -- a long block
  pub start_long : 1 ≤ r → s.shorts ≤ r → Long A s r
  unfolding start_of segments_of
  start_long h l = rw g.told (made (rw g.told at l))
    where
      made : shorts (A + 24) ≤ r → Long A (segments_of (A + 24)) r
      made k = record {
        below = omega (arith, g.below);
        checks = omega (arith, long_large (A + 24) high (large h));
        fits = omega (arith, back, after, g.most);
        within = omega (arith, back, after);
        starts = omega (arith, back, after);
      }
        where
          back : taken_before (A + 24) r + (blocks (A + 24) - r) * (long (A + 24) - 24) ≡ filler (A + 24) + (A + 24)
          back = rw (several (A + 24) (large h)).1 at (taken_back (A + 24) high r k (omega (arith, g.below)))

          after : filler (A + 24) ≤ taken_before (A + 24) r
          after = filler_taken (A + 24) high (omega arith) r h

-- ---- the pieces

-- code block r of C, in as many entries as c has: filler, and the bits of a with its check from a place on
pub record Pieces (a c : List ℕ) (C r zeros from : ℕ) : Type 0 where
  pub spare : zeros + 24 ≤ length c
  pub few : r < 5
  pub inner : r + 1 < C → from + (length c - zeros) ≤ length a
  pub last : C ≤ r + 1 → from + (length c - zeros) ≡ length a + 24
  pub told : (x : ℕ) → payload (a ++ bits_of 24 x) r ≡ replicate {A = ℕ} zeros 0 ++ take (length c - zeros) (drop from (a ++ bits_of 24 x))

-- the list of them
first_piece : (F P : ℕ) (b : List ℕ) → F ≤ P → take P (replicate {A = ℕ} F 0 ++ b) ≡ replicate {A = ℕ} F 0 ++ take (P - F) b
first_piece F P b h =
    ap (λ (k : ℕ). take k (replicate {A = ℕ} F 0 ++ b)) whole ∙ take-append-add (replicate {A = ℕ} F 0) b (P - F)
  where
    whole : P ≡ length (replicate {A = ℕ} F 0) + (P - F)
    whole = rw (length-replicate {A = ℕ} F 0) (omega arith)

later_piece : (F T P : ℕ) (b : List ℕ) → F ≤ T → take P (drop T (replicate {A = ℕ} F 0 ++ b)) ≡ take P (drop (T - F) b)
later_piece F T P b h =
    ap (λ (k : ℕ). take P (drop k (replicate {A = ℕ} F 0 ++ b))) whole ∙ ap (λ (l : List ℕ). take P l) (drop-append-add (replicate {A = ℕ} F 0) b (T - F))
  where
    whole : T ≡ length (replicate {A = ℕ} F 0) + (T - F)
    whole = rw (length-replicate {A = ℕ} F 0) (omega arith)

pub with_bits : (a : List ℕ) (x : ℕ) → length (a ++ bits_of 24 x) ≡ length a + 24
with_bits a x = length-append a (bits_of 24 x) ∙ ap (λ (n : ℕ). length a + n) (length_bits_of 24 x)

module _ {a c : List ℕ} {s : Segments} {r : ℕ} (w : Room a s r c) where
  top : length a + 24 ≤ 30600
  top = high w.segmented

  few_blocks : r < 5
  few_blocks = omega (arith, w.segmented.below, blocks_most (length a + 24) top)

  -- block 0
  first_pieces : {zeros from : ℕ} → r ≡ 0 → zeros ≡ filler (length a + 24) → from ≡ start_of (length a + 24) r → Pieces a c (blocks (length a + 24)) r zeros from
  unfolding start_of taken_before payload
  first_pieces {zeros} {from} z e f = record {
    spare = omega (arith, room, filler_first (length a + 24) top (omega arith));
    few = few_blocks;
    inner = λ h. omega (arith, room, start, taken_inner (length a + 24) top 0 (rw z at h));
    last = λ h. omega (arith, room, start, taken_last (length a + 24) top 0 (only h), filler_first (length a + 24) top (omega arith));
    told = λ x. rw (with_bits a x, z, start, e, room) (first_piece (filler (length a + 24)) (size_of (length a + 24) 0 - check_length (length a + 24)) (a ++ bits_of 24 x) within);
  }
    where
      room : length c ≡ size_of (length a + 24) 0 - check_length (length a + 24)
      room = rw z at w.room

      only : blocks (length a + 24) ≤ r + 1 → 1 ≡ blocks (length a + 24)
      only h = omega (arith, w.segmented.below)

      within : filler (length a + 24) ≤ size_of (length a + 24) 0 - check_length (length a + 24)
      within = omega (arith, filler_first (length a + 24) top (omega arith))

      start : from ≡ 0
      start = f ∙ rw z (omega arith)

  -- a later block
  later_pieces : {zeros from : ℕ} → 1 ≤ r → zeros ≡ 0 → from ≡ start_of (length a + 24) r → Pieces a c (blocks (length a + 24)) r zeros from
  unfolding start_of payload
  later_pieces {zeros} {from} h e f = record {
    spare = omega (arith, w.room, size_checks (length a + 24) top r);
    few = few_blocks;
    inner = λ l. omega (arith, w.room, f, after, taken_inner (length a + 24) top r l);
    last = λ l. omega (arith, w.room, f, after, taken_last (length a + 24) top r (omega (arith, w.segmented.below)));
    told = λ x. rw (with_bits a x, e, f, sub-zero (length c), w.room) (later_piece (filler (length a + 24)) (taken_before (length a + 24) r) (size_of (length a + 24) r - check_length (length a + 24)) (a ++ bits_of 24 x) after);
  }
    where
      after : filler (length a + 24) ≤ taken_before (length a + 24) r
      after = filler_taken (length a + 24) top (omega arith) r h

  pub pieces : {zeros from : ℕ} → zeros ≡ cond (eqb r 0) s.filler 0 → from ≡ start_of (length a + 24) r → Pieces a c s.blocks r zeros from
  unfolding segments_of
  pieces e f = rw w.segmented.told (elim (ℕ_discrete r 0) [
    | yes z ↦ first_pieces z (e ∙ rw (z, w.segmented.told)) f
    | no h ↦ later_pieces (omega (arith, h)) (e ∙ rw (ne_eqb r 0 h)) f
  ])

-- ---- what is written

module _ {a c : List ℕ} {C r zeros from : ℕ} (p : Pieces a c C r zeros from) where
  -- a code block that is not the last takes a part of a alone
  module _ (h : r + 1 < C) where
    inner_long : length (mid_of from (from + (length c - zeros) - from) a) ≡ length c - zeros
    inner_long = length_mid from (from + (length c - zeros)) a (p.inner h) ∙ add-sub_cancel_left from (length c - zeros)

    pub inner_put : (x : ℕ) {put : List ℕ} → put ≡ replicate {A = ℕ} zeros 0 ++ (mid_of from (from + (length c - zeros) - from) a
        ++ drop (zeros + length (mid_of from (from + (length c - zeros) - from) a)) c) → put ≡ payload (a ++ bits_of 24 x) r
    inner_put x e = e ∙ ap (λ (l : List ℕ). replicate {A = ℕ} zeros 0 ++ l) piece ∙ sym (p.told x)
      where
        whole : drop (zeros + length (mid_of from (from + (length c - zeros) - from) a)) c ≡ []
        whole = drop_of_length-le c {i = zeros + length (mid_of from (from + (length c - zeros) - from) a)} (omega (arith, inner_long))

        starts : from ≤ length a
        starts = omega (arith, p.inner h)

        ends : length c - zeros ≤ length (drop from a)
        ends = rw (length-drop from a) (omega (arith, p.inner h))

        piece : mid_of from (from + (length c - zeros) - from) a ++ drop (zeros + length (mid_of from (from + (length c - zeros) - from) a)) c
            ≡ take (length c - zeros) (drop from (a ++ bits_of 24 x))
        piece = rw (whole, add-sub_cancel_left from (length c - zeros), append-nil, drop-append-le from a (bits_of 24 x) starts, take-append-le (length c - zeros) (drop from a) (bits_of 24 x) ends)

  -- the last takes the rest of a, and the transport check
  module _ (h : C ≤ r + 1) where
    pub last_starts : from ≤ length a
    last_starts = omega (arith, p.last h, p.spare)

    last_long : length (mid_of from (length a - from) a) ≡ length a - from
    last_long = length_mid from (length a) a (omega arith)

    pub last_room : zeros + (length a - from) + 24 ≡ length c
    last_room = omega (arith, p.last h, p.spare)

    pub last_put : (x : ℕ) {put check : List ℕ} → put ≡ replicate {A = ℕ} zeros 0 ++ (mid_of from (length a - from) a ++ drop (zeros + length (mid_of from (length a - from) a)) c)
        → check ≡ put_check_bits x (mid_of (length c - 24) (length put - (length c - 24)) put)
        → put_mid (length c - 24) (length put - (length c - 24)) put check ≡ payload (a ++ bits_of 24 x) r
    last_put x {put} {check} e f =
        ended x (length c - 24) put check long f
        ∙ ap (λ (l : List ℕ). l ++ bits_of 24 x) front
        ∙ append_assoc (replicate {A = ℕ} zeros 0) (drop from a) (bits_of 24 x)
        ∙ ap (λ (l : List ℕ). replicate {A = ℕ} zeros 0 ++ l) (sym rest)
        ∙ sym (p.told x)
      where
        held : List ℕ
        held = replicate {A = ℕ} zeros 0 ++ drop from a

        held_long : length held ≡ length c - 24
        held_long = rw (length-append, length-replicate {A = ℕ} zeros 0, length-drop) (omega (arith, last_room))

        put_is : put ≡ held ++ drop (zeros + (length a - from)) c
        put_is = e ∙ rw (last_long, tail_lent from a) (sym (append_assoc (replicate {A = ℕ} zeros 0) (drop from a) (drop (zeros + (length a - from)) c)))

        long : length put ≡ length c - 24 + 24
        long = rw (put_is, length-append, held_long, length-drop) (omega (arith, last_room))

        front : take (length c - 24) put ≡ held
        front = rw put_is (take_at held (drop (zeros + (length a - from)) c) (length c - 24) held_long)

        rest : take (length c - zeros) (drop from (a ++ bits_of 24 x)) ≡ drop from a ++ bits_of 24 x
        rest = rw (drop-append-le from a (bits_of 24 x) last_starts) (take_all (length c - zeros) (drop from a ++ bits_of 24 x) enough)
          where
            enough : length (drop from a ++ bits_of 24 x) ≤ length c - zeros
            enough = rw (length-append, length-drop, length_bits_of) (omega (arith, last_room))
