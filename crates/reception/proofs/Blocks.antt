-- The loop over the code blocks of a reception, 01 'Receive': each has its stretch of the bits and its part of the room.
-- Assumes nothing.
use mathlib.Core.Path.{◌≡◌, refl, sym, ◌∙◌, ap, ap₂}
use mathlib.Core.Bool.{false}
use mathlib.Core.List.{List, ◌++◌}
use Prim.Native.Nat.{ℕ, suc, ◌+◌, ◌-◌, ◌*◌, ◌≤◌, ◌<◌}
use native.Mathlib.Nat.{sub-zero, add-sub_cancel_left, mul-le-mul_right}
use native.Mathlib.Numerals.{add-one}
use native.Mathlib.Omega.{arith}
use lib.ListN.{length, get_or, take, drop}
use borrow.Rule.Slice.PartMut.{mid_of, put_mid}
use Rattle.laws.proofs.Tab.{length_tab, get_or_tab}
use Rattle.laws.proofs.Parts.{length_mid, length_put as length-putMid}
use Rattle.segmentation.specs.declared.Segments.{Segments}
use Rattle.segmentation.specs.Segmentation.{blocks, size_of, filler_of}
use Rattle.segmentation.specs.Sizes.{bad_size, segments_for}
use Rattle.rate_matching.specs.SubBlocks.{rows}
use Rattle.rate_matching.specs.Circle.{circle_length, cut_at, start_in}
use Rattle.rate_matching.specs.Walk.{sent_places, turn, turn_after_turn}
use Rattle.rate_matching.specs.Shape.{shape}
use Rattle.rate_matching.proofs.Cut.{sent_before}
use Rattle.codeword.specs.declared.Grant.{Grant}
use Rattle.codeword.specs.Shares.{shares_before, granted, granted_before}
use Rattle.codeword.specs.Codeword.{block_rows, block_cut}
use Rattle.codeword.specs.Build.{share_of}
use Rattle.codeword.proofs.Accepted.{allocated, share_told}
use Rattle.codeword.proofs.Shares.{stretch_within}
use Rattle.codeword.proofs.Segmented.{sized_in}
use Rattle.slots.specs.State.{per_block}
use Rattle.slots.specs.Putting.{put_along}
use Rattle.slots.specs.Room.{agreeing, circle_at, with_circle}
use Rattle.slots.specs.Reception.{block_places, block_values, put_on, put_blocks, received}
use Rattle.slots.proofs.Putting.{length_put}
use Rattle.slots.proofs.Buffers.{Wide}
use Rattle.slots.proofs.PlaceBounds.{block_cut_lem}
use Rattle.reading.proofs.Blocks.{streams, filler_below}
use Rattle.bit_placement.specs.inner.Along.{Sends}
use Rattle.bit_placement.proofs.Putting.{along_few, along_part}
use Rattle.reception.specs.inner.Parts.{part_after, Accepted}

-- ---- the code blocks of a block of A bits, A in range

module _ (A : ℕ) (admitted : bad_size A ≡ false) where
  -- the bits of code block r can be put
  pub block_sends : {soft v : ℕ} → Wide soft (A + 24) → v ≤ 3 → (r : ℕ) → Sends (size_of (A + 24) r + 4) (filler_of (A + 24) r) soft v per_block
  unfolding circle_length rows block_cut block_rows
  block_sends wide low r = record {
    walked = record {
      least = omega (arith, (streams A admitted r).least);
      most = (streams A admitted r).most;
      some = omega (arith, (streams A admitted r).bytes);
      filler = omega (arith, filler_below A admitted r);
      fits = omega (arith, (streams A admitted r).most);
    };
    cut = block_cut_lem A admitted wide r;
    version = low;
  }

  -- and their number
  pub count_is : {s : Segments} → s ≡ segments_for A → s.blocks ≡ blocks (A + 24)
  count_is {s} told = (sized_in A s admitted told).count

-- what is sent lies on the circle
sent_on : {D F soft v long : ℕ} → Sends D F soft v long → (E i : ℕ) → (let js = sent_places (take (cut_at soft (rows D)) (shape D F)) (start_in (cut_at soft (rows D)) (rows D) v) E in i < length js → get_or js i 0 < circle_length (rows D))
unfolding sent_places
sent_on {D} {F} {soft} {v} w E i l =
    rw (get_or_tab E places i 0 (rw (length_tab E places) at l)) (omega (arith, sent_before w.walked.least w.walked.filler w.cut w.version i, w.cut.most))
  where
    places : ℕ → ℕ
    places = turn_after_turn (turn (take (cut_at soft (rows D)) (shape D F)) (start_in (cut_at soft (rows D)) (rows D) v))

-- ---- the loop

-- the code blocks before r have their bits; what the definition still gives from here is the whole
pub record Blocks (A soft : ℕ) (g : Grant) (bits room₀ room : List ℕ) (at from r : ℕ) : Type 0 where
  pub passed : r ≤ blocks (A + 24)
  pub starts : at ≡ granted_before (blocks (A + 24)) g r
  pub begins : from ≡ r * per_block
  pub long : length room ≡ length room₀
  pub told : put_blocks agreeing soft (A + 24) g bits r (blocks (A + 24) - r) room ≡ received agreeing soft A g bits room₀

module _ {A soft : ℕ} {g : Grant} {bits room₀ : List ℕ} where
  pub blocks_start : Blocks A soft g bits room₀ room₀ 0 0 0
  unfolding shares_before received
  blocks_start = record {
    passed = omega arith;
    starts = refl;
    begins = omega arith;
    long = refl;
    told = ap (λ (n : ℕ). put_blocks agreeing soft (A + 24) g bits 0 n room₀) (sub-zero (blocks (A + 24)));
  }

  pub blocks_finish : {room : List ℕ} {at from r : ℕ} → blocks (A + 24) ≤ r → Blocks A soft g bits room₀ room at from r → room ≡ received agreeing soft A g bits room₀
  unfolding put_blocks
  blocks_finish {room} {at} {from} {r} h b = sym (ap (λ (n : ℕ). put_blocks agreeing soft (A + 24) g bits r n room) none) ∙ b.told
    where
      none : blocks (A + 24) - r ≡ 0
      none = omega arith

  module _ {room : List ℕ} {at from r : ℕ} (ok : Accepted A soft g bits (length room₀)) (h : r < blocks (A + 24))
      (b : Blocks A soft g bits room₀ room at from r) where
    -- the part of the room that is lent
    pub part_within : from + per_block ≤ length room
    part_within = omega (arith, b.begins, b.long, ok.fits, mul-le-mul_right per_block h)

    -- the stretch of the bits that is lent
    pub share_is : {E : ℕ} → E ≡ share_of (blocks (A + 24)) g.modulation g.layers g.bits r → E ≡ granted (blocks (A + 24)) g r
    share_is e = e ∙ share_told (blocks (A + 24)) g.modulation g.layers g.bits r h ok.allocation

    pub bits_within : {E : ℕ} → E ≡ share_of (blocks (A + 24)) g.modulation g.layers g.bits r → at + E ≤ length bits
    bits_within {E} e = omega (arith, b.starts, share_is e, stretch_within (blocks (A + 24)) g.modulation g.layers g.bits r h (allocated _ _ _ _ ok.allocation).multiple, ok.whole)

    -- the places that are lent for it, all or as many as its circle has
    pub blocks_next : {E D F L : ℕ} {part : List ℕ} → E ≡ share_of (blocks (A + 24)) g.modulation g.layers g.bits r → D ≡ size_of (A + 24) r + 4 → F ≡ filler_of (A + 24) r
        → circle_length (rows D) ≤ L → L ≤ per_block
        → part ≡ part_after D F (cut_at soft (rows D)) g.version (mid_of at (at + E - at) bits) (mid_of from (from + L - from) room)
        → Blocks A soft g bits room₀ (put_mid from (from + L - from) room part) (at + E) (from + per_block) (r + 1)
    unfolding put_blocks put_on with_circle circle_at part_after block_places block_values block_cut block_rows shares_before sent_places
    blocks_next {E} {D} {F} {L} {part} e d f enough most s = record {
      passed = omega arith;
      starts = ap₂ (λ (x y : ℕ). x + y) b.starts (share_is e) ∙ ap (granted_before C g) (sym (add-one r));
      begins = omega (arith, b.begins);
      long = length-putMid from (from + L) room part within as_long ∙ b.long;
      told =
          ap₂ (λ (q : ℕ) (l : List ℕ). put_blocks agreeing soft (A + 24) g bits q (C - (r + 1)) l) (add-one r) put
          ∙ ap (λ (n : ℕ). put_blocks agreeing soft (A + 24) g bits r n room) one
          ∙ b.told;
    }
      where
        C : ℕ
        C = blocks (A + 24)

        k : ℕ
        k = from + L - from

        within : from + L ≤ length room
        within = omega (arith, part_within)

        mid : List ℕ
        mid = mid_of from k room

        Ncb : ℕ
        Ncb = block_cut soft (A + 24) r

        js : List ℕ
        js = block_places soft (A + 24) g r

        one : suc (C - (r + 1)) ≡ C - r
        one = omega arith

        mid_long : length mid ≡ L
        mid_long = length_mid from (from + L) room within ∙ add-sub_cancel_left from L

        lent_long : length (mid_of at (at + E - at) bits) ≡ granted C g r
        lent_long = length_mid at (at + E) bits (bits_within e) ∙ add-sub_cancel_left at E ∙ share_is e

        places : sent_places (take (cut_at soft (rows D)) (shape D F)) (start_in (cut_at soft (rows D)) (rows D) g.version) (length (mid_of at (at + E - at) bits)) ≡ js
        places =
            ap₂ (λ (x y : ℕ). sent_places (take (cut_at soft (rows x)) (shape x y)) (start_in (cut_at soft (rows x)) (rows x) g.version) (length (mid_of at (at + E - at) bits))) d f
            ∙ ap (λ (n : ℕ). sent_places (take Ncb (shape (size_of (A + 24) r + 4) (filler_of (A + 24) r))) (start_in Ncb (block_rows (A + 24) r) g.version) n) lent_long

        few : length js ≤ at + E - at
        few =
            omega (
              arith,
              length_tab (granted C g r) (turn_after_turn (turn (take Ncb (shape (size_of (A + 24) r + 4) (filler_of (A + 24) r))) (start_in Ncb (block_rows (A + 24) r) g.version))),
              share_is e,
            )

        part_is : part ≡ put_along agreeing js (drop at bits) mid
        part_is =
            s
            ∙ ap (λ (l : List ℕ). put_along agreeing l (mid_of at (at + E - at) bits) mid) places
            ∙ along_few agreeing js (at + E - at) (drop at bits) mid few

        as_long : length part ≡ from + L - from
        as_long = ap length part_is ∙ length_put agreeing js (drop at bits) mid ∙ length_mid from (from + L) room within

        below : (i : ℕ) → i < length js → get_or js i 0 < length mid
        below i l = rw mid_long (omega (arith, sent_on (block_sends A ok.size ok.wide ok.version r) (granted C g r) i l, ap (λ (x : ℕ). circle_length (rows x)) d))

        put : put_mid from k room part ≡ with_circle r (put_on agreeing soft (A + 24) g bits r (circle_at r room)) room
        put =
            ap (put_mid from k room) part_is
            ∙ along_part agreeing from k room js (drop at bits) below
            ∙ ap₂ (λ (m n : ℕ). take m room ++ put_along agreeing js (drop n bits) (drop m room)) b.begins b.starts
