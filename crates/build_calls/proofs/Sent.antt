-- A code block's way through segmentation, turbo encoder and rate matcher gives the bits that the definition sends of it (clause 5.1.5's e_rk).
-- Assumes nothing.
use mathlib.Core.Path.{◌≡◌, refl, sym, ◌∙◌, ap}
use mathlib.Core.Bool.{true, cond}
use mathlib.Core.List.{List, ◌++◌}
use Prim.Native.Nat.{ℕ, ◌+◌, ◌-◌, ◌≤◌, ◌<◌}
use native.Mathlib.Omega.{arith}
use lib.Dec.{eqb, ltb}
use lib.ListN.{length, take, drop, length-append, length-drop}
use lib.Seq.{length-take-le}
use borrow.Author.Tests.{lt-ltb, eq-eqb}
use Rattle.laws.specs.Bits.{bits_of}
use Rattle.laws.proofs.Bits.{bits_of_bits}
use Rattle.interleaver.specs.Table.{size_at}
use Rattle.interleaver.proofs.Rows.{row_keeps}
use Rattle.segmentation.specs.declared.Segments.{Segments}
use Rattle.segmentation.specs.Segmentation.{blocks, size_of, row_of, filler_of}
use Rattle.segmentation.specs.CodeBlocks.{code_block}
use Rattle.segmentation.specs.Into.{fits_block, code_block_into}
use Rattle.segmentation.specs.Sizes.{segments_of}
use Rattle.segmentation.proofs.Segmentation.{in_range, size_row, row_below, size_most}
use Rattle.segmentation.proofs.CodeBlocks.{filler_within, length_code_block}
use Rattle.segmentation.proofs.Payload.{with_bits}
use Rattle.turbo.specs.Streams.{stream0, stream1, stream2}
use Rattle.turbo.specs.Encode.{block_in, fit}
use Rattle.turbo.proofs.Encodable.{true_encodable, block_put}
use Rattle.laws.proofs.AreBits.{append_bits}
use Rattle.rate_matching.specs.SubBlocks.{rows}
use Rattle.rate_matching.proofs.Alike.{Filled}
use Rattle.rate_matching.proofs.Units.{rows_some}
use Rattle.rate_matching.proofs.MatchableBlocks.{Matchable}
use Rattle.bit_selection.specs.Matcher.{matched_into}
use Rattle.bit_selection.proofs.Block.{matched_selected}
use Rattle.codeword.specs.declared.Grant.{Grant}
use Rattle.codeword.specs.inner.Accepted.{Accepted}
use Rattle.codeword.specs.Codeword.{block_circle, block_rows, block_cut, sent_bits}
use Rattle.build_calls.specs.inner.Sending.{Sending}
use Rattle.codeword.proofs.Accepted.{given_bits}
use Rattle.codeword.proofs.SoftShares.{size_under, cut_told}
use Rattle.codeword.proofs.Data.{block_filled}

-- what a code block of an accepted Build has
pub sending : {soft : ℕ} {a : List ℕ} {s : Segments} {r : ℕ} {g : Grant} → Accepted soft a g → s ≡ segments_of (length a + 24) → r < blocks (length a + 24)
    → Sending soft a s r g.version
sending ok told below = record { size = ok.size; buffer = ok.buffer _ below; segments = told; below = below; version = ok.version; bits = ok.bits }

module _ {soft : ℕ} {a : List ℕ} {s : Segments} {r v : ℕ} (h : Sending soft a s r v) where
  high : length a + 24 ≤ 30600
  high = omega (arith, (in_range (length a) h.size).1)

  -- the row and the filler that the segmentation tells are the code block's
  pub row_told : {row : ℕ} → row ≡ cond (ltb r s.shorts) (s.row - 1) s.row → row ≡ row_of (length a + 24) r
  unfolding segments_of row_of
  row_told e = e ∙ ap (λ (t : Segments). cond (ltb r t.shorts) (t.row - 1) t.row) h.segments

  pub filler_told : {F : ℕ} → F ≡ cond (eqb r 0) s.filler 0 → F ≡ filler_of (length a + 24) r
  unfolding segments_of filler_of
  filler_told e = e ∙ ap (λ (t : Segments). cond (eqb r 0) t.filler 0) h.segments

  pub size_told : {k : ℕ} → k ≡ cond (ltb r s.shorts) s.short s.long → k ≡ size_of (length a + 24) r
  unfolding segments_of size_of
  size_told e = e ∙ ap (λ (t : Segments). cond (ltb r t.shorts) t.short t.long) h.segments

  pub size_most_told : size_of (length a + 24) r ≤ 6144
  size_most_told = size_most (length a + 24) high r

  -- no code block is longer than the long size
  pub size_within : size_of (length a + 24) r ≤ s.long
  unfolding segments_of
  size_within = rw h.segments (size_under (length a + 24) high r)

  -- the code block's bits
  coded : (x : ℕ) (c₀ c : List ℕ) → length c₀ ≡ size_of (length a + 24) r → c ≡ code_block_into a x r c₀ → c ≡ code_block (a ++ bits_of 24 x) r
  unfolding code_block_into fits_block
  coded x c₀ c room e =
      e ∙ simp (h.size, lt-ltb r (blocks (length a + 24)) h.below, eq-eqb (length c₀) (size_of (length a + 24) r) room)

  -- stream 0's room after they were put at its front
  pub record Fronted (x : ℕ) (d0 : List ℕ) : Type 0 where
    pub bits : block_in d0 ≡ code_block (a ++ bits_of 24 x) r
    pub long : length d0 ≡ size_of (length a + 24) r + 4

  pub fronted : (x : ℕ) (d0 : List ℕ) {part : List ℕ} → length d0 ≡ size_of (length a + 24) r + 4 → part ≡ code_block_into a x r (take (length d0 - 4) d0)
      → Fronted x (part ++ drop (length d0 - 4) d0)
  fronted x d0 {part} room e = record {
    bits = ap (λ (k : ℕ). block_in (part ++ drop k d0)) (sym count) ∙ block_put part d0 (omega (arith, count)) ∙ is;
    long = omega (arith, length-append part (drop (length d0 - 4) d0), length-drop (length d0 - 4) d0, count);
  }
    where
      front : length (take (length d0 - 4) d0) ≡ size_of (length a + 24) r
      front = omega (arith, length-take-le (length d0 - 4) d0 (omega arith))

      is : part ≡ code_block (a ++ bits_of 24 x) r
      is = coded x (take (length d0 - 4) d0) part front e

      count : length part ≡ length d0 - 4
      count = omega (arith, ap length is, length_code_block (length a + 24) high (a ++ bits_of 24 x) (with_bits a x) r h.below)

  module _ (x : ℕ) (c : List ℕ) (c_is : c ≡ code_block (a ++ bits_of 24 x) r) where
    c_long : length c ≡ size_of (length a + 24) r
    c_long = ap length c_is ∙ length_code_block (length a + 24) high (a ++ bits_of 24 x) (with_bits a x) r h.below

    fills : filler_of (length a + 24) r ≤ length c
    fills = omega (arith, c_long, filler_within (length a + 24) high (omega arith) r)

    -- the encoder takes it
    pub encoded : {row F : ℕ} → row ≡ row_of (length a + 24) r → F ≡ filler_of (length a + 24) r → (d0 d1 d2 : List ℕ)
        → length d0 ≡ size_of (length a + 24) r + 4 → length d1 ≡ size_of (length a + 24) r + 4 → length d2 ≡ size_of (length a + 24) r + 4
        → fit row F d0 d1 d2 ≡ true
    encoded {row} {F} row_is F-is d0 d1 d2 l0 l1 l2 =
        true_encodable row F (length d0) (length d1) (length d2)
        (record {
          below = rw row_is (row_below (length a + 24) high r);
          filler = rw (F-is, ← size) (omega (arith, fills, c_long));
          long0 = l0 ∙ places;
          long1 = l1 ∙ places;
          long2 = l2 ∙ places;
        })
      where
        size : size_of (length a + 24) r ≡ size_at row
        size = size_row (length a + 24) high r ∙ ap size_at (sym row_is)

        places : size_of (length a + 24) r + 4 ≡ size_at row + 4
        places = ap (λ (k : ℕ). k + 4) size

    -- its streams are those of a code block
    matches : Matchable (size_of (length a + 24) r + 4) (size_of (length a + 24) r + 4) (size_of (length a + 24) r + 4) (filler_of (length a + 24) r) (block_cut soft (length a + 24) r) v
    unfolding block_cut block_rows
    matches =
        let row = row_keeps _ (row_below (length a + 24) high r) in
        let size = size_row (length a + 24) high r in
        record {
          fits = record {
            first = refl;
            second = refl;
            some = omega (arith, row.bytes, size);
            most = omega (arith, size_most (length a + 24) high r);
            filler = omega (arith, c_long, fills);
          };
          least = omega (arith, row.least, size);
          cut = cut_told (rows (size_of (length a + 24) r + 4)) (rows_some _ (omega (arith, row.bytes, size))) h.buffer;
          version = h.version;
        }

    -- the rate matcher sends the bits that the definition names
    pub sent_is : {row F : ℕ} → row ≡ row_of (length a + 24) r → F ≡ filler_of (length a + 24) r → {d0 d1 d2 : List ℕ}
        → d0 ≡ stream0 row F c → d1 ≡ stream1 row F c → d2 ≡ stream2 row c → (out₀ : List ℕ) {out : List ℕ}
        → {Ncb : ℕ} → Ncb ≡ block_cut soft (length a + 24) r → out ≡ matched_into d0 d1 d2 F Ncb v out₀ → out ≡ sent_bits soft (a ++ bits_of 24 x) v r (length out₀)
    unfolding sent_bits block_circle block_rows
    sent_is {row} {F} row_is F-is {d0} {d1} {d2} e0 e1 e2 out₀ {out} cut_is told =
        told ∙ rw (e0, e1, e2, row_is, F-is, cut_is, with_bits a x, c_is) (matched_selected filled matches out₀)
      where
        b : List ℕ
        b = a ++ bits_of 24 x

        filled : Filled (size_of (length a + 24) r + 4) (filler_of (length a + 24) r)
            (stream0 (row_of (length a + 24) r) (filler_of (length a + 24) r) (code_block b r)) (stream1 (row_of (length a + 24) r) (filler_of (length a + 24) r) (code_block b r)) (stream2 (row_of (length a + 24) r) (code_block b r))
        filled = block_filled (length a + 24) (omega arith) high b (with_bits a x) r h.below (append_bits a (bits_of 24 x) (given_bits a h.bits) (bits_of_bits 24 x))
