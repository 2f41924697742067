-- The code blocks of a sequence of bits on their circles: their streams hold bits past the filler, and each data place holds the code block's own bit, which is the sequence's where it is no check bit.
-- Assumes nothing.
use mathlib.Core.Path.{◌≡◌, sym, ◌∙◌, ap}
use mathlib.Core.Bool.{Bool, true, false, cond}
use mathlib.Core.List.{List, [], ◌++◌}
use Prim.Native.Nat.{ℕ, zero, suc, ◌+◌, ◌-◌, ◌≤◌, ◌<◌}
use native.Mathlib.Omega.{arith}
use lib.Dec.{eqb, lit<}
use lib.ListN.{length, get_or, drop, replicate, length-replicate, get_or-append}
use lib.Seq.{get_or-append-add, get_or-take, get_or-drop}
use Rattle.laws.specs.Bits.{AreBits}
use Rattle.laws.proofs.AreBits.{no_bits, append_bits, zero_bits, take_below, drop_below}
use Rattle.check_bits.specs.CheckBits.{check_bits, g_crc24a, g_crc24b}
use Rattle.check_bits.proofs.Register.{check_bits_bits}
use Rattle.segmentation.specs.Segmentation.{check_length, blocks, filler, size_of, row_of, filler_of}
use Rattle.segmentation.specs.CodeBlocks.{with_check, taken_before, payload, code_block}
use Rattle.segmentation.proofs.Segmentation.{size_row}
use Rattle.segmentation.proofs.CodeBlocks.{length_payload, length_code_block, filler_within, filler_taken}
use Rattle.turbo.specs.Streams.{stream0, stream1, stream2}
use Rattle.turbo.proofs.Streams.{length_stream2, stream0_data}
use Rattle.rate_matching.specs.Walk.{on_circle}
use Rattle.rate_matching.specs.Places.{place_number, place_of, InStreams, stream_of, entry_of}
use Rattle.rate_matching.proofs.Circle.{circle_holds}
use Rattle.rate_matching.proofs.Places.{place_on_circle, held_place}
use Rattle.rate_matching.proofs.Alike.{Filled, streams_filled}
use Rattle.codeword.specs.Codeword.{block_circle}

-- ---- lists of bits

pub with_check_bits : (a : List ℕ) → AreBits a → AreBits (with_check a)
unfolding with_check
with_check_bits a h = append_bits a (check_bits 24 g_crc24a a) h (check_bits_bits 24 g_crc24a a)

payload_bits : (b : List ℕ) (r : ℕ) → AreBits b → AreBits (payload b r)
unfolding payload
payload_bits b r h =
    let F : List ℕ = replicate {A = ℕ} (filler (length b)) 0 in
    take_below 2 (lit< tt) (size_of (length b) r - check_length (length b)) (drop (taken_before (length b) r) (F ++ b))
    (drop_below 2 (taken_before (length b) r) (F ++ b) (append_bits F b (zero_bits (filler (length b))) h))

pub code_block_bits : (b : List ℕ) (r : ℕ) → AreBits b → AreBits (code_block b r)
unfolding code_block
code_block_bits b r h = append_bits (payload b r) _ (payload_bits b r h) (last (eqb (blocks (length b)) 1))
  where
    last : (t : Bool) → AreBits (cond t [] (check_bits 24 g_crc24b (payload b r)))
    last true = no_bits
    last false = check_bits_bits 24 g_crc24b (payload b r)

-- ---- a sequence b of B bits

module _ (B : ℕ) (low : 24 ≤ B) (high : B ≤ 30600) where
  -- the filler is over before a later code block
  pub filler_over : (r : ℕ) → filler B ≤ taken_before B r + filler_of B r
  unfolding filler_of taken_before
  filler_over zero = omega arith
  filler_over (suc r) = omega (arith, filler_taken B high low (suc r) (omega arith))

  module _ (b : List ℕ) (long : length b ≡ B) (r : ℕ) (below : r < blocks B) where
    filler_short : filler_of B r ≤ length (code_block b r)
    filler_short = rw (length_code_block B high b long r below) (omega (arith, filler_within B high low r))

    pub block_filled : AreBits b → Filled (size_of B r + 4) (filler_of B r)
        (stream0 (row_of B r) (filler_of B r) (code_block b r)) (stream1 (row_of B r) (filler_of B r) (code_block b r)) (stream2 (row_of B r) (code_block b r))
    block_filled bits =
        rw (length_code_block B high b long r below) at
        (streams_filled (row_of B r) (filler_of B r) (code_block b r) filler_short
        (length_stream2 (row_of B r) (code_block b r) ∙ ap (λ (K : ℕ). K + 4) (sym (size_row B high r) ∙ sym (length_code_block B high b long r below)))
        (code_block_bits b r bits))

    -- a data place holds the code block's bit
    pub data_place : AreBits b → (i : ℕ) → filler_of B r ≤ i → i < size_of B r
        → on_circle (block_circle b r) (place_number (size_of B r + 4) 0 i) ≡ get_or (code_block b r) i 0
    unfolding block_circle place_of entry_of stream_of
    data_place bits i h l =
        let D : ℕ = size_of B r + 4 in
        let c : List ℕ = code_block b r in
        let d0 : List ℕ = stream0 (row_of B r) (filler_of B r) c in
        let d1 : List ℕ = stream1 (row_of B r) (filler_of B r) c in
        let d2 : List ℕ = stream2 (row_of B r) c in
        let w : Filled D (filler_of B r) d0 d1 d2 = block_filled bits in
        let within : InStreams D (0, i) = record { stream = lit< tt; place = omega arith } in
        rw long
        (circle_holds D d0 d1 d2 w.long0 w.long1 w.long2 (place_number D 0 i) (place_on_circle D (0, i) within)
        ∙ ap (entry_of d0 d1 d2) (held_place D (0, i) within)
        ∙ stream0_data (row_of B r) (filler_of B r) c i filler_short h (rw (length_code_block B high b long r below) l))

    -- and that is a bit of the sequence, up to the check bits
    pub carries : (i : ℕ) → filler_of B r ≤ i → i < size_of B r - check_length B
        → get_or (code_block b r) i 0 ≡ get_or b (taken_before B r + i - filler B) 0
    unfolding code_block payload
    carries i h l = get_or-append (payload b r) _ 0 i (rw (length_payload B high b long r below) l) ∙ in_payload
      where
        in_payload : get_or (payload b r) i 0 ≡ get_or b (taken_before B r + i - filler B) 0
        in_payload =
            let zeros : List ℕ = replicate {A = ℕ} (filler B) 0 in
            let place : taken_before B r + i ≡ length zeros + (taken_before B r + i - filler B) =
            rw (length-replicate {A = ℕ} (filler B) 0) (omega (arith, filler_over r)) in
            rw long
            (get_or-take (size_of B r - check_length B) (drop (taken_before B r) (zeros ++ b)) i 0 l
            ∙ get_or-drop (taken_before B r) (zeros ++ b) i 0
            ∙ ap (λ (n : ℕ). get_or (zeros ++ b) n 0) place
            ∙ get_or-append-add zeros b (taken_before B r + i - filler B) 0)
