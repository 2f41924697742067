-- Laws of the three streams: their lengths, where <NULL> stands, and bits everywhere else.
-- Assumes nothing.
use mathlib.Core.Bool.{Bool, true, false}
use mathlib.Core.Path.{◌≡◌, refl, sym, ◌∙◌, ap}
use mathlib.Core.List.{List, [], ◌∷◌, ◌++◌, append_assoc}
use Prim.Native.Nat.{ℕ, ◌+◌, ◌-◌, ◌≤◌, ◌<◌}
use native.Mathlib.Omega.{arith}
use borrow.Author.Tests.{ltb-true, ltb-false}
use lib.Dec.{ltb, lit<}
use lib.ListN.{length, get_or, drop, replicate, length-append, length-drop, length-replicate, get_or-replicate, get_or-append, get_or-eq_default}
use lib.Seq.{drop-append-le, get_or-append-add, get_or-drop}
use Rattle.laws.specs.Bits.{AreBits}
use Rattle.laws.proofs.AreBits.{no_bits, with_bit, append_bits}
use Rattle.interleaver.specs.Table.{size_at}
use Rattle.interleaver.specs.Place.{interleaved, second_place}
use Rattle.interleaver.proofs.Into.{length_interleaved, get_or_interleaved}
use Rattle.turbo.specs.Encoder.{start, parities}
use Rattle.turbo.specs.Streams.{NULL, without_filler, first_end, second_end, stream0, stream1, stream2}
use Rattle.turbo.proofs.Encoder.{length_parities, BitRegisters, start_bits, parities_bits, after_bits, x_tail_bit, z_tail_bit}

-- ---- bits

tail_bits : {a b x y : ℕ} → a < 2 → b < 2 → x < 2 → y < 2 → AreBits (a ∷ b ∷ x ∷ y ∷ [])
tail_bits {a} {b} {x} {y} ha hb hx hy = with_bit a (b ∷ x ∷ y ∷ []) ha (with_bit b (x ∷ y ∷ []) hb (with_bit x (y ∷ []) hx (with_bit y [] hy no_bits)))

pub interleaved_bits : (row : ℕ) (c : List ℕ) → AreBits c → AreBits (interleaved row c)
interleaved_bits row c h i = split (ltb i (size_at row)) refl
  where
    split : (b : Bool) → ltb i (size_at row) ≡ b → get_or (interleaved row c) i 0 < 2
    split true e = rw (get_or_interleaved row c i (ltb-true _ _ e)) (h (second_place row i))
    split false e = rw (get_or-eq_default (interleaved row c) 0 past) (lit< tt)
      where
        past : length (interleaved row c) ≤ i
        past = rw length_interleaved (ltb-false _ _ e)

pub first_end_bits : (c : List ℕ) → AreBits c → BitRegisters (first_end c)
unfolding first_end
first_end_bits c h = after_bits c start_bits h

pub second_end_bits : (row : ℕ) (c : List ℕ) → AreBits c → BitRegisters (second_end row c)
unfolding second_end
second_end_bits row c h = after_bits (interleaved row c) start_bits (interleaved_bits row c h)

-- ---- filler places

pub without_filler_none : (d : List ℕ) → d ≡ without_filler 0 d
unfolding without_filler
without_filler_none d = refl

pub length_without_filler : (F : ℕ) (d : List ℕ) → F ≤ length d → length (without_filler F d) ≡ length d
unfolding without_filler
length_without_filler F d h = simp (length-append, length-replicate, length-drop) (omega arith)

-- filler places are within the bits, not in the tail
pub without_filler_append : (F : ℕ) (d tail : List ℕ) → F ≤ length d → without_filler F (d ++ tail) ≡ without_filler F d ++ tail
unfolding without_filler
without_filler_append F d tail h = rw (drop-append-le F d tail, ← append_assoc)

pub filler_null : (F : ℕ) (d : List ℕ) (i : ℕ) → i < F → get_or (without_filler F d) i 0 ≡ NULL
unfolding without_filler
filler_null F d i h = get_or-append (replicate F NULL) (drop F d) 0 i (rw length-replicate h) ∙ get_or-replicate F i NULL 0 h

pub past_filler : (F : ℕ) (d : List ℕ) (i : ℕ) → F ≤ i → get_or (without_filler F d) i 0 ≡ get_or d i 0
unfolding without_filler
past_filler F d i h =
    ap (λ (k : ℕ). get_or (without_filler F d) k 0) (place ∙ ap (λ (n : ℕ). n + (i - F)) (sym (length-replicate F NULL)))
    ∙ get_or-append-add (replicate F NULL) (drop F d) (i - F) 0
    ∙ get_or-drop F d (i - F) 0
    ∙ ap (λ (k : ℕ). get_or d k 0) (sym place)
  where
    place : i ≡ F + (i - F)
    place = omega arith

-- ---- lengths: D = K + 4

pub length_stream0 : (row F : ℕ) (c : List ℕ) → F ≤ length c → length (stream0 row F c) ≡ length c + 4
unfolding stream0
length_stream0 row F c h = rw (length-append, length_without_filler F c)

pub length_stream1 : (row F : ℕ) (c : List ℕ) → F ≤ length c → length (stream1 row F c) ≡ length c + 4
unfolding stream1
length_stream1 row F c h = rw (length-append, length_without_filler F (parities start c) (rw length_parities h), length_parities)

pub length_stream2 : (row : ℕ) (c : List ℕ) → length (stream2 row c) ≡ size_at row + 4
unfolding stream2
length_stream2 row c = rw (length-append, length_parities, length_interleaved)

-- ---- what stands in a stream: <NULL> at the filler places of streams 0 and 1, a bit elsewhere

module _ (F : ℕ) (d tail : List ℕ) (i : ℕ) (h : F ≤ length d) where
  null_in : i < F → get_or (without_filler F d ++ tail) i 0 ≡ NULL
  null_in l = get_or-append (without_filler F d) tail 0 i (rw (length_without_filler F d h) (omega arith)) ∙ filler_null F d i l

  bit_in : AreBits d → AreBits tail → F ≤ i → get_or (without_filler F d ++ tail) i 0 < 2
  bit_in hd ht l = rw (← without_filler_append F d tail h, past_filler F (d ++ tail) i l) (append_bits d tail hd ht i)

module _ (row F : ℕ) (c : List ℕ) (i : ℕ) (h : F ≤ length c) where
  pub stream0_null : i < F → get_or (stream0 row F c) i 0 ≡ NULL
  unfolding stream0
  stream0_null l = null_in F c _ i h l

  pub stream1_null : i < F → get_or (stream1 row F c) i 0 ≡ NULL
  unfolding stream1
  stream1_null l = null_in F (parities start c) _ i (rw length_parities h) l

  -- stream 0 holds the code block's own bits
  pub stream0_data : F ≤ i → i < length c → get_or (stream0 row F c) i 0 ≡ get_or c i 0
  unfolding stream0
  stream0_data l m = get_or-append (without_filler F c) _ 0 i (rw (length_without_filler F c h) m) ∙ past_filler F c i l

  pub stream0_bit : AreBits c → F ≤ i → get_or (stream0 row F c) i 0 < 2
  unfolding stream0
  stream0_bit b l =
      let p = first_end_bits c b in
      let q = second_end_bits row c b in
      bit_in F c _ i h b (tail_bits (x_tail_bit 0 p) (z_tail_bit 1 p) (x_tail_bit 0 q) (z_tail_bit 1 q)) l

  pub stream1_bit : AreBits c → F ≤ i → get_or (stream1 row F c) i 0 < 2
  unfolding stream1
  stream1_bit b l =
      let p = first_end_bits c b in
      let q = second_end_bits row c b in
      bit_in F (parities start c) _ i (rw length_parities h) (parities_bits c start_bits b) (tail_bits (z_tail_bit 0 p) (x_tail_bit 2 p) (z_tail_bit 0 q) (x_tail_bit 2 q)) l

pub stream2_bits : (row : ℕ) (c : List ℕ) → AreBits c → AreBits (stream2 row c)
unfolding stream2
stream2_bits row c b =
    let p = first_end_bits c b in
    let q = second_end_bits row c b in
    append_bits (parities start (interleaved row c)) _ (parities_bits (interleaved row c) start_bits (interleaved_bits row c b))
    (tail_bits (x_tail_bit 1 p) (z_tail_bit 2 p) (x_tail_bit 1 q) (z_tail_bit 2 q))
