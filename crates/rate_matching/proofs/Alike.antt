-- Which places of a code block's circle hold a bit does not depend on the bits: all circles with as many places a stream and as much filler send the same places, those of the shape.
-- Assumes nothing.
use mathlib.Core.Path.{◌≡◌, refl, sym, ◌∙◌, ap}
use mathlib.Core.Bool.{Bool, true, false}
use mathlib.Core.List.{List}
use Prim.Native.Nat.{ℕ, zero, suc, ◌+◌, ◌≤◌, ◌<◌, min}
use native.Mathlib.Decide.{dec_lt}
use native.Mathlib.Omega.{arith}
use lib.Dec.{leb}
use lib.ListN.{length, get_or, take, length-take, length-replicate, get_or-eq_default}
use lib.Seq.{get_or-take}
use borrow.Author.Tests.{lt-ltb, leb-true, leb-false}
use Rattle.laws.specs.Lists.{tab, keep}
use Rattle.laws.specs.Bits.{AreBits}
use Rattle.laws.proofs.AreBits.{zero_bits}
use Rattle.laws.proofs.Keep.{keep_ext}
use Rattle.turbo.specs.Streams.{NULL, without_filler, stream0, stream1, stream2}
use Rattle.turbo.proofs.Streams.{length_without_filler, filler_null, past_filler, length_stream0, length_stream1, stream0_null, stream1_null, stream0_bit, stream1_bit, stream2_bits}
use Rattle.rate_matching.specs.SubBlocks.{rows}
use Rattle.rate_matching.specs.Circle.{circle, circle_length}
use Rattle.rate_matching.specs.Walk.{on_circle, is_bit, holds_bit, round, turn, turn_after_turn, sent_places}
use Rattle.rate_matching.specs.Places.{Held, Bit, Dummy, held_at, stream_of, entry_of}
use Rattle.rate_matching.specs.Shape.{blank}
use Rattle.rate_matching.proofs.Circle.{length_circle, circle_holds}

-- the places of a stream that hold a bit are those from F on
abbrev pub BitsFrom : ℕ → List ℕ → Type 0
BitsFrom F d = (i : ℕ) → is_bit (get_or d i 0) ≡ leb F i

pub bits_from_lem : (F : ℕ) (d : List ℕ) → ((i : ℕ) → i < F → get_or d i 0 ≡ NULL) → ((i : ℕ) → F ≤ i → get_or d i 0 < 2) → BitsFrom F d
unfolding is_bit
bits_from_lem F d null bit i = go (leb F i) refl
  where
    go : (t : Bool) → leb F i ≡ t → is_bit (get_or d i 0) ≡ t
    go true e = lt-ltb (get_or d i 0) 2 (bit i (leb-true F i e))
    go false e = ap is_bit (null i (leb-false F i e))

-- three streams of D places, the first F of streams 0 and 1 absent
pub record Filled (D F : ℕ) (d0 d1 d2 : List ℕ) : Type 0 where
  pub long0 : length d0 ≡ D
  pub long1 : length d1 ≡ D
  pub long2 : length d2 ≡ D
  pub bits0 : BitsFrom F d0
  pub bits1 : BitsFrom F d1
  pub bits2 : BitsFrom 0 d2

-- the streams of a code block of bits
pub streams_filled : (row F : ℕ) (c : List ℕ) → F ≤ length c → length (stream2 row c) ≡ length c + 4 → AreBits c
    → Filled (length c + 4) F (stream0 row F c) (stream1 row F c) (stream2 row c)
streams_filled row F c h e bits = record {
  long0 = length_stream0 row F c h;
  long1 = length_stream1 row F c h;
  long2 = e;
  bits0 = bits_from_lem F (stream0 row F c) (λ i l. stream0_null row F c i h l) (λ i l. stream0_bit row F c i h bits l);
  bits1 = bits_from_lem F (stream1 row F c) (λ i l. stream1_null row F c i h l) (λ i l. stream1_bit row F c i h bits l);
  bits2 = bits_from_lem 0 (stream2 row c) (λ i l. absurd (omega arith)) (λ i l. stream2_bits row c bits i);
}

-- the streams of the shape
blank_bits : (D : ℕ) → AreBits (blank D)
unfolding blank
blank_bits D = zero_bits D

length_blank : (D : ℕ) → length (blank D) ≡ D
unfolding blank
length_blank D = length-replicate {A = ℕ} D 0

pub shape_filled : (D F : ℕ) → F ≤ D → Filled D F (without_filler F (blank D)) (without_filler F (blank D)) (blank D)
shape_filled D F h = record {
  long0 = length_without_filler F (blank D) (rw length_blank h) ∙ length_blank D;
  long1 = length_without_filler F (blank D) (rw length_blank h) ∙ length_blank D;
  long2 = length_blank D;
  bits0 = filled;
  bits1 = filled;
  bits2 = bits_from_lem 0 (blank D) (λ i l. absurd (omega arith)) (λ i l. blank_bits D i);
}
  where
    filled : BitsFrom F (without_filler F (blank D))
    filled = bits_from_lem F (without_filler F (blank D)) (λ i l. filler_null F (blank D) i l) (λ i l. rw (past_filler F (blank D) i l) (blank_bits D i))

module _ {D F : ℕ} {d0 d1 d2 e0 e1 e2 : List ℕ} (w : Filled D F d0 d1 d2) (u : Filled D F e0 e1 e2) where
  same_place : (s i : ℕ) → is_bit (get_or (stream_of d0 d1 d2 s) i 0) ≡ is_bit (get_or (stream_of e0 e1 e2 s) i 0)
  unfolding stream_of
  same_place zero i = w.bits0 i ∙ sym (u.bits0 i)
  same_place (suc zero) i = w.bits1 i ∙ sym (u.bits1 i)
  same_place (suc (suc s)) i = w.bits2 i ∙ sym (u.bits2 i)

  same_entry : (h : Held) → is_bit (entry_of d0 d1 d2 h) ≡ is_bit (entry_of e0 e1 e2 h)
  unfolding entry_of
  same_entry Dummy = refl
  same_entry (Bit p) = same_place p.0 p.1

  same_length : length (circle d0 d1 d2) ≡ length (circle e0 e1 e2)
  same_length =
      length_circle D d0 d1 d2 w.long0 w.long1 w.long2 ∙ sym (length_circle D e0 e1 e2 u.long0 u.long1 u.long2)

  same_holds : (j : ℕ) → holds_bit (circle d0 d1 d2) j ≡ holds_bit (circle e0 e1 e2) j
  unfolding holds_bit on_circle
  same_holds j = elim (dec_lt j (circle_length (rows D))) [
    | yes h ↦
        ap is_bit (circle_holds D d0 d1 d2 w.long0 w.long1 w.long2 j h)
        ∙ same_entry (held_at D (record { 0 = j }))
        ∙ sym (ap is_bit (circle_holds D e0 e1 e2 u.long0 u.long1 u.long2 j h))
    | no h ↦
        ap is_bit
        (get_or-eq_default (circle d0 d1 d2) 0 {n = j} (rw (length_circle D d0 d1 d2 w.long0 w.long1 w.long2) (omega arith))
        ∙ sym (get_or-eq_default (circle e0 e1 e2) 0 {n = j} (rw (length_circle D e0 e1 e2 u.long0 u.long1 u.long2) (omega arith))))
  ]

  -- both circles send the same places when they are cut at one place
  cut_holds : (n j : ℕ) → holds_bit (take n (circle d0 d1 d2)) j ≡ holds_bit (take n (circle e0 e1 e2)) j
  unfolding holds_bit on_circle
  cut_holds n j = elim (dec_lt j n) [
    | yes h ↦ ap is_bit (get_or-take n (circle d0 d1 d2) j 0 h) ∙ same_holds j ∙ sym (ap is_bit (get_or-take n (circle e0 e1 e2) j 0 h))
    | no h ↦
        ap is_bit
        (get_or-eq_default (take n (circle d0 d1 d2)) 0 {n = j} (omega (arith, length-take n (circle d0 d1 d2)))
        ∙ sym (get_or-eq_default (take n (circle e0 e1 e2)) 0 {n = j} (omega (arith, length-take n (circle e0 e1 e2)))))
  ]

  cut_length : (n : ℕ) → length (take n (circle d0 d1 d2)) ≡ length (take n (circle e0 e1 e2))
  cut_length n = length-take n (circle d0 d1 d2) ∙ ap (λ (m : ℕ). min n m) same_length ∙ sym (length-take n (circle e0 e1 e2))

  pub same_cut : (n k0 E : ℕ) → sent_places (take n (circle d0 d1 d2)) k0 E ≡ sent_places (take n (circle e0 e1 e2)) k0 E
  unfolding sent_places turn
  same_cut n k0 E =
      ap (λ (places : List ℕ). tab E (turn_after_turn places))
      (ap (λ (m : ℕ). keep (holds_bit (take n (circle d0 d1 d2))) (round m k0)) (cut_length n)
      ∙ keep_ext (holds_bit (take n (circle d0 d1 d2))) (holds_bit (take n (circle e0 e1 e2))) (round (length (take n (circle e0 e1 e2))) k0) (λ i l. cut_holds n _))
