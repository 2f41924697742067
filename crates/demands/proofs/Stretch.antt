-- The stretch of a code block in the codeword, by the standard's own loop of 5.1.4.1.2 and by the places where a reception puts it, for every share of the soft buffer.
-- Assumes nothing.
use mathlib.Core.Path.{◌≡◌, sym, ◌∙◌, ap}
use mathlib.Core.Bool.{true}
use mathlib.Core.List.{List, map}
use Prim.Native.Nat.{ℕ, ◌+◌, ◌*◌, ◌≤◌, ◌<◌}
use native.Mathlib.Omega.{arith}
use lib.ListN.{length, get_or, take, drop}
use lib.Seq.{length-take-le, get_or-take}
use borrow.Author.Tests.{lt-ltb}
use Rattle.laws.specs.Bits.{AreBits}
use Rattle.segmentation.specs.Segmentation.{blocks, size_of, filler_of}
use Rattle.segmentation.specs.CodeBlocks.{with_check, code_block}
use Rattle.segmentation.proofs.Segmentation.{in_range, size_most}
use Rattle.segmentation.proofs.CodeBlocks.{filler_within}
use Rattle.rate_matching.specs.SubBlocks.{rows, dummies}
use Rattle.rate_matching.specs.Circle.{circle_length, cut_at, Cut, start_in}
use Rattle.rate_matching.specs.SoftBuffer.{whole_share}
use Rattle.rate_matching.specs.Places.{place_number}
use Rattle.rate_matching.specs.Walk.{on_circle, is_bit, holds_bit, loop}
use Rattle.rate_matching.proofs.Places.{dummies_add, place_lt}
use Rattle.rate_matching.proofs.Circle.{length_circle, start_below}
use Rattle.rate_matching.proofs.Walk.{loop_is_selected}
use Rattle.codeword.specs.declared.Grant.{Grant}
use Rattle.codeword.specs.Shares.{granted, granted_before}
use Rattle.codeword.specs.Codeword.{block_circle, block_rows, block_cut, sent_bits, block_bits, codeword_in}
use Rattle.codeword.specs.inner.Accepted.{Accepted}
use Rattle.codeword.proofs.Accepted.{given_bits}
use Rattle.codeword.proofs.Data.{with_check_bits, code_block_bits, block_filled, data_place}
use Rattle.codeword.proofs.SoftShares.{cut_told}
use Rattle.codeword.proofs.Taken.{length_with_check, stretch}
use Rattle.slots.specs.Reception.{block_places}
use Rattle.history.proofs.ReleaseTrue.{block_bits_lem}

module _ (soft : ℕ) (a : List ℕ) (g : Grant) (ok : Accepted soft a g) (r : ℕ) (below : r < blocks (length a + 24)) where
  abbrev B : ℕ
  B = length a + 24

  abbrev D : ℕ
  D = size_of B r + 4

  abbrev b : List ℕ
  b = with_check a

  pub high : B ≤ 30600
  high = omega (arith, (in_range (length a) ok.size).1)

  bits : AreBits b
  bits = with_check_bits a (given_bits a ok.bits)

  -- N_cb and the circle up to it
  abbrev Ncb : ℕ
  Ncb = block_cut soft B r

  abbrev w : List ℕ
  w = take Ncb (block_circle b r)

  some_rows : 0 < rows D
  unfolding rows
  some_rows = omega arith

  cut : Cut Ncb (block_rows B r)
  unfolding block_cut block_rows
  cut = cut_told (rows D) some_rows (ok.buffer r below)

  pub circle_long : length (block_circle b r) ≡ circle_length (block_rows B r)
  unfolding block_circle block_rows
  circle_long =
      let f = block_filled B (omega arith) high b (length_with_check a) r below bits in
      rw (length_with_check a) (length_circle D _ _ _ f.long0 f.long1 f.long2)

  w_long : length w ≡ Ncb
  w_long = length-take-le Ncb (block_circle b r) (omega (arith, circle_long, cut.most))

  -- the first data place holds a bit, and lies before the cut
  abbrev first : ℕ
  first = place_number D 0 (filler_of B r)

  first_lies : first < Ncb
  unfolding place_number block_rows
  first_lies = omega (arith, place_lt (rows D) (dummies D + filler_of B r) (omega (arith, dummies_add D, filler_within B high (omega arith) r)), cut.least)

  first_holds : holds_bit w first ≡ true
  unfolding holds_bit is_bit on_circle
  first_holds =
      let is : on_circle w first ≡ get_or (code_block b r) (filler_of B r) 0 =
      get_or-take Ncb (block_circle b r) first 0 first_lies
      ∙ data_place B (omega arith) high b (length_with_check a) r below bits (filler_of B r) (omega arith) (omega (arith, filler_within B high (omega arith) r)) in
      rw is (lt-ltb _ _ (code_block_bits b r bits (filler_of B r)))

  -- E of the code block, and where its stretch of the codeword begins
  abbrev E : ℕ
  E = granted (blocks B) g r

  abbrev S : ℕ
  S = granted_before (blocks B) g r

  -- The stretch of code block r is what the standard's own loop of 5.1.4.1.2 sends of its circle, cut at N_cb, from k0 on, with turns enough.
  pub stretch_by_loop : (fuel : ℕ) → E * Ncb ≤ fuel → take E (drop S (codeword_in soft a g)) ≡ loop fuel w (start_in Ncb (block_rows B r) g.version) 0 E
  unfolding block_bits sent_bits
  stretch_by_loop fuel turns =
      stretch soft a g r below
      ∙ rw (length_with_check a)
      (sym (loop_is_selected w (start_in Ncb (block_rows B r) g.version) (rw w_long (start_below cut g.version ok.version)) fuel E first (rw w_long first_lies) first_holds (rw w_long turns)))

  -- And it is what the circle holds at the places, in their order, where a reception with the same share puts its bits.
  pub stretch_by_places : take E (drop S (codeword_in soft a g)) ≡ map (on_circle w) (block_places soft B g r)
  stretch_by_places =
      stretch soft a g r below
      ∙ block_bits_lem soft b B (omega arith) high (length_with_check a) bits g r below
      ∙ ap (λ (n : ℕ). map (on_circle (take (block_cut soft n r) (block_circle b r))) (block_places soft B g r)) (length_with_check a)

-- N_cb of an uplink's code block is K_w
pub uncut : (B : ℕ) → B ≤ 30600 → (r : ℕ) → block_cut whole_share B r ≡ circle_length (block_rows B r)
unfolding block_cut cut_at circle_length block_rows rows
uncut B high r = omega (arith, size_most B high r)
