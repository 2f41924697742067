-- A room with values above 3 become 2 reads as before, 01 'Read' and 'Streams', 02 E7: the count, what Read answers and gives, the three streams.
-- Assumes nothing.
use mathlib.Core.Path.{◌≡◌, refl, sym, ◌∙◌, ap, ap₂}
use mathlib.Core.Bool.{Bool, true, false, cond, not, ◌&&◌}
use mathlib.Core.List.{List, [], ◌++◌, map}
use Prim.Native.Nat.{ℕ, zero, suc, ◌+◌, ◌-◌}
use native.Mathlib.Omega.{arith}
use lib.Dec.{eqb, ltb}
use lib.ListN.{replicate}
use borrow.Author.Tests.{eqb-true}
use Rattle.laws.specs.Lists.{tab}
use Rattle.laws.proofs.Tab.{tab_from_ext, tab_ext, map_tab_from}
use Rattle.check_bits.specs.CheckBits.{crc, g_crc24b}
use Rattle.segmentation.specs.Segmentation.{check_length, blocks, size_of, filler_of}
use Rattle.segmentation.specs.Sizes.{bad_size}
use Rattle.slots.specs.Outcome.{Answer}
use Rattle.slots.specs.Outcome.{Done, Refused}
use Rattle.slots.specs.Answers.{Lacking, WrongBlock, is_done}
use Rattle.slots.specs.Room.{circle_at}
use Rattle.slots.specs.Circle.{kept_on, missing, missing_on, lacking_on, heard_on, code_block_on, shown, stream_on, streams_on}
use Rattle.slots.specs.Reading.{lacking_in, lacking, heard_code_block, wrong_block, first_wrong, some_wrong, heard_in, heard_from, heard_sequence, wrong_check, heard_answer, heard_block, three_streams}
use Rattle.slots.proofs.Sums.{sum_from_ext}
use Rattle.slots.proofs.First.{first_from_ext}
use Rattle.slots.proofs.HeardBits.{code_block_bits, sequence_bits}
use Rattle.packing.specs.Packing.{in_two_bits}
use Rattle.forms.proofs.Lists.{map-append, map_replicate}
use Rattle.forms.proofs.TwoBits.{missing_alike, shown_alike, get_or_two, bits_same, circle_two}

module _ (room : List ℕ) where
  -- the room with that change
  abbrev two : List ℕ
  two = map in_two_bits room

  kept_two : (r D s i : ℕ) → kept_on (circle_at r two) D s i ≡ in_two_bits (kept_on (circle_at r room) D s i)
  unfolding kept_on
  kept_two r D s i = rw (circle_two r room) (get_or_two (circle_at r room) _)

  pub lacking_two : (A : ℕ) → lacking A two ≡ lacking A room
  unfolding lacking lacking_in lacking_on missing_on
  lacking_two A = sum_from_ext _ _ 0 (blocks (A + 24))
      (λ r a h. sum_from_ext _ _ (filler_of (A + 24) r) (size_of (A + 24) r - filler_of (A + 24) r)
      (λ i b l. ap missing (kept_two r (size_of (A + 24) r + 4) 0 i) ∙ missing_alike _))

  pub streams_two : (B r : ℕ) → three_streams B two r ≡ three_streams B room r
  unfolding three_streams streams_on stream_on
  streams_two B r = ap₂ ◌++◌ (one 0) (ap₂ ◌++◌ (one 1) (one 2))
    where
      D : ℕ
      D = size_of B r + 4

      one : (s : ℕ) → tab D (stream_on (circle_at r two) D (filler_of B r) s) ≡ tab D (stream_on (circle_at r room) D (filler_of B r) s)
      one s = tab_ext D _ _
          (λ i l. ap (λ (x : ℕ). cond (ltb s 2 && ltb i (filler_of B r)) 0 x) (ap shown (kept_two r D s i) ∙ shown_alike (kept_on (circle_at r room) D s i)))

  -- ---- lists of what was kept

  heard_two : (r K F n : ℕ) → heard_on (circle_at r two) K F n ≡ map in_two_bits (heard_on (circle_at r room) K F n)
  unfolding heard_on
  heard_two r K F n =
      tab_from_ext F n _ _ (λ k a b. kept_two r (K + 4) 0 k)
      ∙ sym (map_tab_from F n (kept_on (circle_at r room) (K + 4) 0) in_two_bits)

  code_block_two : (B r : ℕ) → heard_code_block B two r ≡ map in_two_bits (heard_code_block B room r)
  unfolding heard_code_block code_block_on in_two_bits
  code_block_two B r =
      ap₂ ◌++◌
      (sym (map_replicate in_two_bits (filler_of B r) 0))
      (heard_two r (size_of B r) (filler_of B r) (size_of B r - filler_of B r))
      ∙ sym (map-append in_two_bits (replicate {A = ℕ} (filler_of B r) 0) _)

  from_two : (B r n : ℕ) → heard_from B two r n ≡ map in_two_bits (heard_from B room r n)
  unfolding heard_from heard_in
  from_two B r zero = refl
  from_two B r (suc n) =
      ap₂ ◌++◌ (heard_two r (size_of B r) (filler_of B r) (size_of B r - check_length B - filler_of B r)) (from_two B (suc r) n)
      ∙ sym (map-append in_two_bits (heard_in B room r) _)

  -- ---- Read, for a block of A bits, A in range

  module _ (A : ℕ) (good : bad_size A ≡ false) where
    -- where no data place lacks a bit all are bits
    module _ (none : lacking A room ≡ 0) where
      sequence_same : heard_sequence A two ≡ heard_sequence A room
      unfolding heard_sequence
      sequence_same = from_two (A + 24) 0 (blocks (A + 24)) ∙ bits_same _ (sequence_bits A room good none)

      first_same : first_wrong A two ≡ first_wrong A room
      unfolding first_wrong wrong_block
      first_same = first_from_ext _ _ 0 (blocks (A + 24))
          (λ r a h. ap (λ (l : List ℕ). not (eqb (blocks (A + 24)) 1) && not (eqb (crc 24 g_crc24b l) 0))
          (code_block_two (A + 24) r ∙ bits_same _ (code_block_bits A room good none r (omega arith))))

    -- what Read answers, by the test on the count
    answered : List ℕ → Bool → Answer
    answered l b =
        cond b
        (cond (some_wrong A l) (WrongBlock (first_wrong A l)) (cond (wrong_check A l) (Refused 12) Done))
        (Lacking (lacking A room))

    is_answered : (l : List ℕ) → lacking A l ≡ lacking A room → heard_answer A l ≡ answered l (eqb (lacking A room) 0)
    unfolding heard_answer answered
    is_answered l e = ap (λ (n : ℕ). cond (eqb n 0) (cond (some_wrong A l) (WrongBlock (first_wrong A l)) (cond (wrong_check A l) (Refused 12) Done)) (Lacking n)) e

    -- and what it gives
    given : List ℕ → List ℕ → List ℕ → Bool → List ℕ
    given l rest out b = cond (is_done (answered l b)) (heard_block A l ++ rest) out

    both : (rest out : List ℕ) (b : Bool) → eqb (lacking A room) 0 ≡ b → (answered two b ≡ answered room b) × (given two rest out b ≡ given room rest out b)
    unfolding answered given some_wrong wrong_check heard_block is_done
    both rest out true e =
        let none = eqb-true (lacking A room) 0 e in
        let s = sequence_same none in
        let f = first_same none in
        (rw (s, f), rw (s, f))
    both rest out false e = (refl, refl)

    pub answer_two : heard_answer A two ≡ heard_answer A room
    answer_two = is_answered two (lacking_two A) ∙ (both [] [] (eqb (lacking A room) 0) refl).0 ∙ sym (is_answered room refl)

    pub given_two : (rest out : List ℕ)
        → cond (is_done (heard_answer A two)) (heard_block A two ++ rest) out
        ≡ cond (is_done (heard_answer A room)) (heard_block A room ++ rest) out
    unfolding given
    given_two rest out =
        ap (λ (x : Answer). cond (is_done x) (heard_block A two ++ rest) out) (is_answered two (lacking_two A))
        ∙ (both rest out (eqb (lacking A room) 0) refl).1
        ∙ ap (λ (x : Answer). cond (is_done x) (heard_block A room ++ rest) out) (sym (is_answered room refl))
