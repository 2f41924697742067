-- What a room holds when every data place was sent by true transmissions, demand 3: the block with its transport check, bit for bit.
-- Assumes nothing.
use mathlib.Core.Path.{◌≡◌, refl, sym, ◌∙◌, ap, ap₂}
use mathlib.Core.Bool.{Bool, false, cond, not}
use mathlib.Core.List.{List, ◌++◌}
use Prim.Native.Nat.{ℕ, zero, suc, ◌+◌, ◌-◌, ◌≤◌, ◌<◌}
use native.Mathlib.Omega.{arith}
use lib.Dec.{eqb-suc-zero}
use lib.ListN.{length, get_or, take, drop, length-drop, take-append-drop, drop_of_length-le}
use lib.Seq.{ext_get_or, length-take-le, get_or-take, get_or-drop, drop-drop, take_at}
use borrow.Author.Tests.{eq-eqb, le-ltb}
use Rattle.laws.specs.Lists.{tab_from}
use Rattle.laws.proofs.Tab.{length_tab_from, get_or_tab_from}
use Rattle.check_bits.specs.CheckBits.{crc, check_bits, g_crc24a}
use Rattle.check_bits.proofs.Carried.{checked}
use Rattle.segmentation.specs.Segmentation.{check_length, blocks, filler, size_of, filler_of}
use Rattle.segmentation.specs.Sizes.{bad_size}
use Rattle.segmentation.specs.CodeBlocks.{with_check, taken_before, code_block}
use Rattle.segmentation.proofs.Segmentation.{in_range}
use Rattle.segmentation.proofs.CodeBlocks.{taken_all, taken_within, filler_within}
use Rattle.laws.specs.Bits.{AreBits}
use Rattle.codeword.proofs.Data.{filler_over, carries}
use Rattle.codeword.proofs.Taken.{length_with_check}
use Rattle.slots.specs.Room.{unheard, circle_at}
use Rattle.slots.specs.Circle.{kept_on, heard_on}
use Rattle.slots.specs.Reading.{first_wrong, some_wrong, heard_in, heard_from, heard_sequence, wrong_check, heard_block}
use Rattle.slots.proofs.Buffers.{Wide}
use Rattle.history.specs.Calls.{Reception}
use Rattle.history.specs.Sent.{AllTrue, unsent}
use Rattle.history.proofs.DataPlaces.{none_unsent}
use Rattle.history.proofs.Follows.{Met}
use Rattle.history.proofs.ReleaseCount.{kept_data}
use Rattle.history.proofs.ReleaseBlocks.{none_wrong}

-- ---- the bits of b that each code block carries, in order

module _ (B : ℕ) (low : 24 ≤ B) (high : B ≤ 30600) (b : List ℕ) (long : length b ≡ B) where
  -- where the bits of b begin that code block r carries
  abbrev begins : ℕ → ℕ
  begins r = taken_before B r + filler_of B r - filler B

  -- how many they are
  abbrev many : ℕ → ℕ
  many r = size_of B r - check_length B - filler_of B r

  begins_next : (r : ℕ) → begins (suc r) ≡ begins r + many r
  unfolding taken_before filler_of
  begins_next r = rw (eqb-suc-zero r) (omega (arith, filler_over B low high r, filler_within B high low r))

  module _ (room : List ℕ)
      (held : (r i : ℕ) → r < blocks B → filler_of B r ≤ i → i < size_of B r → kept_on (circle_at r room) (size_of B r + 4) 0 i ≡ get_or (code_block b r) i 0) where
    heard_in_lem : (r : ℕ) → r < blocks B → heard_in B room r ≡ take (many r) (drop (begins r) b)
    unfolding heard_in heard_on
    heard_in_lem r h =
        ext_get_or 0 (tab_from (filler_of B r) (many r) (kept_on (circle_at r room) (size_of B r + 4) 0)) (take (many r) (drop (begins r) b))
        (length_tab_from (filler_of B r) (many r) (kept_on (circle_at r room) (size_of B r + 4) 0) ∙ sym (length-take-le (many r) (drop (begins r) b) enough))
        (λ k l. entry k (rw length_tab_from at l))
      where
        enough : many r ≤ length (drop (begins r) b)
        enough = rw (length-drop, long) (omega (arith, taken_within B high r h, filler_over B low high r, filler_within B high low r))

        entry : (k : ℕ) → k < many r → get_or (tab_from (filler_of B r) (many r) (kept_on (circle_at r room) (size_of B r + 4) 0)) k 0 ≡ get_or (take (many r) (drop (begins r) b)) k 0
        entry k l =
            let place : taken_before B r + (filler_of B r + k) - filler B ≡ begins r + k = omega (arith, filler_over B low high r) in
            get_or_tab_from (filler_of B r) (many r) (kept_on (circle_at r room) (size_of B r + 4) 0) k 0 l
            ∙ held r (filler_of B r + k) h (omega arith) (omega arith)
            ∙ carries B low high b long r h (filler_of B r + k) (omega arith) (omega arith)
            ∙ ap (λ (i : ℕ). get_or b i 0) place
            ∙ sym (get_or-take (many r) (drop (begins r) b) k 0 l ∙ get_or-drop (begins r) b k 0)

    heard_from_lem : (r n : ℕ) → r + n ≡ blocks B → heard_from B room r n ≡ drop (begins r) b
    unfolding heard_from
    heard_from_lem r zero e =
        let last : r ≡ blocks B = omega arith in
        sym (drop_of_length-le b {i = begins r} (omega (arith, ap (taken_before B) last, taken_all B high)))
    heard_from_lem r (suc n) e =
        ap₂ ◌++◌ (heard_in_lem r (omega arith))
        (heard_from_lem (suc r) n (omega arith) ∙ ap (λ (k : ℕ). drop k b) (begins_next r) ∙ sym (drop-drop (many r) (begins r) b))
        ∙ take-append-drop (many r) (drop (begins r) b)

    -- all of b
    heard_all : heard_from B room 0 (blocks B) ≡ b
    unfolding taken_before filler_of
    heard_all =
        let front : 0 + filler B - filler B ≡ 0 = omega arith in
        heard_from_lem 0 (blocks B) (omega arith) ∙ ap (λ (k : ℕ). drop k b) front

-- ---- the room

module _ (soft : ℕ) (a : List ℕ) (admitted : bad_size (length a) ≡ false) (bits : AreBits a) (xs : List Reception) (true_all : AllTrue soft a xs) (wide : Wide soft (length a + 24))
    {M : ℕ} (room : List ℕ) (kept : Met soft (length a) M xs room) (all : unsent soft (length a) xs ≡ 0) where
  -- each data place holds the code block's bit
  held : (r i : ℕ) → r < blocks (length a + 24) → filler_of (length a + 24) r ≤ i → i < size_of (length a + 24) r
      → kept_on (circle_at r room) (size_of (length a + 24) r + 4) 0 i ≡ get_or (code_block (with_check a) r) i 0
  held r i h l m =
      kept_data soft a admitted bits xs true_all wide room kept r i h l m
      ∙ ap (λ (s : Bool). cond s (get_or (code_block (with_check a) r) i 0) unheard) (none_unsent soft (length a) xs all r i (record { block = h; past_filler = l; below_size = m }))

  -- what is heard is the block with its transport check
  pub sequence : heard_sequence (length a) room ≡ with_check a
  unfolding heard_sequence
  sequence =
      let range = in_range (length a) admitted in
      heard_all (length a + 24) (omega arith) (omega arith) (with_check a) (length_with_check a) room held

  -- so no code block is wrong
  pub right_blocks : some_wrong (length a) room ≡ false
  unfolding some_wrong first_wrong
  right_blocks =
      let range = in_range (length a) admitted in
      let first = none_wrong (length a + 24) (omega arith) (omega arith) (with_check a) (length_with_check a) room held in
      le-ltb _ (blocks (length a + 24)) (omega (arith, first))

  -- nor the transport check
  pub right_check : wrong_check (length a) room ≡ false
  unfolding wrong_check with_check
  right_check = ap not (eq-eqb _ 0 (ap (crc 24 g_crc24a) sequence ∙ checked 24 g_crc24a a))

  -- and the block is the one that was sent
  pub true_block : heard_block (length a) room ≡ a
  unfolding heard_block with_check
  true_block = ap (take (length a)) sequence ∙ take_at a (check_bits 24 g_crc24a a) (length a) refl
