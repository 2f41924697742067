-- True transmissions, demand 3: every bit that came for a place of a code block is the one that the block has there, so they agree on it where the place was sent.
-- Assumes nothing.
use mathlib.Core.Path.{◌≡◌, refl, ◌∙◌, ap, ap₂}
use mathlib.Core.Bool.{Bool, true, false, cond, ◌&&◌}
use mathlib.Core.List.{List, [], ◌∷◌, ◌++◌, map}
use Prim.Native.Nat.{ℕ, suc, ◌+◌, ◌-◌, ◌≤◌, ◌<◌}
use native.Mathlib.Omega.{arith}
use lib.Dec.{eqb}
use lib.ListN.{length, take, drop}
use borrow.Author.Tests.{eqb-true, eq-eqb}
use Rattle.segmentation.specs.Segmentation.{blocks, size_of, filler_of}
use Rattle.segmentation.specs.CodeBlocks.{with_check}
use Rattle.segmentation.proofs.CodeBlocks.{filler_within}
use Rattle.laws.specs.Bits.{AreBits}
use Rattle.rate_matching.specs.Circle.{start_in}
use Rattle.rate_matching.specs.Walk.{on_circle, selected}
use Rattle.rate_matching.proofs.Alike.{shape_filled, same_cut}
use Rattle.codeword.specs.declared.Grant.{Grant}
use Rattle.codeword.specs.Shares.{granted, granted_before}
use Rattle.codeword.specs.Codeword.{block_circle, block_rows, block_cut, sent_bits, block_bits, bits_from}
use Rattle.codeword.proofs.Data.{with_check_bits, block_filled}
use Rattle.codeword.proofs.Taken.{length_with_check, stretch_is}
use Rattle.slots.specs.Putting.{arriving, met_by}
use Rattle.slots.specs.Room.{unheard, agreeing}
use Rattle.rate_matching.specs.Shape.{shape}
use Rattle.slots.specs.Reception.{block_places, block_values}
use Rattle.history.specs.Calls.{Reception, grant_of}
use Rattle.history.specs.Accepted.{in_order, bits_for, arrivals}
use Rattle.history.specs.Agreed.{all_are, decided}
use Rattle.history.specs.Sent.{True, AllTrue, sent}
use Rattle.history.proofs.Arrived.{all_append, all_met, all_decided, came_sent}

-- ---- the places of a transmission, from the sizes alone

-- the circle of code block r of the sequence b, cut where a share `soft` of the soft buffer ends
abbrev pub cut_circle : ℕ → List ℕ → ℕ → List ℕ
cut_circle soft b r = take (block_cut soft (length b) r) (block_circle b r)

module _ (soft : ℕ) (b : List ℕ) (B : ℕ) (low : 24 ≤ B) (high : B ≤ 30600) (long : length b ≡ B) (bits : AreBits b) where
  -- what code block r sends are the bits at the places that a reception of it fills
  pub block_bits_lem : (g : Grant) (r : ℕ) → r < blocks B → block_bits soft b g r ≡ map (on_circle (cut_circle soft b r)) (block_places soft B g r)
  unfolding block_bits sent_bits selected block_places shape block_circle
  block_bits_lem g r h =
      rw long
      (ap (map _)
      (same_cut (block_filled B low high b long r h bits) (shape_filled (size_of B r + 4) (filler_of B r) (omega (arith, filler_within B high low r)))
      (block_cut soft B r) (start_in (block_cut soft B r) (block_rows B r) g.version) (granted (blocks B) g r)))

-- ---- the bits of true transmissions

-- bits by a rule f along places: all that come for place j are f j
all_of_rule : (f : ℕ → ℕ) (ps rest : List ℕ) (j : ℕ) → all_are (f j) (arriving agreeing ps (map f ps ++ rest) j) ≡ true
unfolding arriving agreeing all_are
all_of_rule f [] rest j = refl
all_of_rule f (p ∷ ps) rest j = go (eqb p j) refl (all_of_rule f ps rest j)
  where
    go : (t : Bool) → eqb p j ≡ t → all_are (f j) (arriving agreeing ps (map f ps ++ rest) j) ≡ true
        → all_are (f j) (cond t (f p ∷ arriving agreeing ps (map f ps ++ rest) j) (arriving agreeing ps (map f ps ++ rest) j)) ≡ true
    go true e all = ap₂ ◌&&◌ (eq-eqb (f p) (f j) (ap f (eqb-true p j e))) all
    go false e all = all

module _ (soft : ℕ) (a : List ℕ) (small : length a ≤ 30576) (bits : AreBits a) where
  -- the bits that a true transmission brings for code block r, and what follows them
  brings : (x : Reception) → True soft a x → (r : ℕ) → r < blocks (length a + 24)
      → block_values (length a + 24) (grant_of x) x.bits r
      ≡ map (on_circle (cut_circle soft (with_check a) r)) (block_places soft (length a + 24) (grant_of x) r)
      ++ bits_from soft (with_check a) (grant_of x) (suc r) (blocks (length a + 24) - suc r)
  unfolding block_values
  brings x t r h =
      let B : ℕ = length a + 24 in
      ap (drop (granted_before (blocks B) (grant_of x) r)) t
      ∙ stretch_is soft a (grant_of x) r h
      ∙ ap (λ (l : List ℕ). l ++ bits_from soft (with_check a) (grant_of x) (suc r) (blocks B - suc r))
      (block_bits_lem soft (with_check a) B (omega arith) (omega arith) (length_with_check a) (with_check_bits a bits) (grant_of x) r h)

  -- true transmissions never contradict each other: all that they bring for a place is the block's own bit there
  true_bits : (xs : List Reception) → AllTrue soft a xs → (r j : ℕ) → r < blocks (length a + 24)
      → all_are (on_circle (cut_circle soft (with_check a) r) j) (arrivals soft (length a) xs r j) ≡ true
  unfolding in_order bits_for all_are
  true_bits [] t r j h = refl
  true_bits (x ∷ xs) t r j h =
      let ps : List ℕ = block_places soft (length a + 24) (grant_of x) r in
      let f : ℕ → ℕ = on_circle (cut_circle soft (with_check a) r) in
      all_append (f j) (arrivals soft (length a) xs r j) _ (true_bits xs t.1 r j h)
      (ap (λ (l : List ℕ). all_are (f j) (arriving agreeing ps l j)) (brings x t.0 r h) ∙ all_of_rule f ps _ j)

  -- so a place keeps that bit if it was sent
  pub true_bit : (xs : List Reception) → AllTrue soft a xs → (r j : ℕ) → r < blocks (length a + 24)
      → met_by agreeing unheard (arrivals soft (length a) xs r j) ≡ cond (sent soft (length a) xs r j) (on_circle (cut_circle soft (with_check a) r) j) unheard
  true_bit xs t r j h =
      all_met (on_circle (cut_circle soft (with_check a) r) j) (arrivals soft (length a) xs r j) (true_bits xs t r j h)
      ∙ ap (λ (b : Bool). cond b (on_circle (cut_circle soft (with_check a) r) j) unheard) (came_sent soft (length a) xs r j)

  -- and is decided exactly then
  pub true_decided : (xs : List Reception) → AllTrue soft a xs → (r j : ℕ) → r < blocks (length a + 24)
      → decided (arrivals soft (length a) xs r j) ≡ sent soft (length a) xs r j
  true_decided xs t r j h =
      all_decided (on_circle (cut_circle soft (with_check a) r) j) (arrivals soft (length a) xs r j) (true_bits xs t r j h) ∙ came_sent soft (length a) xs r j
