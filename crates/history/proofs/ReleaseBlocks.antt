-- True transmissions carry right checks, demand 3 and 02, E1: CRC24B over a true code block leaves nothing, filler among it, and a room whose data places were all sent
-- holds the code blocks themselves.
-- Assumes nothing.
use mathlib.Core.Path.{◌≡◌, refl, sym, ◌∙◌, ap}
use mathlib.Core.Bool.{Bool, true, false, cond, not, ◌&&◌}
use mathlib.Core.List.{List, [], ◌++◌}
use Prim.Native.Nat.{ℕ, zero, suc, ◌+◌, ◌-◌, ◌≤◌, ◌<◌}
use native.Mathlib.Decide.{dec_lt}
use native.Mathlib.Omega.{arith}
use lib.Dec.{eqb, eqb-suc-zero}
use lib.ListN.{length, get_or, replicate, length-append, length-replicate, get_or-replicate, get_or-append}
use lib.Seq.{ext_get_or, get_or-append-add, get_or-take}
use borrow.Author.Tests.{eq-eqb}
use Rattle.laws.specs.Lists.{tab_from}
use Rattle.laws.proofs.Tab.{length_tab_from, get_or_tab_from}
use Rattle.check_bits.specs.CheckBits.{crc, check_bits, g_crc24b}
use Rattle.check_bits.proofs.Carried.{checked}
use Rattle.segmentation.specs.Segmentation.{check_length, blocks, filler, size_of, filler_of}
use Rattle.segmentation.specs.CodeBlocks.{taken_before, payload, code_block}
use Rattle.segmentation.proofs.CodeBlocks.{filler_within, length_payload, length_code_block}
use Rattle.slots.specs.Room.{circle_at}
use Rattle.slots.specs.Circle.{kept_on, heard_on, code_block_on}
use Rattle.slots.specs.Reading.{heard_code_block, wrong_block, first_from}
use Rattle.slots.proofs.First.{first_from_none}

-- several code blocks: each of them with its check leaves nothing
pub code_block_checked : (b : List ℕ) (r : ℕ) → eqb (blocks (length b)) 1 ≡ false → crc 24 g_crc24b (code_block b r) ≡ 0
unfolding code_block
code_block_checked b r e =
    ap (λ (t : Bool). crc 24 g_crc24b (payload b r ++ cond t [] (check_bits 24 g_crc24b (payload b r)))) e ∙ checked 24 g_crc24b (payload b r)

module _ (B : ℕ) (low : 24 ≤ B) (high : B ≤ 30600) (b : List ℕ) (long : length b ≡ B) where
  -- a filler place of a code block is 0
  filler_zero : (r : ℕ) → r < blocks B → (k : ℕ) → k < filler_of B r → get_or (code_block b r) k 0 ≡ 0
  unfolding code_block payload filler_of taken_before
  filler_zero zero h k l =
      let zeros : List ℕ = replicate {A = ℕ} (filler B) 0 in
      let there : k < size_of B 0 - check_length B = omega (arith, filler_within B high low 0) in
      get_or-append (payload b 0) _ 0 k (rw (length_payload B high b long 0 h) there)
      ∙ rw long
      (get_or-take (size_of B 0 - check_length B) (zeros ++ b) k 0 there
      ∙ get_or-append zeros b 0 k (rw (length-replicate {A = ℕ} (filler B) 0) l)
      ∙ get_or-replicate {A = ℕ} (filler B) k 0 0 l)
  filler_zero (suc r) h k l = absurd (none (rw (eqb-suc-zero r) at l))
    where
      none : k < 0 → ⊥
      none l = omega arith

  -- a room that holds the code blocks' bits at the data places
  module _ (room : List ℕ)
      (held : (r i : ℕ) → r < blocks B → filler_of B r ≤ i → i < size_of B r → kept_on (circle_at r room) (size_of B r + 4) 0 i ≡ get_or (code_block b r) i 0) where
    -- holds the code blocks themselves
    heard_code_block_lem : (r : ℕ) → r < blocks B → heard_code_block B room r ≡ code_block b r
    unfolding heard_code_block code_block_on heard_on
    heard_code_block_lem r h =
        ext_get_or 0 (zeros ++ kept) (code_block b r) (all ∙ sym (length_code_block B high b long r h))
        (λ k l. elim (dec_lt k (filler_of B r)) [
          | yes f ↦
              get_or-append zeros kept 0 k (rw (length-replicate {A = ℕ} (filler_of B r) 0) f)
              ∙ get_or-replicate {A = ℕ} (filler_of B r) k 0 0 f
              ∙ sym (filler_zero r h k f)
          | no f ↦ past k (omega arith) (omega (arith, all))
        ])
      where
        zeros : List ℕ
        zeros = replicate {A = ℕ} (filler_of B r) 0

        kept : List ℕ
        kept = tab_from (filler_of B r) (size_of B r - filler_of B r) (kept_on (circle_at r room) (size_of B r + 4) 0)

        all : length (zeros ++ kept) ≡ size_of B r
        all =
            length-append zeros kept
            ∙ rw (length-replicate {A = ℕ} (filler_of B r) 0, length_tab_from (filler_of B r) (size_of B r - filler_of B r) (kept_on (circle_at r room) (size_of B r + 4) 0))
            (omega (arith, filler_within B high low r))

        past : (k : ℕ) → filler_of B r ≤ k → k < size_of B r → get_or (zeros ++ kept) k 0 ≡ get_or (code_block b r) k 0
        past k f l =
            let place : k ≡ length zeros + (k - filler_of B r) = rw (length-replicate {A = ℕ} (filler_of B r) 0) (omega arith) in
            let back : filler_of B r + (k - filler_of B r) ≡ k = omega arith in
            ap (λ (i : ℕ). get_or (zeros ++ kept) i 0) place
            ∙ get_or-append-add zeros kept (k - filler_of B r) 0
            ∙ get_or_tab_from (filler_of B r) (size_of B r - filler_of B r) (kept_on (circle_at r room) (size_of B r + 4) 0) (k - filler_of B r) 0 (omega arith)
            ∙ ap (kept_on (circle_at r room) (size_of B r + 4) 0) back
            ∙ held r k h f l

    -- so none of them is wrong
    pub none_wrong : first_from (wrong_block B room) 0 (blocks B) ≡ blocks B
    unfolding wrong_block
    none_wrong = first_from_none _ 0 (blocks B) (λ r a h. right r (omega arith) (eqb (blocks B) 1) refl) ∙ omega arith
      where
        right : (r : ℕ) → r < blocks B → (single : Bool) → eqb (blocks B) 1 ≡ single → wrong_block B room r ≡ false
        right r h true e = ap (λ (t : Bool). not t && not (eqb (crc 24 g_crc24b (heard_code_block B room r)) 0)) e
        right r h false e =
            ap (λ (t : Bool). not t && not (eqb (crc 24 g_crc24b (heard_code_block B room r)) 0)) e
            ∙ ap not (eq-eqb _ 0 (ap (crc 24 g_crc24b) (heard_code_block_lem r h) ∙ code_block_checked b r (rw (← long) at e)))
