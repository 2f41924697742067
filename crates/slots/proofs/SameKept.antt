-- Rooms that keep the same for the places of a block of A bits read alike, whatever stands elsewhere in them:
-- the count, the code blocks and the first wrong one, the sequence, what Read answers, the block and the streams.
-- Assumes nothing.
use mathlib.Core.Path.{◌≡◌, refl, ap, ap₂}
use mathlib.Core.Bool.{Bool, cond, not, ◌&&◌}
use mathlib.Core.List.{List, ◌++◌}
use Prim.Native.Nat.{ℕ, zero, suc, ◌+◌, ◌-◌, ◌≤◌, ◌<◌}
use native.Mathlib.Omega.{arith}
use lib.Dec.{eqb, ltb}
use lib.ListN.{take, replicate}
use Rattle.laws.specs.Lists.{tab}
use Rattle.laws.proofs.Tab.{tab_from_ext, tab_ext}
use Rattle.check_bits.specs.CheckBits.{crc, g_crc24a, g_crc24b}
use Rattle.segmentation.specs.Segmentation.{check_length, blocks, size_of, filler_of}
use Rattle.slots.specs.Room.{circle_at}
use Rattle.slots.specs.Circle.{kept_on, missing, missing_on, lacking_on, heard_on, code_block_on, shown, stream_on, streams_on}
use Rattle.slots.specs.Outcome.{Answer}
use Rattle.slots.specs.Outcome.{Done, Refused}
use Rattle.slots.specs.Answers.{Lacking, WrongBlock}
use Rattle.slots.specs.Reading.{lacking_in, lacking, heard_code_block, wrong_block, first_wrong, some_wrong, heard_in, heard_from, heard_sequence, wrong_check, heard_answer, heard_block, three_streams}
use Rattle.slots.proofs.Sums.{sum_from_ext}
use Rattle.slots.proofs.First.{first_from_ext}

module _ (A : ℕ) (room other : List ℕ)
    (same : (r s i : ℕ) → r < blocks (A + 24) → s < 3 → i < size_of (A + 24) r + 4
    → kept_on (circle_at r room) (size_of (A + 24) r + 4) s i ≡ kept_on (circle_at r other) (size_of (A + 24) r + 4) s i)
  where
    -- how many data places lack a bit
    pub same_lacking : lacking A room ≡ lacking A other
    unfolding lacking lacking_in lacking_on missing_on
    same_lacking = sum_from_ext _ _ 0 (blocks (A + 24))
        (λ r a h. sum_from_ext _ _ (filler_of (A + 24) r) (size_of (A + 24) r - filler_of (A + 24) r)
        (λ i b l. ap missing (same r 0 i (omega arith) (omega arith) (omega arith))))

    -- a code block, its check bits among it, and the first that is wrong
    same_code_block : (r : ℕ) → r < blocks (A + 24) → heard_code_block (A + 24) room r ≡ heard_code_block (A + 24) other r
    unfolding heard_code_block code_block_on heard_on
    same_code_block r h =
        ap (λ (l : List ℕ). replicate {A = ℕ} (filler_of (A + 24) r) 0 ++ l)
        (tab_from_ext (filler_of (A + 24) r) (size_of (A + 24) r - filler_of (A + 24) r) _ _ (λ i a b. same r 0 i h (omega arith) (omega arith)))

    same_first : first_wrong A room ≡ first_wrong A other
    unfolding first_wrong wrong_block
    same_first = first_from_ext _ _ 0 (blocks (A + 24))
        (λ r a h. ap (λ (l : List ℕ). not (eqb (blocks (A + 24)) 1) && not (eqb (crc 24 g_crc24b l) 0)) (same_code_block r (omega arith)))

    same_heard_from : (r n : ℕ) → r + n ≤ blocks (A + 24) → heard_from (A + 24) room r n ≡ heard_from (A + 24) other r n
    unfolding heard_from heard_in heard_on
    same_heard_from r zero h = refl
    same_heard_from r (suc n) h =
        ap₂ ◌++◌
        (tab_from_ext (filler_of (A + 24) r) (size_of (A + 24) r - check_length (A + 24) - filler_of (A + 24) r) _ _
        (λ i a b. same r 0 i (omega arith) (omega arith) (omega arith)))
        (same_heard_from (suc r) n (omega arith))

    -- the block with its transport check
    pub same_sequence : heard_sequence A room ≡ heard_sequence A other
    unfolding heard_sequence
    same_sequence = same_heard_from 0 (blocks (A + 24)) (omega arith)

    same_wrong : wrong_check A room ≡ wrong_check A other
    unfolding wrong_check
    same_wrong = ap (λ (l : List ℕ). not (eqb (crc 24 g_crc24a l) 0)) same_sequence

    -- what Read answers
    pub same_answer : heard_answer A room ≡ heard_answer A other
    unfolding heard_answer some_wrong
    same_answer =
        ap₂ (λ (n : ℕ) (x : Answer). cond (eqb n 0) x (Lacking n)) same_lacking
        (ap₂ (λ (r : ℕ) (w : Bool). cond (ltb r (blocks (A + 24))) (WrongBlock r) (cond w (Refused 12) Done)) same_first same_wrong)

    pub same_block : heard_block A room ≡ heard_block A other
    unfolding heard_block
    same_block = ap (take A) same_sequence

    -- the three streams of a code block
    pub same_streams : (r : ℕ) → r < blocks (A + 24) → three_streams (A + 24) room r ≡ three_streams (A + 24) other r
    unfolding three_streams streams_on stream_on
    same_streams r h = ap₂ ◌++◌ (one 0 (omega arith)) (ap₂ ◌++◌ (one 1 (omega arith)) (one 2 (omega arith)))
      where
        one : (s : ℕ) → s < 3
            → tab (size_of (A + 24) r + 4) (stream_on (circle_at r room) (size_of (A + 24) r + 4) (filler_of (A + 24) r) s)
            ≡ tab (size_of (A + 24) r + 4) (stream_on (circle_at r other) (size_of (A + 24) r + 4) (filler_of (A + 24) r) s)
        one s u = tab_ext (size_of (A + 24) r + 4) _ _
            (λ i l. ap (λ (x : ℕ). cond (ltb s 2 && ltb i (filler_of (A + 24) r)) 0 (shown x)) (same r s i h u l))
