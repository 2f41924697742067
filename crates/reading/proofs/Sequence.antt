-- The sequence as it was heard, 01 'Read' and 02, E1: put together code block by code block, each from its circle, its data places counted and its check compared.
-- Assumes nothing.
use mathlib.Core.Path.{◌≡◌, refl, sym, ◌∙◌, ap}
use mathlib.Core.Bool.{Bool, true, false, cond, not, ◌&&◌, ◌||◌, true≢false}
use mathlib.Core.List.{List, [], ◌++◌, append_assoc, append-nil}
use Prim.Native.Nat.{ℕ, suc, ◌+◌, ◌-◌, ◌*◌, ◌^◌, ◌≤◌, ◌<◌}
use native.Mathlib.Nat.{sub-zero, add-sub_cancel_left, mul-le-mul_right}
use native.Mathlib.Numerals.{add-one}
use native.Mathlib.Decide.{dec_le}
use native.Mathlib.Omega.{arith}
use lib.Dec.{eqb, ltb, leb, eqb-suc-zero}
use lib.ListN.{length, take, drop}
use lib.Seq.{length-take-le, take_at, take-append-add, take-append-le}
use borrow.Author.Tests.{leb-true, eq-eqb, ne_eqb}
use borrow.Rule.Slice.PartMut.{mid_of, put_mid}
use Rattle.laws.specs.Lists.{tab_from}
use Rattle.laws.proofs.Parts.{length_mid, length_put}
use Rattle.laws.proofs.Tab.{length_tab_from, tab_from_split}
use Rattle.check_bits.specs.CheckBits.{crc, g_crc24b}
use Rattle.reading.proofs.Zeros.{zeros_first}
use Rattle.segmentation.specs.declared.Segments.{Segments}
use Rattle.segmentation.specs.Segmentation.{check_length, blocks, filler, size_of, filler_of}
use Rattle.segmentation.specs.CodeBlocks.{taken_before}
use Rattle.segmentation.specs.Sizes.{bad_size, segments_for}
use Rattle.segmentation.proofs.Segmentation.{single, several}
use Rattle.segmentation.proofs.CodeBlocks.{taken_all, taken_within}
use Rattle.slots.specs.State.{per_block}
use Rattle.slots.specs.Room.{circle_at}
use Rattle.slots.specs.Circle.{kept_on, sum_from, heard_on, code_block_on}
use Rattle.slots.specs.Reading.{lacking_in, lacking, heard_code_block, wrong_block, first_from, first_wrong, heard_in, heard_from, heard_sequence}
use Rattle.slots.proofs.First.{first_from_more}
use Rattle.kept_bits.specs.Circle.{missing_at}
use Rattle.kept_bits.specs.inner.Rows.{Stretch}
use Rattle.reading.specs.inner.Room.{room_fits}
use Rattle.reading.proofs.Blocks.{high, few, filler_below, stretch, block_few, blocks_told, Block, block_of}
use Rattle.reading.proofs.Lent.{mid_put}
use Rattle.kept_bits.proofs.Sums.{Summing, start, next, finish}
use Rattle.kept_bits.proofs.Lacking.{length_heard, counted}

-- what a room that fits tells
pub record Fit (A long : ℕ) : Type 0 where
  pub admitted : bad_size A ≡ false
  pub enough : blocks (A + 24) * per_block ≤ long

pub fit : (A long : ℕ) → room_fits A long ≡ true → Fit A long
unfolding room_fits
fit A long e = go (bad_size A) refl (leb (blocks (A + 24) * per_block) long) refl e
  where
    go : (b : Bool) → bad_size A ≡ b → (l : Bool) → leb (blocks (A + 24) * per_block) long ≡ l → (not b && l) ≡ true → Fit A long
    go false t true u e = record { admitted = t; enough = leb-true (blocks (A + 24) * per_block) long u }
    go false t false u e = absurd (true≢false (sym e))
    go true t l u e = absurd (true≢false (sym e))

-- ---- the check bits of each code block

check_is : (B : ℕ) → cond (eqb (blocks B) 1) 0 24 ≡ check_length B
check_is B = elim (dec_le B 6144) [
  | yes h ↦ rw ((single B h).0, (single B h).1)
  | no h ↦
      let large : 6144 < B = omega arith in
      let more : blocks B ≡ 1 → ⊥ = λ e. omega (arith, (several B large).0) in
      rw (ne_eqb (blocks B) 1 more, (several B large).1)
]

-- there is a code block
blocks_some : (B : ℕ) → 0 < blocks B
blocks_some B = elim (dec_le B 6144) [
  | yes h ↦ omega (arith, (single B h).0)
  | no h ↦ let large : 6144 < B = omega arith in omega (arith, (several B large).0)
]

-- ---- one code block

-- the first m of n entries
take_tab : (i m n : ℕ) (f : ℕ → ℕ) → m ≤ n → take m (tab_from i n f) ≡ tab_from i m f
take_tab i m n f h = ap (λ (k : ℕ). take m (tab_from i k f)) whole ∙ ap (take m) (tab_from_split i m (n - m) f) ∙ take_at (tab_from i m f) (tab_from (i + m) (n - m) f) m (length_tab_from i m f)
  where
    whole : n ≡ m + (n - m)
    whole = omega arith

-- how many data places code block r has, and how many of them carry the sequence
abbrev holds : ℕ → ℕ → ℕ
holds B r = size_of B r - filler_of B r

abbrev carries : ℕ → ℕ → ℕ
carries B r = size_of B r - check_length B - filler_of B r

-- code block r as it was heard, filler left out
abbrev heard_data : ℕ → List ℕ → ℕ → List ℕ
heard_data B room r = heard_on (circle_at r room) (size_of B r) (filler_of B r) (holds B r)

-- the bits that it carries
carried : (B r : ℕ) (room : List ℕ) → take (carries B r) (heard_data B room r) ≡ heard_in B room r
unfolding heard_in heard_on
carried B r room = take_tab (filler_of B r) (carries B r) (holds B r) (kept_on (circle_at r room) (size_of B r + 4) 0) (omega arith)

-- its check: the filler in front changes no remainder
own_check : (B r : ℕ) (room : List ℕ) → crc 24 g_crc24b (heard_data B room r) ≡ crc 24 g_crc24b (heard_code_block B room r)
unfolding heard_code_block code_block_on
own_check B r room = sym (zeros_first 24 g_crc24b (filler_of B r) _)

-- it is right where it has none or leaves nothing
right_is : (B r : ℕ) (room : List ℕ)
    → (eqb (check_length B) 0 || eqb (crc 24 g_crc24b (heard_code_block B room r)) 0) ≡ not (wrong_block B room r)
unfolding wrong_block
right_is B r room = rw (← (check_is B)) (go (eqb (blocks B) 1) (eqb (crc 24 g_crc24b (heard_code_block B room r)) 0))
  where
    go : (single nothing : Bool) → (eqb (cond single 0 24) 0 || nothing) ≡ not (not single && not nothing)
    go true nothing = refl
    go false true = refl
    go false false = refl

-- the code blocks from r on
heard_more : (B C r : ℕ) (room : List ℕ) → r < C → heard_from B room r (C - r) ≡ heard_in B room r ++ heard_from B room (r + 1) (C - (r + 1))
unfolding heard_from
heard_more B C r room h = ap (heard_from B room r) one ∙ ap (λ (k : ℕ). heard_in B room r ++ heard_from B room k (C - (r + 1))) (sym (add-one r))
  where
    one : C - r ≡ suc (C - (r + 1))
    one = omega arith

heard_none : (B C r : ℕ) (room : List ℕ) → C ≤ r → heard_from B room r (C - r) ≡ []
unfolding heard_from
heard_none B C r room h = ap (heard_from B room r) none
  where
    none : C - r ≡ 0
    none = omega arith

no_filler : (B r : ℕ) → filler_of B (r + 1) ≡ 0
unfolding filler_of
no_filler B r = rw (add-one r, eqb-suc-zero r)

taken_next : (B r : ℕ) → taken_before B (r + 1) ≡ taken_before B r + (size_of B r - check_length B)
unfolding taken_before
taken_next B r = rw (add-one r)

-- ---- the loop

-- the bits of the code blocks before r are written, up to place `at`, n of their data places lack a bit, and where none does `right` is the first
-- wrong one, or r
pub record Hearing (A : ℕ) (room b₀ b : List ℕ) (n right at r : ℕ) : Type 0 where
  pub room_fits_lem : Fit A (length room)
  pub passed : r ≤ blocks (A + 24)
  pub taken : at + filler (A + 24) ≡ taken_before (A + 24) r + filler_of (A + 24) r
  pub enough : A + 48 ≤ length b₀
  pub long : length b ≡ length b₀
  pub told : take at b ++ heard_from (A + 24) room r (blocks (A + 24) - r) ≡ heard_sequence A room
  pub sum : Summing (lacking_in (A + 24) room) (blocks (A + 24)) 6144 r n
  pub first : n ≡ 0 → right ≡ first_from (wrong_block (A + 24) room) 0 r

pub hearing_start : (A : ℕ) (room b : List ℕ) → Fit A (length room) → A + 48 ≤ length b → Hearing A room b b 0 0 0 0
unfolding taken_before filler_of heard_sequence first_from
hearing_start A room b w e = record {
  room_fits_lem = w;
  passed = omega arith;
  taken = omega arith;
  enough = e;
  long = refl;
  told = ap (heard_from (A + 24) room 0) (sub-zero (blocks (A + 24)));
  sum = start;
  first = λ z. refl;
}

check_few : (B : ℕ) → check_length B ≤ 24
check_few B = rw (← (check_is B)) (go (eqb (blocks B) 1))
  where
    go : (b : Bool) → cond b 0 24 ≤ 24
    go true = omega arith
    go false = omega arith

module _ (A : ℕ) {room b₀ b : List ℕ} {n right at r : ℕ} (below : r < blocks (A + 24)) (w : Hearing A room b₀ b n right at r) where
  good : bad_size A ≡ false
  good = w.room_fits_lem.admitted

  within : r * per_block + per_block ≤ length room
  within = omega (arith, w.room_fits_lem.enough, mul-le-mul_right per_block below)

  -- where code block r ends
  ends : at + holds (A + 24) r ≤ length b
  ends = omega (arith, w.taken, w.enough, w.long, check_few (A + 24), filler_below A good r, taken_within (A + 24) (high A good) r below)

  part_long : length (mid_of at (at + holds (A + 24) r - at) b) ≡ holds (A + 24) r
  part_long = length_mid at (at + holds (A + 24) r) b ends ∙ add-sub_cancel_left at (holds (A + 24) r)

  data_stretch : Stretch per_block (size_of (A + 24) r + 4) 0 (filler_of (A + 24) r) (length (mid_of at (at + holds (A + 24) r - at) b))
  data_stretch = stretch A good r 0 _ _ (omega arith) (omega (arith, filler_below A good r)) (omega (arith, part_long, filler_below A good r)) (omega arith)

  module _ {part : List ℕ} {x : ℕ}
      (e : part ≡ heard_on (circle_at r room) (size_of (A + 24) r) (filler_of (A + 24) r) (length (mid_of at (at + holds (A + 24) r - at) b)))
      (s : let b' = put_mid at (at + holds (A + 24) r - at) b part in
      x ≡ sum_from (missing_at (mid_of at (at + holds (A + 24) r - at) b')) 0 (length (mid_of at (at + holds (A + 24) r - at) b')))
    where
      b' : List ℕ
      b' = put_mid at (at + holds (A + 24) r - at) b part

      said : part ≡ heard_data (A + 24) room r
      said = e ∙ ap (heard_on (circle_at r room) (size_of (A + 24) r) (filler_of (A + 24) r)) part_long

      whole : length part ≡ holds (A + 24) r
      whole = ap length said ∙ length_heard (circle_at r room) (size_of (A + 24) r) (filler_of (A + 24) r) (holds (A + 24) r)

      -- what is looked at when the part came back
      back : mid_of at (at + holds (A + 24) r - at) b' ≡ heard_data (A + 24) room r
      unfolding b'
      back = mid_put at (at + holds (A + 24) r - at) b part (omega (arith, ends)) (whole ∙ sym (add-sub_cancel_left at (holds (A + 24) r))) ∙ said

      count : x ≡ lacking_in (A + 24) room r
      unfolding b' lacking_in
      count = counted (circle_at r room) (size_of (A + 24) r) (filler_of (A + 24) r) back s

      count_fits : n + x < 2 ^ 64
      count_fits = omega (arith, count, block_few A good r room, w.sum.few, w.passed, few A good)

      -- the sequence with the bits that code block r carries
      front : take (at + holds (A + 24) r - check_length (A + 24)) b' ≡ take at b ++ heard_in (A + 24) room r
      unfolding b'
      front =
          ap (λ (m : ℕ). take m b') till
          ∙ take-append-add (take at b) (part ++ drop (at + holds (A + 24) r - at) (drop at b)) (carries (A + 24) r)
          ∙ ap (λ (l : List ℕ). take at b ++ l)
          (take-append-le (carries (A + 24) r) part (drop (at + holds (A + 24) r - at) (drop at b)) (omega (arith, whole))
          ∙ ap (take (carries (A + 24) r)) said
          ∙ carried (A + 24) r room)
        where
          till : at + holds (A + 24) r - check_length (A + 24) ≡ length (take at b) + carries (A + 24) r
          till = omega (arith, length-take-le at b (omega (arith, ends)), filler_below A good r)

      -- the first wrong one, code block r looked at
      first_after : {right' : ℕ}
          → right' ≡ cond (eqb (n + x) 0 && (eqb right r && (eqb (check_length (A + 24)) 0 || eqb (crc 24 g_crc24b (mid_of at (at + holds (A + 24) r - at) b')) 0))) (r + 1) right
          → n + x ≡ 0 → right' ≡ first_from (wrong_block (A + 24) room) 0 (r + 1)
      unfolding b'
      first_after {right'} e z =
          let found : right ≡ first_from wrong 0 r = w.first (omega arith) in
          e
          ∙ ap (λ (t : Bool). cond (t && (eqb right r && (eqb (check_length (A + 24)) 0 || eqb (crc 24 g_crc24b (mid_of at (at + holds (A + 24) r - at) b')) 0))) (r + 1) right)
          (eq-eqb (n + x) 0 z)
          ∙ ap (λ (t : Bool). cond (eqb right r && t) (r + 1) right)
          (ap (λ (y : ℕ). eqb (check_length (A + 24)) 0 || eqb y 0) (ap (crc 24 g_crc24b) back ∙ own_check (A + 24) r room) ∙ right_is (A + 24) r room)
          ∙ ap (λ (k : ℕ). cond (eqb k r && not (wrong r)) (r + 1) k) found
          ∙ sym (first_from_more wrong r)
        where
          wrong : ℕ → Bool
          wrong = wrong_block (A + 24) room

      pushed : {right' : ℕ}
          → right' ≡ cond (eqb (n + x) 0 && (eqb right r && (eqb (check_length (A + 24)) 0 || eqb (crc 24 g_crc24b (mid_of at (at + holds (A + 24) r - at) b')) 0))) (r + 1) right
          → Hearing A room b₀ b' (n + x) right' (at + holds (A + 24) r - check_length (A + 24)) (r + 1)
      unfolding b'
      pushed e = record {
        room_fits_lem = w.room_fits_lem;
        passed = omega arith;
        taken = omega (arith, w.taken, taken_next (A + 24) r, no_filler (A + 24) r, filler_below A good r);
        enough = w.enough;
        long = length_put at (at + holds (A + 24) r) b part ends (whole ∙ sym (add-sub_cancel_left at (holds (A + 24) r))) ∙ w.long;
        told =
            ap (λ (l : List ℕ). l ++ heard_from (A + 24) room (r + 1) (blocks (A + 24) - (r + 1))) front
            ∙ append_assoc (take at b) (heard_in (A + 24) room r) (heard_from (A + 24) room (r + 1) (blocks (A + 24) - (r + 1)))
            ∙ ap (λ (l : List ℕ). take at b ++ l) (sym (heard_more (A + 24) (blocks (A + 24)) r room below))
            ∙ w.told;
        sum = next below count (rw count (block_few A good r room)) w.sum;
        first = first_after e;
      }

-- what a turn needs of the numbers that the code finds: the size K, the check bits L, the filler F
pub record Turn (room b : List ℕ) (r at K L F : ℕ) : Type 0 where
  pub filled : F ≤ K
  pub circle : r * per_block + per_block ≤ length room
  pub ends : at + (K - F) ≤ length b
  pub checked : L ≤ at + (K - F)
  pub stretch : Stretch per_block (K + 4) 0 F (length (mid_of at (at + (K - F) - at) b))

-- the part that came back is there to be counted
pub part_back : {room b : List ℕ} {r at K L F : ℕ} → Turn room b r at K L F → (part : List ℕ) → length part ≡ length (mid_of at (at + (K - F) - at) b)
    → at + (K - F) ≤ length (put_mid at (at + (K - F) - at) b part)
part_back {b = b} {at = at} {K = K} {F = F} t part e =
    let long = length_put at (at + (K - F)) b part t.ends (e ∙ length_mid at (at + (K - F)) b t.ends) in
    omega (arith, long, t.ends)

module _ {A : ℕ} {room b₀ b : List ℕ} {n right at r : ℕ} {s : Segments} where
  module _ {K L F : ℕ} (told : s ≡ segments_for A) (checks : L ≡ cond (eqb s.blocks 1) 0 24) (h : r < s.blocks)
      (size : K ≡ cond (ltb r s.shorts) s.short s.long) (zeros : F ≡ cond (eqb r 0) s.filler 0) (w : Hearing A room b₀ b n right at r)
    where
      here : Block A s r
      here = block_of A told h

      check_told : L ≡ check_length (A + 24)
      check_told = checks ∙ ap (λ (n : ℕ). cond (eqb n 1) 0 24) (blocks_told A told here.admitted) ∙ check_is (A + 24)

      pub turn : Turn room b r at K L F
      turn = rw (size ∙ here.size, zeros ∙ here.filled, check_told) (record {
        filled = omega (arith, filler_below A here.admitted r);
        circle = within A here.below w;
        ends = ends A here.below w;
        checked = omega (arith, filler_below A here.admitted r);
        stretch = data_stretch A here.below w;
      })

      module _ {part : List ℕ} {x : ℕ} (e : part ≡ heard_on (circle_at r room) K F (length (mid_of at (at + (K - F) - at) b)))
          (c : let b' = put_mid at (at + (K - F) - at) b part in x ≡ sum_from (missing_at (mid_of at (at + (K - F) - at) b')) 0 (length (mid_of at (at + (K - F) - at) b')))
        where
          pub sum_fits : n + x < 2 ^ 64
          sum_fits =
              count_fits A here.below w (rw (size ∙ here.size, zeros ∙ here.filled) at e) (rw (size ∙ here.size, zeros ∙ here.filled) at c)

          pub hearing_next : {right' : ℕ}
              → right' ≡ cond (eqb (n + x) 0 && (eqb right r && (eqb L 0 || eqb (crc 24 g_crc24b (mid_of at (at + (K - F) - at) (put_mid at (at + (K - F) - at) b part))) 0))) (r + 1) right
              → Hearing A room b₀ (put_mid at (at + (K - F) - at) b part) (n + x) right' (at + (K - F) - L) (r + 1)
          unfolding b'
          hearing_next told-right =
              rw (size ∙ here.size, zeros ∙ here.filled, check_told)
              (pushed A here.below w (rw (size ∙ here.size, zeros ∙ here.filled) at e) (rw (size ∙ here.size, zeros ∙ here.filled) at c)
              (rw (size ∙ here.size, zeros ∙ here.filled, check_told) at told-right))

  pub hearing_blocks : s ≡ segments_for A → Hearing A room b₀ b n right at r → s.blocks ≡ blocks (A + 24)
  hearing_blocks told w = blocks_told A told w.room_fits_lem.admitted

  pub hearing_finish : s ≡ segments_for A → s.blocks ≤ r → Hearing A room b₀ b n right at r
      → (n ≡ lacking A room) × (n ≡ 0 → right ≡ first_wrong A room) × (take (A + 24) b ≡ heard_sequence A room)
  unfolding lacking first_wrong
  hearing_finish told h w =
      (finish past w.sum, λ z. rw all at (w.first z), ap (λ (m : ℕ). take m b) (sym full) ∙ sym (append-nil (take at b)) ∙ ap (λ (l : List ℕ). take at b ++ l) (sym (heard_none (A + 24) (blocks (A + 24)) r room past)) ∙ w.told)
    where
      past : blocks (A + 24) ≤ r
      past = omega (arith, blocks_told A told w.room_fits_lem.admitted)

      all : r ≡ blocks (A + 24)
      all = omega (arith, past, w.passed)

      full : at ≡ A + 24
      full =
          omega (arith, w.taken, ap (taken_before (A + 24)) all, taken_all (A + 24) (high A w.room_fits_lem.admitted), ap (filler_of (A + 24)) (all ∙ last), no_filler (A + 24) (blocks (A + 24) - 1))
        where
          last : blocks (A + 24) ≡ blocks (A + 24) - 1 + 1
          last = omega (arith, blocks_some (A + 24))
