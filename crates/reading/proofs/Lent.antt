-- A part that is lent reads as the circle, or the room, that it is a part of, 01 'Slots', as long as it reaches as far as the streams do.
-- Assumes nothing.
use mathlib.Core.Path.{◌≡◌, sym, ◌∙◌, ap, ap₂}
use mathlib.Core.Bool.{true, false, cond, ◌&&◌}
use mathlib.Core.List.{List, ◌++◌}
use Prim.Native.Nat.{ℕ, ◌+◌, ◌-◌, ◌*◌, ◌≤◌, ◌<◌}
use native.Mathlib.Nat.{mul-le-mul_right}
use native.Mathlib.Omega.{arith}
use lib.Dec.{ltb}
use lib.ListN.{length, get_or, take, drop}
use lib.Seq.{length-take-le, take_at, drop_at, drop-drop}
use borrow.Author.Tests.{le-leb}
use borrow.Rule.Slice.PartMut.{mid_of, put_mid}
use Rattle.laws.specs.Lists.{tab}
use Rattle.laws.proofs.Parts.{length_mid, get_or_mid}
use Rattle.laws.proofs.Tab.{tab_from_ext, tab_ext}
use Rattle.segmentation.specs.Segmentation.{blocks, size_of}
use Rattle.segmentation.specs.Sizes.{bad_size}
use Rattle.rate_matching.specs.Places.{place_number}
use Rattle.slots.specs.State.{per_block, room_length, room_start}
use Rattle.slots.specs.Room.{room_at, circle_at}
use Rattle.slots.specs.Circle.{kept_on, missing, missing_on, lacking_on, heard_on, shown, stream_on, streams_on}
use Rattle.slots.specs.Reading.{lacking, heard_answer, heard_block}
use Rattle.slots.proofs.RoomLaws.{room_byte, circle_entry, place_in_room}
use Rattle.slots.proofs.PlaceBounds.{place_below}
use Rattle.slots.proofs.SameKept.{same_lacking, same_answer, same_block}
use Rattle.slots.proofs.Sums.{sum_from_ext}
use Rattle.kept_bits.specs.Circle.{reach_of}
use Rattle.kept_bits.specs.inner.Rows.{Streams}
use Rattle.reading.specs.inner.Room.{room_fits}
use Rattle.kept_bits.proofs.Rows.{place_there}

-- a part that came back, lent again
pub mid_put : (a k : ℕ) (xs ys : List ℕ) → a ≤ length xs → length ys ≡ k → mid_of a k (put_mid a k xs ys) ≡ ys
mid_put a k xs ys h e = ap (take k) (drop_at (take a xs) (ys ++ drop k (drop a xs)) a (length-take-le a xs h)) ∙ take_at ys (drop k (drop a xs)) k e

-- ---- a circle's front

-- the first n places keep the same
pub record Alike (n : ℕ) (front circle : List ℕ) : Type 0 where
  pub same : (p : ℕ) → p < n → get_or front p 0 ≡ get_or circle p 0

module _ {D n : ℕ} {front circle : List ℕ} (sized : Streams D) (alike : Alike n front circle) where
  kept_alike : (s i : ℕ) → reach_of D s ≤ n → s < 3 → i < D → kept_on front D s i ≡ kept_on circle D s i
  unfolding kept_on
  kept_alike s i h u l = alike.same (place_number D s i) (omega (arith, place_there sized s i u l))

  pub streams_alike : (F : ℕ) → ((s : ℕ) → reach_of D s ≤ n) → streams_on front D F ≡ streams_on circle D F
  unfolding streams_on stream_on
  streams_alike F h = ap₂ ◌++◌ (one 0 (omega arith)) (ap₂ ◌++◌ (one 1 (omega arith)) (one 2 (omega arith)))
    where
      one : (s : ℕ) → s < 3 → tab D (stream_on front D F s) ≡ tab D (stream_on circle D F s)
      one s u = tab_ext D _ _ (λ i l. ap (λ (x : ℕ). cond (ltb s 2 && ltb i F) 0 (shown x)) (kept_alike s i (h s) u l))

module _ (K : ℕ) {n : ℕ} {front circle : List ℕ} (sized : Streams (K + 4)) (alike : Alike n front circle) (reach : reach_of (K + 4) 0 ≤ n) where
  pub heard_alike : (F m : ℕ) → F + m ≤ K + 4 → heard_on front K F m ≡ heard_on circle K F m
  unfolding heard_on
  heard_alike F m h = tab_from_ext F m _ _ (λ i a b. kept_alike sized alike 0 i reach (omega arith) (omega arith))

  pub lacking_alike : (F : ℕ) → lacking_on front K F ≡ lacking_on circle K F
  unfolding lacking_on missing_on
  lacking_alike F = sum_from_ext _ _ F (K - F) (λ i a b. ap missing (kept_alike sized alike 0 i reach (omega arith) (omega arith)))

-- ---- the circle of a code block, lent from its room

pub circle_alike : (r : ℕ) {from : ℕ} (room : List ℕ) → from ≡ r * per_block → Alike per_block (mid_of from (from + per_block - from) room) (circle_at r room)
circle_alike r {from} room e = record {
  same = λ p h.
      get_or_mid from (from + per_block - from) room p 0 (omega arith)
      ∙ ap (λ (j : ℕ). get_or room (j + p) 0) e
      ∙ sym (circle_entry r room p 0);
}

-- the code blocks of all rooms of a store one after another
pub circle_in_store : (M slot r : ℕ) (store : List ℕ) → circle_at (slot * M + r) store ≡ circle_at r (room_at M slot store)
unfolding circle_at room_at room_start room_length
circle_in_store M slot r store = ap (λ (n : ℕ). drop n store) start ∙ sym (drop-drop (r * per_block) (slot * (M * per_block)) store)
  where
    start : (slot * M + r) * per_block ≡ slot * (M * per_block) + r * per_block
    start = omega arith

-- ---- the room of a slot, lent from its store

module _ (M slot A : ℕ) {from long : ℕ} (store : List ℕ) (good : bad_size A ≡ false) (fits : blocks (A + 24) ≤ M)
    (starts : from ≡ room_start M slot) (lasts : long ≡ room_length M)
  where
    abbrev room : List ℕ
    room = mid_of from (from + long - from) store

    room_keeps : (r s i : ℕ) → r < blocks (A + 24) → s < 3 → i < size_of (A + 24) r + 4
        → kept_on (circle_at r room) (size_of (A + 24) r + 4) s i ≡ kept_on (circle_at r (room_at M slot store)) (size_of (A + 24) r + 4) s i
    unfolding kept_on
    room_keeps r s i h u l =
        circle_entry r room j 0
        ∙ get_or_mid from (from + long - from) store (r * per_block + j) 0 (omega (arith, place_in_room M r j block (place_below A good r s i u l)))
        ∙ ap (λ (k : ℕ). get_or store (k + (r * per_block + j)) 0) starts
        ∙ sym (room_byte M slot store (r * per_block + j))
        ∙ sym (circle_entry r (room_at M slot store) j 0)
      where
        j : ℕ
        j = place_number (size_of (A + 24) r + 4) s i

        block : r < M
        block = omega arith

    -- how many data places lack a bit, what Read answers, and the block
    pub lacking_lent : lacking A (mid_of from (from + long - from) store) ≡ lacking A (room_at M slot store)
    lacking_lent = same_lacking A room (room_at M slot store) room_keeps

    pub answer_lent : heard_answer A (mid_of from (from + long - from) store) ≡ heard_answer A (room_at M slot store)
    answer_lent = same_answer A room (room_at M slot store) room_keeps

    pub block_lent : heard_block A (mid_of from (from + long - from) store) ≡ heard_block A (room_at M slot store)
    block_lent = same_block A room (room_at M slot store) room_keeps

    -- and it is long enough for the block's code blocks
    pub room_fits_lem : from + long ≤ length store → room_fits A (length (mid_of from (from + long - from) store)) ≡ true
    unfolding room_fits room_length
    room_fits_lem h =
        let whole : length room ≡ from + long - from = length_mid from (from + long) store h in
        let enough : blocks (A + 24) * per_block ≤ length room = omega (arith, mul-le-mul_right per_block fits) in
        rw (good, le-leb (blocks (A + 24) * per_block) (length room) enough)
