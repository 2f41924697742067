-- The loop over the code blocks of a reception on a room of either form, 01 'Receive' and 02 E7: each code block takes its bits and is counted.
-- Assumes nothing.
use mathlib.Core.Path.{◌≡◌, refl, sym, ◌∙◌, ap, ap₂, subst}
use mathlib.Core.Bool.{Bool, true, false}
use mathlib.Core.List.{List}
use Prim.Native.Nat.{ℕ, ◌+◌, ◌-◌, ◌*◌, ◌≤◌, ◌<◌}
use native.Mathlib.Nat.{add-sub_cancel_left}
use native.Mathlib.Omega.{arith}
use lib.ListN.{length, get_or}
use borrow.Author.Tests.{le-ltb}
use borrow.Rule.Slice.PartMut.{mid_of, put_mid}
use Rattle.laws.proofs.Parts.{length_mid, length_put as length-putMid, get_or_put_in}
use Rattle.segmentation.specs.Segmentation.{blocks, size_of, filler_of}
use Rattle.rate_matching.specs.SubBlocks.{rows}
use Rattle.rate_matching.specs.Circle.{circle_length, cut_at}
use Rattle.codeword.specs.declared.Grant.{Grant}
use Rattle.codeword.specs.Build.{share_of, bad_version}
use Rattle.slots.specs.State.{per_block}
use Rattle.slots.specs.Room.{agreeing, circle_at}
use Rattle.slots.specs.Circle.{kept_on, missing, missing_on, sum_from, lacking_on}
use Rattle.slots.specs.Reading.{lacking_in, lacking}
use Rattle.slots.specs.Reception.{put_blocks, received}
use Rattle.slots.proofs.Sums.{sum_from_ext}
use Rattle.slots.proofs.PlaceBounds.{place_below, sent_below}
use Rattle.slots.proofs.RoomLaws.{circle_entry, put_blocks_out}
use Rattle.packing.specs.Store.{places_a_byte, bytes_a_block, places_in}
use Rattle.packing.proofs.Stores.{places_are, places_mid, places_put}
use Rattle.kept_bits.specs.Circle.{reach_of}
use Rattle.kept_bits.specs.inner.Rows.{Streams}
use Rattle.kept_bits.proofs.Sums.{Summing, start, next, finish}
use Rattle.reading.proofs.Lent.{Alike, lacking_alike}
use Rattle.reading.proofs.Blocks.{few, filler_below, block_few}
use Rattle.bit_placement.specs.inner.Along.{Sends}
use Rattle.reception.specs.inner.Parts.{bytes_a_row, part_after, Accepted}
use Rattle.reception.proofs.Blocks.{Blocks, block_sends, blocks_start, blocks_next, blocks_finish, part_within, bits_within}

-- ---- the bytes of either form

-- those of R rows of a circle, and those of a code block
row_places : (four : Bool) (from R : ℕ) {row : ℕ} → row ≡ bytes_a_row four → places_a_byte four * (from + row * R) ≡ places_a_byte four * from + circle_length R
unfolding places_a_byte bytes_a_row circle_length
row_places true from R e = rw e (omega arith)
row_places false from R e = rw e (omega arith)

block_places_lem : (four : Bool) (from : ℕ) {long : ℕ} → long ≡ bytes_a_block four → places_a_byte four * from + per_block ≡ places_a_byte four * (from + long)
unfolding places_a_byte bytes_a_block
block_places_lem true from e = rw e (omega arith)
block_places_lem false from e = rw e (omega arith)

-- there are no more bytes than places
bytes_few : (four : Bool) {n m : ℕ} → places_a_byte four * n ≤ m → n ≤ m
unfolding places_a_byte
bytes_few true h = omega arith
bytes_few false h = omega arith

-- a byte whose places lie in a room lies in it
bytes_in : (four : Bool) (n : ℕ) (l : List ℕ) → places_a_byte four * n ≤ length (places_in four l) → n ≤ length l
unfolding places_a_byte
bytes_in true n l h = omega (arith, places_are true l)
bytes_in false n l h = omega (arith, places_are false l)

-- ---- the loop over the code blocks

-- the code blocks before r have their bits, and their data places are counted as they are in the end
pub record Filling (four : Bool) (A soft : ℕ) (g : Grant) (bits room₀ room : List ℕ) (n at from r : ℕ) : Type 0 where
  pub long : length room ≡ length room₀
  pub put : Blocks A soft g bits (places_in four room₀) (places_in four room) at (places_a_byte four * from) r
  pub sum : Summing (lacking_in (A + 24) (received agreeing soft A g bits (places_in four room₀))) (blocks (A + 24)) 6144 r n

module _ {four : Bool} {A soft : ℕ} {g : Grant} {bits room₀ : List ℕ} where
  pub filling_start : Filling four A soft g bits room₀ room₀ 0 0 0 0
  filling_start = record { long = refl; put = subst (λ (n : ℕ). Blocks A soft g bits (places_in four room₀) (places_in four room₀) 0 n 0) none blocks_start; sum = start }
    where
      none : 0 ≡ places_a_byte four * 0
      none = omega arith

  pub filling_finish : {room : List ℕ} {n at from r : ℕ} → blocks (A + 24) ≤ r → Filling four A soft g bits room₀ room n at from r
      → (places_in four room ≡ received agreeing soft A g bits (places_in four room₀)) × (n ≡ lacking A (places_in four room))
  unfolding lacking
  filling_finish h w =
      let told = blocks_finish h w.put in
      (told, finish h w.sum ∙ ap (λ (l : List ℕ). sum_from (lacking_in (A + 24) l) 0 (blocks (A + 24))) (sym told))

module _ (four : Bool) {A soft : ℕ} {g : Grant} {bits : List ℕ} (room₀ : List ℕ) (ok : Accepted A soft g bits (length (places_in four room₀))) where
  -- what the code blocks after r take leaves code block r as it is
  later_keep : (r n : ℕ) (places : List ℕ) → (r + 1 + n) * per_block ≤ length places
      → lacking_in (A + 24) (put_blocks agreeing soft (A + 24) g bits (r + 1) n places) r ≡ lacking_in (A + 24) places r
  unfolding lacking_in lacking_on missing_on kept_on agreeing bad_version
  later_keep r n places fits =
      sum_from_ext _ _ (filler_of (A + 24) r) (size_of (A + 24) r - filler_of (A + 24) r)
      (λ i a b. ap missing
      (let below = place_below A ok.size r 0 i (omega arith) (omega (arith, filler_below A ok.size r)) in
      circle_entry r _ _ 0
      ∙ put_blocks_out agreeing soft (A + 24) g bits (λ q. sent_below A ok.size ok.wide g q (le-ltb 3 g.version ok.version)) (r + 1) n places fits _
      (λ q j l g m e. omega (arith, below))
      ∙ sym (circle_entry r places _ 0)))

  -- the stretch of the bits that is lent
  pub stretch_within : {room : List ℕ} {n at from r : ℕ} → r < blocks (A + 24) → Filling four A soft g bits room₀ room n at from r → {E : ℕ}
      → E ≡ share_of (blocks (A + 24)) g.modulation g.layers g.bits r → at + E ≤ length bits
  stretch_within h w e = bits_within ok h w.put e

  -- where the next code block's bytes begin
  pub next_small : {room : List ℕ} {n at from r long : ℕ} → r < blocks (A + 24) → Filling four A soft g bits room₀ room n at from r → long ≡ bytes_a_block four → from + long ≤ 92640
  next_small {from = from} h w e = bytes_few four (omega (arith, h, w.put.begins, few A ok.size, block_places_lem four from e))

  module _ {room : List ℕ} {n at from r : ℕ} (h : r < blocks (A + 24)) (w : Filling four A soft g bits room₀ room n at from r) {K F : ℕ} (k : K ≡ size_of (A + 24) r) (f : F ≡ filler_of (A + 24) r) {row : ℕ} (rowed : row ≡ bytes_a_row four) where
    abbrev L : ℕ
    L = circle_length (rows (K + 4))

    abbrev to : ℕ
    to = from + row * rows (K + 4)

    -- the places before them, and with them
    abbrev first : ℕ
    first = places_a_byte four * from

    last : places_a_byte four * to ≡ first + L
    last = row_places four from (rows (K + 4)) rowed

    sends : Sends (K + 4) F soft g.version per_block
    sends = rw (k, f) (block_sends A ok.size ok.wide ok.version r)

    places_within : first + L ≤ length (places_in four room)
    places_within = omega (arith, part_within ok h w.put, sends.walked.fits)

    -- its size, and the bytes that are lent: they lie in the room and are no more than a code block's
    pub size_few : K ≤ 6144
    size_few = omega (arith, sends.walked.most)

    pub bytes_within : to ≤ length room
    bytes_within = bytes_in four to room (rw last places_within)

    abbrev lent : List ℕ
    lent = mid_of from (to - from) room

    mid_places : places_in four lent ≡ mid_of first (first + L - first) (places_in four room)
    mid_places = places_mid four from to room (omega arith) bytes_within ∙ ap (λ (m : ℕ). mid_of first (m - first) (places_in four room)) last

    lent_long : length (places_in four lent) ≡ L
    lent_long = ap length mid_places ∙ length_mid first (first + L) (places_in four room) places_within ∙ add-sub_cancel_left first L

    -- what was sent of it, and the bytes that are lent have its circle's places
    pub bytes_send : Sends (K + 4) F soft g.version L × (F ≤ K) × (L ≤ length (places_in four lent)) × (length (places_in four lent) ≤ 18528)
    bytes_send = (
      record {
        walked = record { least = sends.walked.least; most = sends.walked.most; some = sends.walked.some; filler = sends.walked.filler; fits = omega arith };
        cut = sends.cut;
        version = sends.version;
      },
      omega (arith, k, f, filler_below A ok.size r),
      omega (arith, lent_long),
      omega (arith, lent_long, sends.walked.fits),
    )

    module _ {E x long : ℕ} (part : List ℕ) (e : E ≡ share_of (blocks (A + 24)) g.modulation g.layers g.bits r) (blocked : long ≡ bytes_a_block four) (kept : length part ≡ length lent)
        (stored : places_in four part ≡ part_after (K + 4) F (cut_at soft (rows (K + 4))) g.version (mid_of at (at + E - at) bits) (places_in four lent))
        (count : x ≡ lacking_on (places_in four part) K F) where
      put_places : places_in four (put_mid from (to - from) room part) ≡ put_mid first (first + L - first) (places_in four room) (places_in four part)
      put_places =
          places_put four from to room part (omega arith) bytes_within (kept ∙ length_mid from to room bytes_within)
          ∙ ap (λ (m : ℕ). put_mid first (m - first) (places_in four room) (places_in four part)) last

      put_next : Blocks A soft g bits (places_in four room₀) (places_in four (put_mid from (to - from) room part)) (at + E) (places_a_byte four * (from + long)) (r + 1)
      put_next =
          subst (λ (l : List ℕ). Blocks A soft g bits (places_in four room₀) l (at + E) (places_a_byte four * (from + long)) (r + 1)) (sym put_places)
          (subst (λ (m : ℕ). Blocks A soft g bits (places_in four room₀) (put_mid first (first + L - first) (places_in four room) (places_in four part)) (at + E) m (r + 1)) (block_places_lem four from blocked)
          (blocks_next ok h w.put e (ap (λ (m : ℕ). m + 4) k) f (omega arith) sends.walked.fits
          (stored ∙ ap (part_after (K + 4) F (cut_at soft (rows (K + 4))) g.version (mid_of at (at + E - at) bits)) mid_places)))

      part_long : length (places_in four part) ≡ L
      part_long = places_are four part ∙ ap (λ (m : ℕ). places_a_byte four * m) kept ∙ sym (places_are four lent) ∙ lent_long

      -- it is the front of the code block's circle
      alike : Alike L (places_in four part) (circle_at r (places_in four (put_mid from (to - from) room part)))
      alike = record {
        same = λ p l.
            sym
            (circle_entry r (places_in four (put_mid from (to - from) room part)) p 0
            ∙ ap₂ (λ (m : List ℕ) (n : ℕ). get_or m (n + p) 0) put_places (sym w.put.begins)
            ∙ get_or_put_in first (first + L - first) (places_in four room) (places_in four part) p 0 (omega (arith, places_within)) (omega (arith, part_long)));
      }

      streams : Streams (K + 4)
      streams = record { least = sends.walked.least; most = sends.walked.most; bytes = sends.walked.some }

      reach : reach_of (K + 4) 0 ≤ L
      unfolding reach_of circle_length
      reach = omega arith

      there_still : (r + 1 + (blocks (A + 24) - (r + 1))) * per_block ≤ length (places_in four (put_mid from (to - from) room part))
      there_still = omega (arith, put_next.long, ok.fits, h)

      counted : x ≡ lacking_in (A + 24) (received agreeing soft A g bits (places_in four room₀)) r
      unfolding lacking_in
      counted =
          count
          ∙ lacking_alike K streams alike reach F
          ∙ ap₂ (lacking_on (circle_at r (places_in four (put_mid from (to - from) room part)))) k f
          ∙ sym (later_keep r (blocks (A + 24) - (r + 1)) (places_in four (put_mid from (to - from) room part)) there_still)
          ∙ ap (λ (l : List ℕ). lacking_in (A + 24) l r) put_next.told

      small : x ≤ 6144
      small = rw counted (block_few A ok.size r (received agreeing soft A g bits (places_in four room₀)))

      pub sum_small : n + x ≤ (r + 1) * 6144
      sum_small = omega (arith, small, w.sum.few)

      pub filling_next : Filling four A soft g bits room₀ (put_mid from (to - from) room part) (n + x) (at + E) (from + long) (r + 1)
      filling_next = record {
        long = length-putMid from to room part bytes_within (kept ∙ length_mid from to room bytes_within) ∙ w.long;
        put = put_next;
        sum = next h counted small w.sum;
      }
