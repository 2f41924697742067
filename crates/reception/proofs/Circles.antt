-- One code block's circle, 01 'Receive' and 02 E7: its data places are counted, and where it is packed it is unpacked, takes the bits and is packed again.
-- Assumes nothing.
use mathlib.Core.Path.{◌≡◌, refl, ◌∙◌, ap, ap₂}
use mathlib.Core.Bool.{Bool, true, false, cond, not, ◌||◌}
use mathlib.Core.List.{List, [], ◌∷◌, ◌++◌, append-nil, map}
use Prim.Native.Nat.{ℕ, zero, suc, ◌+◌, ◌*◌, ◌/◌, ◌≤◌, ◌<◌, min}
use native.Mathlib.Decide.{dec_lt}
use native.Mathlib.Omega.{arith}
use lib.Dec.{lit<, eqb}
use lib.ListN.{length, get_or, drop, drop_of_length-le, get_or-eq_default}
use Rattle.laws.specs.Bits.{EachBelow, AreBits}
use Rattle.laws.proofs.AreBits.{drop_below}
use Rattle.slots.specs.Putting.{put_along}
use Rattle.slots.specs.Room.{disputed, has_value, meet, agreeing}
use Rattle.slots.specs.Circle.{lacking_on}
use Rattle.slots.proofs.Putting.{length_put}
use Rattle.packing.specs.Packing.{in_two_bits, packed, packed_over, unpacked, unpacked_over}
use Rattle.packing.specs.Store.{places_a_byte, places_in}
use Rattle.packing.proofs.Places.{two_bits_keep, place_lt}
use Rattle.packing.proofs.Forms.{length_packed, length_unpacked, there_and_back}
use Rattle.packing.proofs.Stores.{get_or_unpacked, places_are}
use Rattle.kept_bits.specs.Circle.{countable}
use Rattle.kept_bits.proofs.Lacking.{countable_is}
use Rattle.bit_placement.specs.inner.Along.{Sends}
use Rattle.bit_placement.proofs.Along.{put_bit}
use Rattle.reception.specs.inner.Parts.{part_after}

length_after : (D F Ncb v : ℕ) (bits part : List ℕ) → length (part_after D F Ncb v bits part) ≡ length part
unfolding part_after
length_after D F Ncb v bits part = length_put agreeing _ bits part

-- a circle on which a code block's bits can be put is counted
pub circle_counted : {K F soft v long : ℕ} (circle : List ℕ) {n : ℕ} → F ≤ K → Sends (K + 4) F soft v long → length circle ≡ long
    → n ≡ cond (countable (length circle) K F) (lacking_on circle K F) 0 → n ≡ lacking_on circle K F
circle_counted {K} {F} circle low ok e c =
    c ∙ rw (countable_is {long = length circle} {K = K} {F = F} low (record { least = ok.walked.least; most = ok.walked.most; bytes = ok.walked.some }) (omega (arith, e, ok.walked.fits)))

-- ---- two bits are enough for a place that was unpacked and takes bits

meet_below : (old new : ℕ) → new < 2 → meet old new < 4
unfolding meet
meet_below old new h = go (not (has_value old) || eqb old new)
  where
    go : (b : Bool) → cond b new disputed < 4
    go true = omega arith
    go false = lit< tt

put_below : (l : List ℕ) (k b : ℕ) → EachBelow 4 l → b < 2 → EachBelow 4 (put_bit l k b)
put_below [] k b h g i = h i
put_below (x ∷ l) zero b h g zero = meet_below x b g
put_below (x ∷ l) zero b h g (suc i) = h (suc i)
put_below (x ∷ l) (suc k) b h g zero = h 0
put_below (x ∷ l) (suc k) b h g (suc i) = put_below l k b (λ n. h (suc n)) g i

from_below : (js bits l : List ℕ) → AreBits bits → EachBelow 4 l → EachBelow 4 (put_along agreeing js bits l)
unfolding put_along agreeing
from_below [] bits l are h = h
from_below (j ∷ js) bits l are h = from_below js (drop 1 bits) (put_bit l j (get_or bits 0 0)) (drop_below 2 1 bits are) (put_below l j (get_or bits 0 0) h (are 0))

places_below : (bytes : List ℕ) → EachBelow 4 (places_in true bytes)
unfolding places_in
places_below bytes i = elim (dec_lt i (4 * length bytes)) [
  | yes h ↦ rw (get_or_unpacked (length bytes) bytes i h) (place_lt bytes i)
  | no h ↦ rw (get_or-eq_default (unpacked (length bytes) bytes) 0 {n = i} (omega (arith, length_unpacked (length bytes) bytes))) (lit< tt)
]

two_bits_all : (l : List ℕ) → EachBelow 4 l → map in_two_bits l ≡ l
two_bits_all [] h = refl
two_bits_all (x ∷ l) h = ap₂ ◌∷◌ (two_bits_keep x (h 0)) (two_bits_all l (λ i. h (suc i)))

-- ---- one code block

-- all bytes of a part were written
packed_whole : (circle part : List ℕ) {part' : List ℕ} → length circle ≡ 4 * length part → part' ≡ packed_over (min (length circle / 4) (length part)) circle part
    → part' ≡ packed (length part) circle
unfolding packed_over
packed_whole circle part {part'} e o =
    o
    ∙ ap (λ (n : ℕ). packed n circle ++ drop n part) all
    ∙ ap (λ (l : List ℕ). packed (length part) circle ++ l) (drop_of_length-le part {i = length part} (omega arith))
    ∙ append-nil (packed (length part) circle)
  where
    all : min (length circle / 4) (length part) ≡ length part
    all = omega arith

packed_there : (circle part : List ℕ) {part' : List ℕ} → length circle ≡ 4 * length part → EachBelow 4 circle → part' ≡ packed_over (min (length circle / 4) (length part)) circle part
    → places_in true part' ≡ circle
unfolding places_in
packed_there circle part {part'} e h o =
    ap (λ (l : List ℕ). unpacked (length l) l) (packed_whole circle part e o)
    ∙ ap (λ (n : ℕ). unpacked n (packed (length part) circle)) (length_packed (length part) circle)
    ∙ there_and_back (length part) circle e
    ∙ two_bits_all circle h

-- a buffer in which all of the bytes were unpacked
unpacked_whole : (part circle : List ℕ) {circle' : List ℕ} → length circle ≡ 4 * length part
    → circle' ≡ unpacked_over (min (length part) (length circle / 4)) part circle → circle' ≡ places_in true part
unfolding unpacked_over places_in
unpacked_whole part circle {circle'} e o =
    o
    ∙ ap (λ (n : ℕ). unpacked n part ++ drop (4 * n) circle) all
    ∙ ap (λ (l : List ℕ). unpacked (length part) part ++ l) (drop_of_length-le circle {i = 4 * length part} (omega arith))
    ∙ append-nil (unpacked (length part) part)
  where
    all : min (length part) (length circle / 4) ≡ length part
    all = omega arith

four_times : (l : List ℕ) → length (places_in true l) ≡ 4 * length l
unfolding places_a_byte
four_times l = places_are true l

-- how many places a part keeps, by its form
pub four_long : (l : List ℕ) {four : Bool} → four ≡ true → length (places_in four l) ≡ 4 * length l
four_long l e = rw e (four_times l)

pub plain_long : (l : List ℕ) {four : Bool} → four ≡ false → length (places_in four l) ≡ length l
unfolding places_in
plain_long l e = rw e

-- the part is unpacked, takes the bits and is packed again
module _ (D F Ncb v : ℕ) (bits part circle : List ℕ) {circle₁ circle₂ part' : List ℕ} (e : length circle ≡ 4 * length part) (are : AreBits bits)
    (u : circle₁ ≡ unpacked_over (min (length part) (length circle / 4)) part circle) (p : circle₂ ≡ part_after D F Ncb v bits circle₁)
    (q : part' ≡ packed_over (min (length circle₂ / 4) (length part)) circle₂ part) where
  first : circle₁ ≡ places_in true part
  first = unpacked_whole part circle e u

  as_long : length circle₂ ≡ 4 * length part
  as_long = ap length p ∙ length_after D F Ncb v bits circle₁ ∙ ap length first ∙ four_times part

  pub part_there : places_in true part' ≡ circle₂
  unfolding part_after
  part_there = packed_there circle₂ part as_long (rw p (from_below _ bits circle₁ are (rw first (places_below part)))) q

  pub part_stored : places_in true part' ≡ part_after D F Ncb v bits (places_in true part)
  part_stored = part_there ∙ p ∙ ap (part_after D F Ncb v bits) first
