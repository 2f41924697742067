-- What two bits keep of a place means what the place means, 02 E7: it lacks a bit alike, shows alike, a bit meets it alike, and twice is once.
-- Assumes nothing.
use mathlib.Core.Path.{◌≡◌, sym, ◌∙◌, ap}
use mathlib.Core.Bool.{Bool, true, false, cond, not, ◌||◌}
use mathlib.Core.List.{List, map}
use Prim.Native.Nat.{ℕ, ◌*◌, ◌<◌}
use native.Mathlib.Decide.{dec_lt}
use native.Mathlib.Omega.{arith}
use lib.Dec.{eqb}
use lib.ListN.{get_or, get_or-map}
use borrow.Author.Tests.{lt-ltb, le-ltb}
use Rattle.laws.specs.Bits.{EachBelow, AreBits}
use Rattle.slots.specs.State.{per_block, room_start}
use Rattle.slots.specs.Room.{disputed, has_value, is_decided, meet, room_at, circle_at}
use Rattle.slots.specs.Circle.{missing, shown}
use Rattle.slots.proofs.Meeting.{unheard_two, unheard_above, meet_unheard}
use Rattle.packing.specs.Packing.{in_two_bits}
use Rattle.packing.proofs.Places.{two_bits_lt, two_bits_keep}
use Rattle.forms.proofs.Lists.{map_drop, map_same, map_twice}

-- above 3
pub above : (x : ℕ) → 3 < x → in_two_bits x ≡ 2
unfolding in_two_bits
above x h = rw (lt-ltb 3 x h)

pub twice : (x : ℕ) → in_two_bits (in_two_bits x) ≡ in_two_bits x
twice x = two_bits_keep (in_two_bits x) (two_bits_lt x)

pub missing_alike : (x : ℕ) → missing (in_two_bits x) ≡ missing x
unfolding missing is_decided
missing_alike x = elim (dec_lt x 4) [
  | yes h ↦ rw (two_bits_keep x h)
  | no h ↦ rw (above x (omega arith), le-ltb x 2 (omega arith))
]

-- what Streams shows of a place
pub shown_alike : (x : ℕ) → shown (in_two_bits x) ≡ shown x
unfolding shown is_decided
shown_alike x = elim (dec_lt x 4) [
  | yes h ↦ rw (two_bits_keep x h)
  | no h ↦ rw (above x (omega arith), le-ltb x 2 (omega arith))
]

pub meet_alike : (x bit : ℕ) → bit < 2 → meet (in_two_bits x) bit ≡ in_two_bits (meet x bit)
unfolding meet
meet_alike x bit b = elim (dec_lt x 4) [
  | yes h ↦ rw (two_bits_keep x h) (sym (two_bits_keep _ (small (not (has_value x) || eqb x bit))))
  | no h ↦
      let large : 3 < x = omega arith in
      ap (λ (y : ℕ). meet y bit) (above x large)
      ∙ meet_unheard 2 bit unheard_two
      ∙ sym (two_bits_keep bit (omega arith))
      ∙ ap in_two_bits (sym (meet_unheard x bit (unheard_above x large)))
]
  where
    small : (t : Bool) → cond t bit disputed < 4
    small true = omega arith
    small false = omega arith

-- ---- lists

pub get_or_two : (l : List ℕ) (i : ℕ) → get_or (map in_two_bits l) i 0 ≡ in_two_bits (get_or l i 0)
unfolding in_two_bits
get_or_two l i = get_or-map in_two_bits l i 0

pub below_same : (l : List ℕ) → EachBelow 4 l → map in_two_bits l ≡ l
below_same l h = map_same in_two_bits l (λ i. two_bits_keep (get_or l i 0) (h i))

pub bits_same : (l : List ℕ) → AreBits l → map in_two_bits l ≡ l
bits_same l h = below_same l (λ i. let b : get_or l i 0 < 2 = h i in omega arith)

pub list_twice : (l : List ℕ) → map in_two_bits (map in_two_bits l) ≡ map in_two_bits l
list_twice = map_twice in_two_bits twice

-- a slot's room of the store, and a code block's circle of the room
pub room_two : (M slot : ℕ) (store : List ℕ) → room_at M slot (map in_two_bits store) ≡ map in_two_bits (room_at M slot store)
unfolding room_at
room_two M slot store = sym (map_drop in_two_bits (room_start M slot) store)

pub circle_two : (r : ℕ) (room : List ℕ) → circle_at r (map in_two_bits room) ≡ map in_two_bits (circle_at r room)
unfolding circle_at
circle_two r room = sym (map_drop in_two_bits (r * per_block) room)
