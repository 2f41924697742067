-- What the places hold after a change of form, 02 E2 and E7: two bits keep whatever accepted receptions leave.
-- Assumes nothing.
use mathlib.Core.Path.{◌≡◌, ◌∙◌, ap}
use mathlib.Core.Bool.{Bool, true, false, cond}
use mathlib.Core.List.{List, [], ◌∷◌, map}
use Prim.Native.Nat.{ℕ, ◌<◌}
use native.Mathlib.Omega.{arith}
use lib.ListN.{get_or}
use Rattle.laws.specs.Bits.{AreBits}
use Rattle.slots.specs.Room.{disputed, room_at, circle_at}
use Rattle.packing.specs.Packing.{in_two_bits}
use Rattle.packing.proofs.Places.{two_bits_keep}
use Rattle.history.specs.Calls.{Reception}
use Rattle.history.specs.Accepted.{arrivals}
use Rattle.history.specs.Agreed.{all_are, holding}
use Rattle.history.specs.Holds.{Holds}
use Rattle.history.proofs.Arrived.{AllBits, arrived_bits}
use Rattle.forms.proofs.TwoBits.{get_or_two, room_two, circle_two}
use Rattle.forms.proofs.Follows.{Carried, as_they_were, in_two_bits_lem}

-- a bit, disputed or unheard
holding_lt : (bits : List ℕ) → AreBits bits → holding bits < 4
unfolding holding
holding_lt [] h = omega arith
holding_lt (b ∷ bs) h = either (all_are b bs) (h 0)
  where
    either : (t : Bool) → b < 2 → cond t b disputed < 4
    either true l = omega arith
    either false l = omega arith

module _ (soft M slot A : ℕ) (xs : List Reception) (bits : AllBits xs) where
  pub held_carried : {places rooms : List ℕ} → Carried places rooms → Holds soft M slot A xs rooms → Holds soft M slot A xs places
  held_carried (as_they_were e) held = rw e held
  held_carried {rooms = rooms} (in_two_bits_lem e) held = rw e (record {
    place = λ r j l k. kept_two r j ∙ ap in_two_bits (held.place r j l k) ∙ two_bits_keep _ (holding_lt (arrivals soft A xs r j) (arrived_bits soft A xs r j bits));
    rest = λ r j l h k. kept_two r j ∙ ap in_two_bits (held.rest r j l h k) ∙ two_bits_keep 2 (omega arith);
  })
    where
      kept_two : (r j : ℕ) → get_or (circle_at r (room_at M slot (map in_two_bits rooms))) j 0 ≡ in_two_bits (get_or (circle_at r (room_at M slot rooms)) j 0)
      kept_two r j =
          ap (λ (l : List ℕ). get_or l j 0) (ap (circle_at r) (room_two M slot rooms) ∙ circle_two r (room_at M slot rooms))
          ∙ get_or_two (circle_at r (room_at M slot rooms)) j
