-- A store whose room was lent and came back unheard is the cleared store.
-- Assumes nothing.
use mathlib.Core.Path.{◌≡◌, ◌∙◌, ap}
use mathlib.Core.List.{List}
use Prim.Native.Nat.{ℕ, ◌+◌, ◌-◌, ◌≤◌}
use native.Mathlib.Nat.{add-sub_cancel_left}
use native.Mathlib.Omega.{arith}
use lib.ListN.{length, replicate}
use borrow.Rule.Slice.PartMut.{mid_of, put_mid}
use Rattle.laws.proofs.Parts.{put_as, length_mid}
use Rattle.slots.specs.State.{room_length, room_start}
use Rattle.slots.specs.Room.{unheard, cleared}

pub room_cleared : (M slot : ℕ) {from long : ℕ} (store part : List ℕ) → from ≡ room_start M slot → long ≡ room_length M → from + long ≤ length store
    → part ≡ replicate (length (mid_of from (from + long - from) store)) unheard → put_mid from (from + long - from) store part ≡ cleared M slot store
unfolding cleared
room_cleared M slot {from} {long} store part starts lasts ends filled =
    put_as from (from + long) store (filled ∙ ap (λ (n : ℕ). replicate {A = ℕ} n unheard) whole) (omega arith) ∙ rw (starts, lasts)
  where
    whole : length (mid_of from (from + long - from) store) ≡ long
    whole = length_mid from (from + long) store ends ∙ add-sub_cancel_left from long
