-- Both openings of a slot as one, 01 'Open' and 02 E6: what an accepted one tells, the outcome and the store after it.
-- Assumes nothing.
use mathlib.Core.Path.{◌≡◌, refl}
use mathlib.Core.Bool.{false, cond}
use mathlib.Core.List.{List}
use Prim.Native.Nat.{ℕ, ◌+◌}
use native.Mathlib.Omega.{arith}
use lib.Dec.{eqb}
use lib.ListN.{length}
use Rattle.segmentation.specs.Segmentation.{blocks}
use Rattle.segmentation.specs.Sizes.{bad_size}
use Rattle.codeword.specs.Downlink.{too_short}
use Rattle.slots.specs.Outcome.{Done}
use Rattle.slots.specs.declared.State.{State}
use Rattle.slots.specs.State.{open_head}
use Rattle.slots.specs.Room.{cleared}
use Rattle.slots.specs.Answers.{unless_refused}
use Rattle.slots.specs.Calls.{with_head, open_number, open_outcome, open_store, open_down_outcome, open_down_store}
use Rattle.slots.proofs.Buffers.{Wide, short_wide, long_share, share_enough}
use Rattle.slots.proofs.Accepted.{Openable, openable, open_admitted, down_open, down_buffer}
use Rattle.history.specs.Links.{Link, uplink, downlink, share_in, opening_number, opening_outcome, opening_store}

-- ---- an accepted opening

module _ (state : State) (room slot A : ℕ) where
  -- nothing that Open asks is refused
  opening_open : (link : Link) → opening_number link state room slot A ≡ 0 → open_number state room slot A ≡ 0
  unfolding opening_number
  opening_open uplink e = e
  opening_open (downlink release k_mimo processes Nsoft layers) e = down_open state room slot A release k_mimo processes Nsoft layers e

  pub opening_fits : (link : Link) → opening_number link state room slot A ≡ 0 → Openable state room slot A
  opening_fits link e = openable state room slot A refl (opening_open link e)

  pub opening_admitted : (link : Link) → opening_number link state room slot A ≡ 0 → bad_size A ≡ false
  opening_admitted link e = open_admitted state room slot A refl (opening_open link e)

  -- and the share is long enough
  pub opening_enough : (link : Link) → opening_number link state room slot A ≡ 0 → too_short (share_in link A) (A + 24) (blocks (A + 24)) ≡ false
  unfolding opening_number share_in
  opening_enough uplink e = long_share A (open_admitted state room slot A refl e) _ (omega arith)
  opening_enough (downlink release k_mimo processes Nsoft layers) e =
      share_enough A (open_admitted state room slot A refl (down_open state room slot A release k_mimo processes Nsoft layers e)) release k_mimo processes Nsoft layers
      (down_buffer state room slot A release k_mimo processes Nsoft layers e)

  pub opening_wide : (link : Link) → opening_number link state room slot A ≡ 0 → Wide (share_in link A) (A + 24)
  opening_wide link e = short_wide A (opening_admitted link e) (share_in link A) (opening_enough link e)

-- ---- any opening

pub opening_outcome_lem : (link : Link) (state : State) (room slot terminal A : ℕ)
    → opening_outcome link state room slot terminal A
    ≡ unless_refused (opening_number link state room slot A) state (record { answer = Done; state = with_head state slot (open_head terminal A (share_in link A)) })
unfolding opening_outcome opening_number share_in open_outcome open_down_outcome
opening_outcome_lem uplink state room slot terminal A = refl
opening_outcome_lem (downlink release k_mimo processes Nsoft layers) state room slot terminal A = refl

pub opening_store_lem : (link : Link) (state : State) (slot A : ℕ) (store : List ℕ)
    → opening_store link state slot A store ≡ cond (eqb (opening_number link state (length store) slot A) 0) (cleared state.blocks slot store) store
unfolding opening_store opening_number open_store open_down_store
opening_store_lem uplink state slot A store = refl
opening_store_lem (downlink release k_mimo processes Nsoft layers) state slot A store = refl
