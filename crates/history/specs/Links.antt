-- The links that a slot can be opened for, 01 'Open' and 02 E6: what is refused, each code block's share of the soft buffer, the outcome and the store afterwards.
-- Assumes nothing.
use Rattle.std.specs.Prelude.{List, ℕ, ◌+◌}
use Rattle.segmentation.specs.Segmentation.{blocks}
use Rattle.rate_matching.specs.SoftBuffer.{soft_share, whole_share}
use Rattle.slots.specs.declared.State.{State}
use Rattle.slots.specs.Outcome.{Outcome}
use Rattle.slots.specs.Calls.{open_number, open_outcome, open_store, open_down_number, open_down_outcome, open_down_store}

-- an uplink, or a downlink to a receiver with a soft buffer
pub data Link : Type 0 where
  uplink : Link
  downlink : (release k_mimo processes Nsoft layers : ℕ) → Link

-- the share of each code block of a block of A bits
unfoldable pub share_in : Link → ℕ → ℕ
share_in uplink A = whole_share
share_in (downlink release k_mimo processes Nsoft layers) A =
    soft_share (blocks (A + 24)) release k_mimo processes Nsoft layers

-- the number of an opening, its outcome, and the store after it
unfoldable pub opening_number : Link → State → ℕ → ℕ → ℕ → ℕ
opening_number uplink state lent slot A = open_number state lent slot A
opening_number (downlink release k_mimo processes Nsoft layers) state lent slot A =
    open_down_number state lent slot A release k_mimo processes Nsoft layers

unfoldable pub opening_outcome : Link → State → ℕ → ℕ → ℕ → ℕ → Outcome
opening_outcome uplink state lent slot terminal A = open_outcome state lent slot terminal A
opening_outcome (downlink release k_mimo processes Nsoft layers) state lent slot terminal A =
    open_down_outcome state lent slot terminal A release k_mimo processes Nsoft layers

unfoldable pub opening_store : Link → State → ℕ → ℕ → List ℕ → List ℕ
opening_store uplink state slot A store = open_store state slot A store
opening_store (downlink release k_mimo processes Nsoft layers) state slot A store =
    open_down_store state slot A release k_mimo processes Nsoft layers store
