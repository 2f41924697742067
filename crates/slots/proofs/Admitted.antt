-- Which calls of 01's slots are refused by no rule: those for a sound state, a store that is long enough and a slot that is there, with arguments that pass their tests.
-- Assumes nothing.
use mathlib.Core.Path.{◌≡◌, refl}
use mathlib.Core.Bool.{true, false, not}
use mathlib.Core.List.{List}
use Prim.Native.Nat.{ℕ, ◌+◌, ◌*◌, ◌≤◌, ◌<◌}
use lib.Dec.{eqb, ltb}
use lib.ListN.{length}
use borrow.Author.Tests.{le-ltb, lt-ltb, eq-eqb}
use Rattle.refusals.specs.Refusals.{first_of}
use Rattle.segmentation.specs.Segmentation.{blocks, size_of}
use Rattle.segmentation.specs.Sizes.{bad_size}
use Rattle.codeword.specs.Build.{bad_allocation, bad_version, bad_bits}
use Rattle.codeword.specs.Downlink.{bad_buffer}
use Rattle.slots.specs.declared.State.{State}
use Rattle.slots.specs.State.{store_length, head_at, too_many, bad_state}
use Rattle.slots.specs.Calls.{store_rules, owner_rules, open_rules, open_number, open_down_number, receive_number, read_number, streams_number, close_number, size_at_head}

module _ (state : State) (room slot : ℕ) (sound : bad_state state ≡ false) (long : store_length state ≤ room) (below : slot < state.slots) where
  present : not (ltb slot state.slots) ≡ false
  present = rw (lt-ltb slot state.slots below)

  -- a closed slot, and an A in range that fits M
  module _ (A : ℕ) (size : bad_size A ≡ false) (closed : (head_at state slot).opened ≡ false) (few : blocks (A + 24) ≤ state.blocks) where
    pub open_admitted : open_number state room slot A ≡ 0
    unfolding open_number open_rules store_rules first_of too_many
    open_admitted = rw (sound, le-ltb _ _ long, present, closed, size, le-ltb state.blocks (blocks (A + 24)) few)

    -- for a downlink also a receiver whose soft buffer is long enough
    pub open_down_admitted : (release k_mimo processes Nsoft layers : ℕ) → bad_buffer (A + 24) release k_mimo processes Nsoft layers ≡ false
        → open_down_number state room slot A release k_mimo processes Nsoft layers ≡ 0
    unfolding open_down_number open_rules store_rules first_of too_many
    open_down_admitted release k_mimo processes Nsoft layers buffer = rw (sound, le-ltb _ _ long, present, closed, size, le-ltb state.blocks (blocks (A + 24)) few, buffer)

  -- the other calls, by the owner
  module _ (terminal : ℕ) (opened : (head_at state slot).opened ≡ true) (theirs : (head_at state slot).terminal ≡ terminal) where
    own : not (eqb (head_at state slot).terminal terminal) ≡ false
    own = rw (theirs, eq-eqb terminal terminal refl)

    pub receive_admitted : (Q N v : ℕ) (bits : List ℕ) → bad_allocation (blocks (size_at_head state slot + 24)) Q N (length bits) ≡ false → bad_version v ≡ false → bad_bits bits ≡ false
        → receive_number state room slot terminal Q N v bits ≡ 0
    unfolding receive_number store_rules owner_rules first_of
    receive_admitted Q N v bits allocation version given = rw (sound, le-ltb _ _ long, present, opened, own, allocation, version, given)

    pub read_admitted : (size : ℕ) → size_at_head state slot ≤ size → read_number state room slot terminal size ≡ 0
    unfolding read_number store_rules owner_rules first_of
    read_admitted size fits = rw (sound, le-ltb _ _ long, present, opened, own, le-ltb size (size_at_head state slot) fits)

    pub streams_admitted : (r size : ℕ) → r < blocks (size_at_head state slot + 24) → 3 * (size_of (size_at_head state slot + 24) r + 4) ≤ size
        → streams_number state room slot terminal r size ≡ 0
    unfolding streams_number store_rules owner_rules first_of
    streams_admitted r size block fits =
        rw (sound, le-ltb _ _ long, present, opened, own, lt-ltb r (blocks (size_at_head state slot + 24)) block, le-ltb size (3 * (size_of (size_at_head state slot + 24) r + 4)) fits)

    pub close_admitted : close_number state slot terminal ≡ 0
    unfolding close_number owner_rules first_of
    close_admitted = rw (sound, present, opened, own)
