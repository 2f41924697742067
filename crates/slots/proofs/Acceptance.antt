-- What an accepted reception, reading or request for streams tells of its state and arguments: no test of 01's refusals applies.
-- Assumes nothing.
use mathlib.Core.Path.{◌≡◌, refl}
use mathlib.Core.Bool.{true, false}
use mathlib.Core.List.{List}
use Prim.Native.Nat.{ℕ, ◌+◌, ◌*◌, ◌≤◌, ◌<◌}
use lib.ListN.{length}
use borrow.Author.Tests.{ltb-false, not-false}
use Rattle.refusals.proofs.Refusals.{passed, listed}
use Rattle.segmentation.specs.Segmentation.{blocks, size_of}
use Rattle.codeword.specs.Build.{bad_allocation, bad_version, bad_bits, version_rule, output_rule, bits_rule}
use Rattle.slots.specs.declared.State.{State}
use Rattle.slots.specs.State.{store_length, head_at, bad_state}
use Rattle.slots.specs.Calls.{state_rule, store_rule, slot_rule, closed_rule, allocation_rule, code_block_rule, store_rules, owner_rules, size_at_head, receive_number, read_number, streams_number}
use Rattle.slots.proofs.Accepted.{present_slot}

-- an accepted reception
pub record Receives (state : State) (room slot terminal Q N v : ℕ) (bits : List ℕ) : Type 0 where
  pub sound : bad_state state ≡ false
  pub long : store_length state ≤ room
  pub below : slot < state.slots
  pub opened : (head_at state slot).opened ≡ true
  pub allocation : bad_allocation (blocks (size_at_head state slot + 24)) Q N (length bits) ≡ false
  pub version : bad_version v ≡ false
  pub given : bad_bits bits ≡ false

pub receives : (state : State) (room slot terminal Q N v : ℕ) (bits : List ℕ)
    → receive_number state room slot terminal Q N v bits ≡ 0 → Receives state room slot terminal Q N v bits
unfolding receive_number store_rules owner_rules
receives state room slot terminal Q N v bits e =
    let clear = passed _ refl e tt in
    record {
      sound = clear (state_rule state) (search listed);
      long = ltb-false room (store_length state) (clear (store_rule state room) (search listed));
      below = present_slot state.slots slot (clear (slot_rule state slot) (search listed));
      opened = not-false (head_at state slot).opened (clear (closed_rule state slot) (search listed));
      allocation = clear (allocation_rule (blocks (size_at_head state slot + 24)) Q N (length bits)) (search listed);
      version = clear (version_rule v) (search listed);
      given = clear (bits_rule bits) (search listed);
    }

-- a reading that comes to the room
pub record Reads (state : State) (room slot terminal size : ℕ) : Type 0 where
  pub sound : bad_state state ≡ false
  pub long : store_length state ≤ room
  pub below : slot < state.slots
  pub opened : (head_at state slot).opened ≡ true
  pub enough : size_at_head state slot ≤ size

pub reads : (state : State) (room slot terminal size : ℕ) → read_number state room slot terminal size ≡ 0 → Reads state room slot terminal size
unfolding read_number store_rules owner_rules
reads state room slot terminal size e =
    let clear = passed _ refl e tt in
    record {
      sound = clear (state_rule state) (search listed);
      long = ltb-false room (store_length state) (clear (store_rule state room) (search listed));
      below = present_slot state.slots slot (clear (slot_rule state slot) (search listed));
      opened = not-false (head_at state slot).opened (clear (closed_rule state slot) (search listed));
      enough = ltb-false size (size_at_head state slot) (clear (output_rule (size_at_head state slot) size) (search listed));
    }

-- accepted streams
pub record Streams (state : State) (room slot terminal r size : ℕ) : Type 0 where
  pub sound : bad_state state ≡ false
  pub long : store_length state ≤ room
  pub below : slot < state.slots
  pub opened : (head_at state slot).opened ≡ true
  pub block : r < blocks (size_at_head state slot + 24)
  pub enough : 3 * (size_of (size_at_head state slot + 24) r + 4) ≤ size

pub streams : (state : State) (room slot terminal r size : ℕ) → streams_number state room slot terminal r size ≡ 0
    → Streams state room slot terminal r size
unfolding streams_number store_rules owner_rules
streams state room slot terminal r size e =
    let clear = passed _ refl e tt in
    record {
      sound = clear (state_rule state) (search listed);
      long = ltb-false room (store_length state) (clear (store_rule state room) (search listed));
      below = present_slot state.slots slot (clear (slot_rule state slot) (search listed));
      opened = not-false (head_at state slot).opened (clear (closed_rule state slot) (search listed));
      block = present_slot (blocks (size_at_head state slot + 24)) r (clear (code_block_rule (size_at_head state slot + 24) r) (search listed));
      enough = ltb-false size (3 * (size_of (size_at_head state slot + 24) r + 4)) (clear (output_rule (3 * (size_of (size_at_head state slot + 24) r + 4)) size) (search listed));
    }
