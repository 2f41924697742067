-- A history of calls on slots by a C caller: zemrukste_new over bytes of any kind, and each call handed the state's bytes and the rooms as the last one left them.
-- The steps are the definitions that the exports' contracts cite.
-- Assumes nothing.
use Rattle.std.specs.Prelude.{List, [], ◌∷◌, ℕ, ◌^◌, ◌<◌, length, take}
use Rattle.slots.specs.State.{store_length}
use Rattle.slots.specs.Calls.{new_outcome, close_outcome}
use Rattle.history.specs.Links.{Link, uplink, downlink, opening_outcome}
use Rattle.history.specs.Calls.{Call, opening, receiving, reading, streaming, closing, Made, History}
use Rattle.history.specs.Run.{World, lent, store_after_call}
use Rattle.state_bytes.specs.StateBytes.{state_in, bytes_after, new_bytes}

-- what the caller keeps: the state's bytes, and the rooms, as much of the store as they take
pub record Kept : Type 0 where
  pub bytes : List ℕ
  pub rooms : List ℕ

-- the state and the rooms that these stand for
abbrev pub world_of : Kept → World
world_of k = record { state = state_in k.bytes; rooms = k.rooms }

-- the state's bytes after a call on a lent store: Receive, Read and Streams do not write them
unfoldable pub bytes_after_call : List ℕ → List ℕ → Call → List ℕ
bytes_after_call bytes store (opening link slot terminal A) =
    bytes_after (opening_outcome link (state_in bytes) (length store) slot terminal A) slot bytes
bytes_after_call bytes store (receiving slot terminal r) = bytes
bytes_after_call bytes store (reading slot terminal size) = bytes
bytes_after_call bytes store (streaming slot terminal block size) = bytes
bytes_after_call bytes store (closing slot terminal) = bytes_after (close_outcome (state_in bytes) slot terminal) slot bytes

unfoldable pub step_in_c : Kept → Made → Kept
step_in_c k m =
    record {
      bytes = bytes_after_call k.bytes (lent (world_of k) m.past) m.call;
      rooms = take (length k.rooms) (store_after_call (state_in k.bytes) (lent (world_of k) m.past) m.call);
    }

-- after the history
unfoldable pub run_in_c : ℕ → ℕ → List ℕ → List ℕ → History → Kept
run_in_c S M bytes store [] = record { bytes = new_bytes S M bytes; rooms = take (store_length (new_outcome S M).state) store }
run_in_c S M bytes store (m ∷ h) = step_in_c (run_in_c S M bytes store h) m

-- what C's types say of an opening: a terminal of 16 bits, and N_soft of 64
unfoldable pub TypedLink : Link → Type 0
TypedLink uplink = Unit {0}
TypedLink (downlink release k_mimo processes Nsoft layers) = Nsoft < 256 ^ 8

unfoldable pub Typed : Call → Type 0
Typed (opening link slot terminal A) = (terminal < 65536) × TypedLink link
Typed (receiving slot terminal r) = Unit {0}
Typed (reading slot terminal size) = Unit {0}
Typed (streaming slot terminal block size) = Unit {0}
Typed (closing slot terminal) = Unit {0}

unfoldable pub AllTyped : History → Type 0
AllTyped [] = Unit {0}
AllTyped (m ∷ h) = Typed m.call × AllTyped h
