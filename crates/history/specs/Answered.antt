-- What a call of a history answers, which slot it names, and what it is to say that a slot is the same in two worlds, 01 'Slots'.
-- Assumes nothing.
use Rattle.std.specs.Prelude.{◌≡◌, cond, List, [], ◌∷◌, ℕ, ◌<◌, eqb, length, get_or}
use Rattle.slots.specs.Outcome.{Answer}
use Rattle.slots.specs.declared.State.{State}
use Rattle.slots.specs.State.{room_length, head_at, bad_state}
use Rattle.slots.specs.Room.{room_at}
use Rattle.history.specs.Calls.{Call, opening, receiving, reading, streaming, closing, History}
use Rattle.history.specs.Run.{outcome_of}

-- the answer of a call on a lent store
unfoldable pub answer_to : State → List ℕ → Call → Answer
answer_to state store call = (outcome_of state store call).answer

-- the slot that a call names
unfoldable pub slot_of : Call → ℕ
slot_of (opening link slot terminal A) = slot
slot_of (receiving slot terminal r) = slot
slot_of (reading slot terminal size) = slot
slot_of (streaming slot terminal block size) = slot
slot_of (closing slot terminal) = slot

-- the same bytes in a slot's room
abbrev pub SameRoom : ℕ → ℕ → List ℕ → List ℕ → Type 0
SameRoom M slot store other =
    (k : ℕ) → k < room_length M → get_or (room_at M slot store) k 0 ≡ get_or (room_at M slot other) k 0

-- all that an answer for a slot may depend on besides the arguments is the same: S, M, whether a head is broken, this head, the length lent and this room
pub record SameSlot (slot : ℕ) (state other : State) (store other_store : List ℕ) : Type 0 where
  pub slots : state.slots ≡ other.slots
  pub blocks : state.blocks ≡ other.blocks
  pub broken : bad_state state ≡ bad_state other
  pub head : head_at state slot ≡ head_at other slot
  pub long : length store ≡ length other_store
  pub room : SameRoom state.blocks slot store other_store

-- the calls of a history that name the slot
unfoldable pub own_calls : ℕ → History → History
own_calls slot [] = []
own_calls slot (m ∷ h) = cond (eqb (slot_of m.call) slot) (m ∷ own_calls slot h) (own_calls slot h)
