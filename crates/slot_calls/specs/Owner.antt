-- What Receive, Read and Streams ask of a state and a store first (01): the refusal, or the slot's head; and the head whichever it is.
-- Assumes nothing.
use Rattle.std.specs.Prelude.{◌++◌, ℕ}
use Rattle.std.specs.declared.result.Result.{Result}
use Rattle.refusals.specs.declared.Refusal.{Refusal}
use Rattle.refusals.specs.Refusals.{given_by, first_of}
use Rattle.slots.specs.declared.Head.{Head}
use Rattle.slots.specs.declared.State.{State}
use Rattle.slots.specs.State.{head_at}
use Rattle.slots.specs.Calls.{store_rules, owner_rules}
use Rattle.slot_calls.specs.declared.Owner.{Owner}

-- 13, 5 (store), 6, 8, 9, for a store of `lent` bytes
unfoldable pub owner_number : State → ℕ → ℕ → ℕ → ℕ
owner_number state lent slot terminal = first_of (store_rules state lent slot ++ owner_rules state slot terminal)

-- the refusal, or the slot's head
unfoldable pub admitted_by : State → ℕ → ℕ → ℕ → Result Head Refusal
admitted_by state lent slot terminal = given_by (owner_number state lent slot terminal) (head_at state slot)

-- the same, and the head, which is told of a refused call too
unfoldable pub owner_of : State → ℕ → ℕ → ℕ → Owner
owner_of state lent slot terminal = record { admitted = admitted_by state lent slot terminal; head = head_at state slot }
