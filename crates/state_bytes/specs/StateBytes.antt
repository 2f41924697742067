-- The state of the slots as the 272 bytes that a C caller keeps: 34 numbers of eight bytes; and the state that any bytes stand for.
-- Assumes nothing.
use Rattle.std.specs.Prelude.{cond, ◌||◌, List, [], ◌∷◌, ◌++◌, ℕ, zero, suc, ◌+◌, ◌*◌, eqb, ltb, length, take, drop, get_or}
use Rattle.slots.specs.declared.Head.{Head}
use Rattle.slots.specs.declared.State.{State}
use Rattle.slots.specs.Outcome.{Answer}
use Rattle.slots.specs.Outcome.{Outcome}
use Rattle.slots.specs.State.{open_head, new_state, head_at}
use Rattle.slots.specs.Answers.{number_of, values_of}
use Rattle.slots.specs.Calls.{new_outcome}
use Rattle.state_bytes.specs.Numbers.{in_bytes, number_from}

-- ZEMRUKSTE_STATE_LEN: 34 numbers of eight bytes
abbrev pub state_length : ℕ
state_length = 272

-- ---- a state as bytes

-- the four numbers of a head: 1 if it is open, else 0; terminal, A, share
unfoldable pub head_numbers : Head → List ℕ
head_numbers h = cond h.opened 1 0 ∷ h.terminal ∷ h.size ∷ h.share ∷ []

unfoldable pub heads_numbers : List Head → List ℕ
heads_numbers [] = []
heads_numbers (h ∷ hs) = head_numbers h ++ heads_numbers hs

-- S, M and the heads
unfoldable pub state_bytes : State → List ℕ
state_bytes s = in_bytes 8 (s.slots ∷ s.blocks ∷ heads_numbers s.heads)

-- ---- bytes as a state

-- the head that four numbers are; where no head has such a flag or terminal it is open with A = 0, which number 13 refuses
unfoldable pub head_of : ℕ → ℕ → ℕ → ℕ → Head
head_of flag terminal A share =
    cond (ltb 1 flag || ltb 65535 terminal) (open_head 0 0 0)
    (record { opened = eqb flag 1; terminal = terminal; size = A; share = share })

-- the head whose bytes begin at a place, and n heads one after another
unfoldable pub head_from : List ℕ → ℕ → Head
head_from bytes at =
    head_of (number_from 8 bytes at) (number_from 8 bytes (at + 8)) (number_from 8 bytes (at + 16)) (number_from 8 bytes (at + 24))

unfoldable pub heads_from : List ℕ → ℕ → ℕ → List Head
heads_from bytes at zero = []
heads_from bytes at (suc n) = head_from bytes at ∷ heads_from bytes (at + 32) n

-- the state that any bytes stand for; bytes past the 272 do not count, and too few are the state of S = 0, which number 13 refuses
unfoldable pub state_in : List ℕ → State
state_in bytes =
    cond (ltb (length bytes) state_length) (new_state 0 0)
    (record { slots = number_from 8 bytes 0; blocks = number_from 8 bytes 8; heads = heads_from bytes 16 8 })

-- ---- what a call leaves

-- where the bytes of a slot's head begin
unfoldable pub head_start : ℕ → ℕ
head_start slot = 16 + 32 * slot

-- other bytes for the head of a slot, and all else as it was; all where the bytes are too few or there is no such head
unfoldable pub with_head_bytes : List ℕ → ℕ → Head → List ℕ
with_head_bytes bytes slot h =
    cond (ltb (length bytes) state_length || ltb 7 slot) bytes
    (take (head_start slot) bytes ++ (in_bytes 8 (head_numbers h) ++ drop (head_start slot + 32) bytes))

-- after Open and Close: the slot's head, where the call is accepted
unfoldable pub bytes_after : Outcome → ℕ → List ℕ → List ℕ
bytes_after outcome slot bytes =
    cond (eqb (number_of outcome.answer) 0) (with_head_bytes bytes slot (head_at outcome.state slot)) bytes

-- New: 5 where the bytes are too few, then as New answers; it writes all 272, also with 13
unfoldable pub new_number : ℕ → ℕ → ℕ → ℕ
new_number S M size = cond (ltb size state_length) 5 (number_of (new_outcome S M).answer)

unfoldable pub new_bytes : ℕ → ℕ → List ℕ → List ℕ
new_bytes S M bytes =
    cond (ltb (length bytes) state_length) bytes (state_bytes (new_outcome S M).state ++ drop state_length bytes)

-- the number that comes with an answer, Receive's count and that of 11 and 16, over what stood there before
unfoldable pub value_of : Answer → ℕ → ℕ
value_of answer before = get_or (values_of answer) 0 before
