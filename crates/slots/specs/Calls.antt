-- The calls of 01's slots and Open for a downlink (02, E6): for each its refusals in 01's order, its answer with the state returned, and every lent byte afterwards.
-- Assumes nothing.
use Rattle.std.specs.Prelude.{Bool, cond, not, List, [], ◌∷◌, ◌++◌, ℕ, ◌+◌, ◌*◌, eqb, ltb, length, drop, set}
use Rattle.refusals.specs.Refusals.{Rule, rule, first_of}
use Rattle.segmentation.specs.Segmentation.{blocks, size_of}
use Rattle.rate_matching.specs.SoftBuffer.{soft_share, whole_share}
use Rattle.codeword.specs.Shares.{grant}
use Rattle.codeword.specs.Build.{bad_allocation, size_rule, version_rule, output_rule, bits_rule}
use Rattle.codeword.specs.Downlink.{buffer_rule}
use Rattle.slots.specs.declared.Head.{Head}
use Rattle.slots.specs.declared.State.{State}
use Rattle.slots.specs.Outcome.{Done, StillLacking}
use Rattle.slots.specs.Outcome.{Outcome}
use Rattle.slots.specs.State.{store_length, closed_head, open_head, new_state, head_at, too_many, bad_shape, bad_state}
use Rattle.slots.specs.Room.{agreeing, room_at, with_room, cleared}
use Rattle.slots.specs.Reception.{received}
use Rattle.slots.specs.Reading.{lacking, heard_answer, heard_block, three_streams}
use Rattle.slots.specs.Answers.{is_done, unless_refused}

-- the state with another head for a slot
unfoldable pub with_head : State → ℕ → Head → State
with_head state slot h = record { slots = state.slots; blocks = state.blocks; heads = set state.heads slot h }

-- ---- the rules by their names, for whatever list they stand in

-- the state is broken
abbrev pub state_rule : State → Rule
state_rule state = rule (bad_state state) 13

-- a store of `lent` bytes is too short for the rooms
abbrev pub store_rule : State → ℕ → Rule
store_rule state lent = rule (ltb lent (store_length state)) 5

-- there is no such slot
abbrev pub slot_rule : State → ℕ → Rule
slot_rule state slot = rule (not (ltb slot state.slots)) 6

-- the slot is open already
abbrev pub taken_rule : State → ℕ → Rule
taken_rule state slot = rule (head_at state slot).opened 7

-- the block has more code blocks than the room
abbrev pub blocks_rule : State → ℕ → Rule
blocks_rule state A = rule (too_many state.blocks A) 10

-- the slot is closed
abbrev pub closed_rule : State → ℕ → Rule
closed_rule state slot = rule (not (head_at state slot).opened) 8

-- it is open for another terminal
abbrev pub terminal_rule : State → ℕ → ℕ → Rule
terminal_rule state slot terminal = rule (not (eqb (head_at state slot).terminal terminal)) 9

-- Q, N or the number of bits, for C code blocks
abbrev pub allocation_rule : ℕ → ℕ → ℕ → ℕ → Rule
allocation_rule C Q N G = rule (bad_allocation C Q N G) 3

-- a sequence of B bits has no code block r
abbrev pub code_block_rule : ℕ → ℕ → Rule
code_block_rule B r = rule (not (ltb r (blocks B))) 14

-- ---- the calls

-- 13, 5 (store), 6: what every call on a store asks first; lent is the length of the store
unfoldable pub store_rules : State → ℕ → ℕ → List Rule
store_rules state lent slot = state_rule state ∷ store_rule state lent ∷ slot_rule state slot ∷ []

-- 8, 9: the slot is open for this terminal
unfoldable pub owner_rules : State → ℕ → ℕ → List Rule
owner_rules state slot terminal = closed_rule state slot ∷ terminal_rule state slot terminal ∷ []

-- New: 13 with a state of S = 0 and M = 0
unfoldable pub new_outcome : ℕ → ℕ → Outcome
new_outcome S M =
    unless_refused (first_of (rule (bad_shape S M) 13 ∷ [])) (new_state 0 0)
    (record { answer = Done; state = new_state S M })

-- 13, 5, 6, 7, 1, 10: what is asked of every opening
unfoldable pub open_rules : State → ℕ → ℕ → ℕ → List Rule
open_rules state lent slot A =
    store_rules state lent slot ++ (taken_rule state slot ∷ size_rule A ∷ blocks_rule state A ∷ [])

-- the slot opened: its head holds the terminal, A and the share
abbrev pub opened_for : State → ℕ → ℕ → ℕ → ℕ → Outcome
opened_for state slot terminal A soft =
    record { answer = Done; state = with_head state slot (open_head terminal A soft) }

-- Open: the head of an uplink holds the whole share
unfoldable pub open_number : State → ℕ → ℕ → ℕ → ℕ
open_number state lent slot A = first_of (open_rules state lent slot A)

unfoldable pub open_outcome : State → ℕ → ℕ → ℕ → ℕ → Outcome
open_outcome state lent slot terminal A =
    unless_refused (open_number state lent slot A) state (opened_for state slot terminal A whole_share)

unfoldable pub open_store : State → ℕ → ℕ → List ℕ → List ℕ
open_store state slot A store =
    cond (eqb (open_number state (length store) slot A) 0) (cleared state.blocks slot store) store

-- Open for a downlink: 21 comes last; the head holds ⌊N_IR / C⌋ as it is, also where no circle is so long
unfoldable pub open_down_number : State → ℕ → ℕ → ℕ → ℕ → ℕ → ℕ → ℕ → ℕ → ℕ
open_down_number state lent slot A release k_mimo processes Nsoft layers =
    first_of (open_rules state lent slot A ++ (buffer_rule (A + 24) release k_mimo processes Nsoft layers ∷ []))

unfoldable pub open_down_outcome : State → ℕ → ℕ → ℕ → ℕ → ℕ → ℕ → ℕ → ℕ → ℕ → Outcome
open_down_outcome state lent slot terminal A release k_mimo processes Nsoft layers =
    unless_refused (open_down_number state lent slot A release k_mimo processes Nsoft layers) state
    (opened_for state slot terminal A (soft_share (blocks (A + 24)) release k_mimo processes Nsoft layers))

unfoldable pub open_down_store : State → ℕ → ℕ → ℕ → ℕ → ℕ → ℕ → ℕ → List ℕ → List ℕ
open_down_store state slot A release k_mimo processes Nsoft layers store =
    cond (eqb (open_down_number state (length store) slot A release k_mimo processes Nsoft layers) 0)
    (cleared state.blocks slot store)
    store

-- the A of a slot's head
unfoldable pub size_at_head : State → ℕ → ℕ
size_at_head state slot = (head_at state slot).size

-- the share of the soft buffer that each code block of a slot has
unfoldable pub share_at_head : State → ℕ → ℕ
share_at_head state slot = (head_at state slot).share

-- Receive: 13, 5, 6, 8, 9, 3, 4, 2
unfoldable pub receive_number : State → ℕ → ℕ → ℕ → ℕ → ℕ → ℕ → List ℕ → ℕ
receive_number state lent slot terminal Q N v bits =
    first_of
    (store_rules state lent slot
    ++ (owner_rules state slot terminal
    ++ (allocation_rule (blocks (size_at_head state slot + 24)) Q N (length bits) ∷ version_rule v ∷ bits_rule bits ∷ [])))

unfoldable pub receive_store : State → ℕ → ℕ → ℕ → ℕ → ℕ → List ℕ → List ℕ → List ℕ
receive_store state slot terminal Q N v bits store =
    cond (eqb (receive_number state (length store) slot terminal Q N v bits) 0)
    (with_room state.blocks slot (received agreeing (share_at_head state slot) (size_at_head state slot) (grant Q N v (length bits)) bits (room_at state.blocks slot store)) store)
    store

-- accepted: how many data places lack a bit after the reception
unfoldable pub receive_outcome : State → ℕ → ℕ → ℕ → ℕ → ℕ → List ℕ → List ℕ → Outcome
receive_outcome state slot terminal Q N v bits store =
    unless_refused (receive_number state (length store) slot terminal Q N v bits) state
    (record {
      answer = StillLacking (lacking (size_at_head state slot) (room_at state.blocks slot (receive_store state slot terminal Q N v bits store)));
      state = state;
    })

-- Read: 13, 5, 6, 8, 9, 5 (output), then 11 with the count, 16 with the code block, 12; size is the length of the output
unfoldable pub read_number : State → ℕ → ℕ → ℕ → ℕ → ℕ
read_number state lent slot terminal size =
    first_of
    (store_rules state lent slot ++ (owner_rules state slot terminal ++ (output_rule (size_at_head state slot) size ∷ [])))

unfoldable pub read_outcome : State → List ℕ → ℕ → ℕ → ℕ → Outcome
read_outcome state store slot terminal size =
    unless_refused (read_number state (length store) slot terminal size) state
    (record { answer = heard_answer (size_at_head state slot) (room_at state.blocks slot store); state = state })

-- the block is released: nothing is refused
unfoldable pub released : State → List ℕ → ℕ → ℕ → ℕ → Bool
released state store slot terminal size = is_done (read_outcome state store slot terminal size).answer

unfoldable pub read_output : State → List ℕ → ℕ → ℕ → List ℕ → List ℕ
read_output state store slot terminal out =
    cond (released state store slot terminal (length out))
    (heard_block (size_at_head state slot) (room_at state.blocks slot store) ++ drop (size_at_head state slot) out)
    out

-- Streams: 13, 5, 6, 8, 9, 14, 5 (output)
unfoldable pub streams_number : State → ℕ → ℕ → ℕ → ℕ → ℕ → ℕ
streams_number state lent slot terminal r size =
    first_of
    (store_rules state lent slot
    ++ (owner_rules state slot terminal
    ++ (code_block_rule (size_at_head state slot + 24) r ∷ output_rule (3 * (size_of (size_at_head state slot + 24) r + 4)) size ∷ [])))

unfoldable pub streams_outcome : State → ℕ → ℕ → ℕ → ℕ → ℕ → Outcome
streams_outcome state lent slot terminal r size =
    unless_refused (streams_number state lent slot terminal r size) state (record { answer = Done; state = state })

unfoldable pub streams_output : State → List ℕ → ℕ → ℕ → ℕ → List ℕ → List ℕ
streams_output state store slot terminal r out =
    cond (eqb (streams_number state (length store) slot terminal r (length out)) 0)
    (three_streams (size_at_head state slot + 24) (room_at state.blocks slot store) r
    ++ drop (3 * (size_of (size_at_head state slot + 24) r + 4)) out)
    out

-- Close: 13, 6, 8, 9
unfoldable pub close_number : State → ℕ → ℕ → ℕ
close_number state slot terminal =
    first_of (state_rule state ∷ slot_rule state slot ∷ owner_rules state slot terminal)

unfoldable pub close_outcome : State → ℕ → ℕ → Outcome
close_outcome state slot terminal =
    unless_refused (close_number state slot terminal) state
    (record { answer = Done; state = with_head state slot closed_head })
