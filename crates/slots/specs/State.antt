-- The state of 01's slots: S, M and eight heads, each with its code blocks' share of the soft buffer (02, E6), and which states and stores are refused.
-- Assumes nothing.
use Rattle.std.specs.Prelude.{Bool, true, false, ◌||◌, ◌&&◌, List, [], ◌∷◌, ℕ, zero, suc, ◌+◌, ◌*◌, eqb, ltb, get_or, replicate}
use Rattle.segmentation.specs.Segmentation.{blocks}
use Rattle.segmentation.specs.Sizes.{bad_size}
use Rattle.codeword.specs.Downlink.{too_short}
use Rattle.slots.specs.declared.Head.{Head}
use Rattle.slots.specs.declared.State.{State}

-- the bytes that a room has for one code block: the longest circle, 96·193
abbrev pub per_block : ℕ
per_block = 18528

-- the length of a room for M code blocks
unfoldable pub room_length : ℕ → ℕ
room_length M = M * per_block

-- where the room of a slot starts: the rooms lie one after another
unfoldable pub room_start : ℕ → ℕ → ℕ
room_start M slot = slot * room_length M

-- the bytes that a store must have
unfoldable pub store_length : State → ℕ
store_length state = state.slots * room_length state.blocks

-- a closed head: its other numbers are 0
unfoldable pub closed_head : Head
closed_head = record { opened = false; terminal = 0; size = 0; share = 0 }

-- a head that is open for a terminal with a block of A bits, each code block having a share `soft` of the soft buffer
abbrev pub open_head : ℕ → ℕ → ℕ → Head
open_head terminal A soft = record { opened = true; terminal = terminal; size = A; share = soft }

-- S slots for M code blocks each, all closed
unfoldable pub new_state : ℕ → ℕ → State
new_state S M = record { slots = S; blocks = M; heads = replicate 8 closed_head }

-- the head of a slot
unfoldable pub head_at : State → ℕ → Head
head_at state slot = get_or state.heads slot closed_head

-- number 10: A needs more than M code blocks
unfoldable pub too_many : ℕ → ℕ → Bool
too_many M A = ltb M (blocks (A + 24))

-- a head is broken if it is open and its A is out of range or needs more than M code blocks, or its share is below 32·R for one of its code blocks
unfoldable pub broken : ℕ → Head → Bool
broken M h =
    h.opened
    && (bad_size h.size || (too_many M h.size || too_short h.share (h.size + 24) (blocks (h.size + 24))))

-- one of the first n heads is broken
unfoldable pub some_broken : ℕ → ℕ → List Head → Bool
some_broken M zero hs = false
some_broken M (suc n) [] = false
some_broken M (suc n) (h ∷ hs) = broken M h || some_broken M n hs

-- S or M out of range
unfoldable pub bad_shape : ℕ → ℕ → Bool
bad_shape S M = (eqb S 0 || ltb 8 S) || (eqb M 0 || ltb 5 M)

-- number 13: S or M out of range, or a broken head below S
unfoldable pub bad_state : State → Bool
bad_state state =
    bad_shape state.slots state.blocks || some_broken state.blocks state.slots state.heads
