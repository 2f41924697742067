-- What a replayed log answers to a call that gives bits: Read, Streams and Build; and to Open for a downlink, which gives a share.
-- Assumes nothing.
use Rattle.std.specs.Prelude.{cond, List, [], ◌∷◌, ℕ, ◌+◌, eqb, length, get_or}
use Rattle.laws.specs.Lists.{tab}
use Rattle.segmentation.specs.Segmentation.{blocks, size_of, filler_of}
use Rattle.rate_matching.specs.SoftBuffer.{soft_share}
use Rattle.codeword.specs.declared.Grant.{Grant}
use Rattle.codeword.specs.Codeword.{codeword, codeword_in}
use Rattle.codeword.specs.Build.{build_number}
use Rattle.codeword.specs.Downlink.{build_down_number}
use Rattle.slots.specs.declared.State.{State}
use Rattle.slots.specs.Outcome.{Outcome}
use Rattle.slots.specs.Answers.{is_done}
use Rattle.slots.specs.Room.{room_at, circle_at}
use Rattle.slots.specs.Circle.{stream_on}
use Rattle.slots.specs.Reading.{heard_block}
use Rattle.slots.specs.Calls.{size_at_head, share_at_head, released, read_outcome, streams_number, streams_outcome}
use Rattle.answers.specs.Rows.{accepted_row, answer_row, refusal_row, run_row, runs_row}
use Rattle.call_rows.specs.Rooms.{read_room, streams_room, build_room}

-- number i of the line's numbers, the first being number 0
abbrev pub at : List ℕ → ℕ → ℕ
at n i = get_or n i 0

-- what Open for a downlink tells: the share that the head now holds, or the refusal
unfoldable pub share_row : Outcome → ℕ → List ℕ
share_row o slot =
    cond (is_done o.answer) (accepted_row (share_at_head o.state slot ∷ [])) (answer_row o.answer)

-- the block where it is released, else the refusal
unfoldable pub read_row : State → List ℕ → ℕ → ℕ → List ℕ
read_row state store slot terminal =
    cond (released state store slot terminal read_room)
    (run_row (heard_block (size_at_head state slot) (room_at state.blocks slot store)))
    (answer_row (read_outcome state store slot terminal read_room).answer)

-- D of code block r of a slot
unfoldable pub stream_length : State → ℕ → ℕ → ℕ
stream_length state slot r = size_of (size_at_head state slot + 24) r + 4

-- stream s of code block r of a slot
unfoldable pub stream_run : State → List ℕ → ℕ → ℕ → ℕ → List ℕ
stream_run state store slot r s =
    tab (stream_length state slot r)
    (stream_on (circle_at r (room_at state.blocks slot store)) (stream_length state slot r) (filler_of (size_at_head state slot + 24) r) s)

-- the three streams, or the refusal
unfoldable pub streams_row : State → List ℕ → ℕ → ℕ → ℕ → List ℕ
streams_row state store slot terminal r =
    cond (eqb (streams_number state (length store) slot terminal r streams_room) 0)
    (runs_row (stream_run state store slot r 0) (stream_run state store slot r 1) (stream_run state store slot r 2))
    (answer_row (streams_outcome state (length store) slot terminal r streams_room).answer)

-- a codeword, or the refusal with this number
unfoldable pub built_row : ℕ → List ℕ → List ℕ
built_row number code = cond (eqb number 0) (run_row code) (refusal_row number)

unfoldable pub build_row : List ℕ → Grant → List ℕ
build_row block g = built_row (build_number block g build_room) (codeword block g)

-- for a downlink
unfoldable pub build_down_row : List ℕ → ℕ → ℕ → ℕ → ℕ → ℕ → Grant → List ℕ
build_down_row block release k_mimo processes Nsoft layers g =
    built_row
    (build_down_number block release k_mimo processes Nsoft layers g build_room)
    (codeword_in (soft_share (blocks (length block + 24)) release k_mimo processes Nsoft layers) block g)
