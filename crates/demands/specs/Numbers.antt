-- 01's 'Numbers given back' and 02's, call by call: the rows in the papers' order, each with when it is passed over, in the papers' words.
-- Assumes nothing.
use Rattle.std.specs.Prelude.{◌≡◌, true, false, List, ℕ, ◌+◌, ◌-◌, ◌*◌, ◌≤◌, ◌<◌, length}
use Rattle.laws.specs.Bits.{AreBits}
use Rattle.segmentation.specs.Segmentation.{blocks, size_of}
use Rattle.codeword.specs.declared.Grant.{Grant}
use Rattle.slots.specs.declared.State.{State}
use Rattle.slots.specs.State.{head_at}
use Rattle.slots.specs.Room.{room_at}
use Rattle.slots.specs.Reading.{lacking}
use Rattle.slots.specs.Checks.{blocks_at, RightBlock, RightTransport}
use Rattle.report_code.specs.Nearest.{nearest_message}
use Rattle.reports.specs.Calls.{control_part}
use Rattle.demands.specs.Ranges.{Size, Symbol, Length, Receiver, Control, Within, Shape, Sound}

-- ---- the first that applies is given, and none where none applies

-- past the last row: 0
pub data None (n : ℕ) : Type 0 where
  none : n ≡ 0 → None n

-- a row: where what it asks for holds, the number is what the next rows say, and where it does not, k
pub data Unless (asked : Type 0) (k : ℕ) (next : ℕ → Type 0) (n : ℕ) : Type 0 where
  passed : asked → next n → Unless asked k next n
  given : (asked → ⊥) → n ≡ k → Unless asked k next n

-- ---- Build and Sizes

-- Sizes: 1
unfoldable pub SizesGives : ℕ → ℕ → Type 0
SizesGives A = Unless (Size A) 1 None

-- C's Sizes, which are six numbers of four bytes: 1, 5
unfoldable pub SizesBytesGives : ℕ → ℕ → ℕ → Type 0
SizesBytesGives A size = Unless (Size A) 1 (Unless (24 ≤ size) 5 None)

-- Build: 1, 3, 4, 5, 2; size is the length of the output
unfoldable pub BuildGives : List ℕ → Grant → ℕ → ℕ → Type 0
BuildGives a g size =
    Unless (Size (length a)) 1
    (Unless (Symbol g.modulation g.layers) 3
    (Unless (Length (blocks (length a + 24)) g.modulation g.layers g.bits) 3
    (Unless (g.version ≤ 3) 4
    (Unless (g.bits ≤ size) 5
    (Unless (AreBits a) 2 None)))))

-- Build for a downlink (02, E6): 1, 21, 3, 4, 5, 2
unfoldable pub BuildDownGives : List ℕ → ℕ → ℕ → ℕ → ℕ → ℕ → Grant → ℕ → ℕ → Type 0
BuildDownGives a release k_mimo processes Nsoft layers g size =
    Unless (Size (length a)) 1
    (Unless (Receiver (length a + 24) release k_mimo processes Nsoft layers) 21
    (Unless (Symbol g.modulation g.layers) 3
    (Unless (Length (blocks (length a + 24)) g.modulation g.layers g.bits) 3
    (Unless (g.version ≤ 3) 4
    (Unless (g.bits ≤ size) 5
    (Unless (AreBits a) 2 None))))))

-- how many repeats at worst (02, E8): 1, 3
unfoldable pub WorstGives : ℕ → ℕ → ℕ → ℕ → Type 0
WorstGives A Q N = Unless (Size A) 1 (Unless (Symbol Q N) 3 None)

-- ---- the slots

-- New: 13
unfoldable pub NewGives : ℕ → ℕ → ℕ → Type 0
NewGives S M = Unless (Shape S M) 13 None

-- C's New, into a state of `size` bytes: 5 for a state that is too short, then 13
unfoldable pub NewBytesGives : ℕ → ℕ → ℕ → ℕ → Type 0
NewBytesGives S M size = Unless (272 ≤ size) 5 (NewGives S M)

-- 13, 5 (store), 6, and then the next rows; lent is the length of the store
abbrev pub store_rows : State → ℕ → ℕ → (ℕ → Type 0) → ℕ → Type 0
store_rows state lent slot next =
    Unless (Sound state) 13 (Unless (state.slots * (state.blocks * 18528) ≤ lent) 5 (Unless (slot < state.slots) 6 next))

-- 8, 9
abbrev pub owner_rows : State → ℕ → ℕ → (ℕ → Type 0) → ℕ → Type 0
owner_rows state slot terminal next =
    Unless ((head_at state slot).opened ≡ true) 8 (Unless ((head_at state slot).terminal ≡ terminal) 9 next)

-- 13, 5, 6, 7, 1, 10
abbrev pub open_rows : State → ℕ → ℕ → ℕ → (ℕ → Type 0) → ℕ → Type 0
open_rows state lent slot A next =
    store_rows state lent slot
    (Unless ((head_at state slot).opened ≡ false) 7 (Unless (Size A) 1 (Unless (blocks (A + 24) ≤ state.blocks) 10 next)))

-- Open
unfoldable pub OpenGives : State → ℕ → ℕ → ℕ → ℕ → Type 0
OpenGives state lent slot A = open_rows state lent slot A None

-- Open for a downlink (02, E6): 21 after them
unfoldable pub OpenDownGives : State → ℕ → ℕ → ℕ → ℕ → ℕ → ℕ → ℕ → ℕ → ℕ → Type 0
OpenDownGives state lent slot A release k_mimo processes Nsoft layers =
    open_rows state lent slot A (Unless (Receiver (A + 24) release k_mimo processes Nsoft layers) 21 None)

-- Receive: 13, 5, 6, 8, 9, 3, 4, 2
unfoldable pub ReceiveGives : State → ℕ → ℕ → ℕ → ℕ → ℕ → ℕ → List ℕ → ℕ → Type 0
ReceiveGives state lent slot terminal Q N v bits =
    store_rows state lent slot
    (owner_rows state slot terminal
    (Unless (Symbol Q N × Length (blocks ((head_at state slot).size + 24)) Q N (length bits)) 3 (Unless (v ≤ 3) 4 (Unless (AreBits bits) 2 None))))

-- Read: 13, 5, 6, 8, 9, 5 (output), 11, 16 (02, E1), 12
unfoldable pub ReadGives : State → List ℕ → ℕ → ℕ → ℕ → ℕ → Type 0
ReadGives state store slot terminal size =
    store_rows state (length store) slot
    (owner_rows state slot terminal
    (Unless ((head_at state slot).size ≤ size) 5
    (Unless (lacking (head_at state slot).size (room_at state.blocks slot store) ≡ 0) 11
    (Unless (1 < blocks_at state slot → (r : ℕ) → r < blocks_at state slot → RightBlock state store slot r) 16
    (Unless (RightTransport state store slot) 12 None)))))

-- Streams: 13, 5, 6, 8, 9, 14, 5 (output); three runs of D = K + 4 bytes
unfoldable pub StreamsGives : State → ℕ → ℕ → ℕ → ℕ → ℕ → ℕ → Type 0
StreamsGives state lent slot terminal r size =
    store_rows state lent slot
    (owner_rows state slot terminal
    (Unless (r < blocks ((head_at state slot).size + 24)) 14 (Unless (3 * (size_of ((head_at state slot).size + 24) r + 4) ≤ size) 5 None)))

-- Close: 13, 6, 8, 9
unfoldable pub CloseGives : State → ℕ → ℕ → ℕ → Type 0
CloseGives state slot terminal =
    Unless (Sound state) 13 (Unless (slot < state.slots) 6 (owner_rows state slot terminal None))

-- ---- the other requests

-- what both calls with a report ask first (02, E3): 1, 3 for Q and N, 17, 18
abbrev pub report_rows : ℕ → ℕ → ℕ → ℕ → ℕ → (ℕ → Type 0) → ℕ → Type 0
report_rows A Q N O control next =
    Unless (Size A) 1 (Unless (Symbol Q N) 3 (Unless (Within 1 11 O) 17 (Unless (Control Q control) 18 next)))

-- Build with a report: then 3 for G, 4, 5, 2
unfoldable pub ReportBuildGives : List ℕ → ℕ → List ℕ → Grant → ℕ → ℕ → Type 0
ReportBuildGives o control a g size =
    report_rows (length a) g.modulation g.layers (length o) control
    (Unless (Length (blocks (length a + 24)) g.modulation g.layers g.bits) 3
    (Unless (g.version ≤ 3) 4
    (Unless (g.layers * control + g.bits ≤ size) 5
    (Unless (AreBits o) 2 (Unless (AreBits a) 2 None)))))

-- the way back: then 3 for G, 5, 2, and 19 last
unfoldable pub ReportPartGives : ℕ → ℕ → ℕ → ℕ → ℕ → List ℕ → ℕ → ℕ → Type 0
ReportPartGives A Q N O control received size =
    report_rows A Q N O control
    (Unless (Length (blocks (A + 24)) Q N (length received - N * control)) 3
    (Unless (O ≤ size) 5
    (Unless (AreBits received) 2
    (Unless ((nearest_message O (control_part N control received)).tied ≡ false) 19 None))))

-- a downlink control message (02, E5): 20, 3, 5, 2
unfoldable pub ControlGives : List ℕ → ℕ → ℕ → ℕ → Type 0
ControlGives a E size =
    Unless (Within 1 64 (length a)) 20 (Unless (Within 1 4096 E) 3 (Unless (E ≤ size) 5 (Unless (AreBits a) 2 None)))

-- whose a run of payload and check bits is: 20, 2
unfoldable pub WhoseGives : List ℕ → ℕ → Type 0
WhoseGives run = Unless (Within 17 80 (length run)) 20 (Unless (AreBits run) 2 None)

-- the change of form of a room (02, E7): 13, 5, with 18,528·M bytes on one side and 4,632·M on the other
unfoldable pub PackGives : ℕ → ℕ → ℕ → ℕ → Type 0
PackGives M from to = Unless (Within 1 5 M) 13 (Unless (M * 18528 ≤ from) 5 (Unless (M * 4632 ≤ to) 5 None))

unfoldable pub UnpackGives : ℕ → ℕ → ℕ → ℕ → Type 0
UnpackGives M from to = Unless (Within 1 5 M) 13 (Unless (M * 4632 ≤ from) 5 (Unless (M * 18528 ≤ to) 5 None))
