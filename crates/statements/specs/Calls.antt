-- The statements of the public calls, as their contracts put them: the answer, and every lent byte afterwards.
-- Assumes nothing.
use Rattle.std.specs.Prelude.{true, List, ◌++◌, ℕ, length}
use Rattle.std.specs.declared.result.Result.{Result}
use Rattle.refusals.specs.declared.Refusal.{Refusal}
use Rattle.refusals.specs.Refusals.{number_in}
use Rattle.segmentation.specs.declared.Sizes.{Sizes}
use Rattle.segmentation.specs.Sizes.{sizes_answer}
use Rattle.codeword.specs.declared.Grant.{Grant}
use Rattle.codeword.specs.Build.{build_number, build_output}
use Rattle.codeword.specs.Downlink.{build_down_number, build_down_output}
use Rattle.planning.specs.declared.Worst.{Worst}
use Rattle.planning.specs.Worst.{worst_answer}
use Rattle.reports.specs.Calls.{report_build_number, report_build_output, part_number, part_output, data_part}
use Rattle.face.specs.Face.{sizes_number, sizes_bytes}
use Rattle.control_messages.specs.Calls.{control_number, control_output, whose_answer, terminal_of}
use Rattle.slots.specs.declared.State.{State}
use Rattle.slots.specs.Outcome.{Outcome}
use Rattle.slots.specs.Calls.{new_outcome, open_outcome, open_store, open_down_outcome, open_down_store, receive_outcome, receive_store, read_outcome, read_output, streams_outcome, streams_output, close_outcome}
use Rattle.packing.specs.Change.{pack_number, pack_output, unpack_number, unpack_output}
use Rattle.packing.specs.Store.{places_in, in_form}
use Rattle.statements.specs.Outcome.{Given, Gives}

-- Sizes and New lend nothing
abbrev pub SizesStatement : ℕ → Given (Result Sizes Refusal) (Unit {0}) → Type 0
SizesStatement A = Gives (sizes_answer A) tt

abbrev pub BuildStatement : List ℕ → Grant → List ℕ → Given ℕ (List ℕ) → Type 0
BuildStatement a g out = Gives (build_number a g (length out)) (build_output a g out)

-- Build of a block that lies in two slices: that of the joined slices
abbrev pub BuildTwoStatement : List ℕ → List ℕ → Grant → List ℕ → Given ℕ (List ℕ) → Type 0
BuildTwoStatement header payload g out = BuildStatement (header ++ payload) g out

-- Build for a downlink
abbrev pub BuildDownStatement : List ℕ → ℕ → ℕ → ℕ → ℕ → ℕ → Grant → List ℕ → Given ℕ (List ℕ) → Type 0
BuildDownStatement a release k_mimo processes Nsoft layers g out =
    Gives (build_down_number a release k_mimo processes Nsoft layers g (length out)) (build_down_output a release k_mimo processes Nsoft layers g out)

-- zemrukste_sizes; zemrukste_build_down is Build for a downlink; zemrukste_build and zemrukste_build_two are Build
abbrev pub SizesToCStatement : ℕ → List ℕ → Given ℕ (List ℕ) → Type 0
SizesToCStatement A out = Gives (sizes_number A (length out)) (sizes_bytes A out)

-- Build with a report, also zemrukste_report_build
abbrev pub ReportBuildStatement : List ℕ → ℕ → List ℕ → Grant → List ℕ → Given ℕ (List ℕ) → Type 0
ReportBuildStatement o control a g out = Gives (report_build_number o control a g (length out)) (report_build_output o control a g out)

-- the way back, also zemrukste_report_part; the data of a run lends nothing
abbrev pub ReportPartStatement : ℕ → ℕ → ℕ → ℕ → ℕ → List ℕ → List ℕ → Given ℕ (List ℕ) → Type 0
ReportPartStatement A Q N O control received out =
    Gives (part_number A Q N O control received (length out)) (part_output A Q N O control received out)

abbrev pub DataPartStatement : ℕ → ℕ → ℕ → ℕ → ℕ → List ℕ → Given (List ℕ) (Unit {0}) → Type 0
DataPartStatement A Q N O control received = Gives (data_part A Q N O control received) tt

-- a control message, also zemrukste_control_build
abbrev pub ControlStatement : List ℕ → ℕ → ℕ → List ℕ → Given ℕ (List ℕ) → Type 0
ControlStatement a t E out = Gives (control_number a E (length out)) (control_output a t E out)

-- whose a run is, and the same with the terminal number in a lent place
abbrev pub WhoseStatement : List ℕ → Given (Result ℕ Refusal) (Unit {0}) → Type 0
WhoseStatement run = Gives (whose_answer run) tt

abbrev pub WhoseToCStatement : List ℕ → ℕ → Given ℕ ℕ → Type 0
WhoseToCStatement run before = Gives (number_in (whose_answer run)) (terminal_of (whose_answer run) before)

-- how many repeats at worst
abbrev pub WorstStatement : ℕ → ℕ → ℕ → Given (Result Worst Refusal) (Unit {0}) → Type 0
WorstStatement A Q N = Gives (worst_answer A Q N) tt

-- the change of form of one room, both ways, and zemrukste_pack and zemrukste_unpack
abbrev pub PackStatement : ℕ → List ℕ → List ℕ → Given ℕ (List ℕ) → Type 0
PackStatement M from to = Gives (pack_number M (length from) (length to)) (pack_output M from to)

abbrev pub UnpackStatement : ℕ → List ℕ → List ℕ → Given ℕ (List ℕ) → Type 0
UnpackStatement M from to = Gives (unpack_number M (length from) (length to)) (unpack_output M from to)

abbrev pub NewStatement : ℕ → ℕ → Given Outcome (Unit {0}) → Type 0
NewStatement S M = Gives (new_outcome S M) tt

abbrev pub OpenStatement : State → ℕ → ℕ → ℕ → List ℕ → Given Outcome (List ℕ) → Type 0
OpenStatement state slot terminal A store =
    Gives (open_outcome state (length store) slot terminal A) (open_store state slot A store)

-- Open for a downlink
abbrev pub OpenDownStatement : State → ℕ → ℕ → ℕ → ℕ → ℕ → ℕ → ℕ → ℕ → List ℕ → Given Outcome (List ℕ) → Type 0
OpenDownStatement state slot terminal A release k_mimo processes Nsoft layers store =
    Gives (open_down_outcome state (length store) slot terminal A release k_mimo processes Nsoft layers) (open_down_store state slot A release k_mimo processes Nsoft layers store)

abbrev pub ReceiveStatement : State → ℕ → ℕ → ℕ → ℕ → ℕ → List ℕ → List ℕ → Given Outcome (List ℕ) → Type 0
ReceiveStatement state slot terminal Q N v bits store =
    Gives (receive_outcome state slot terminal Q N v bits store) (receive_store state slot terminal Q N v bits store)

abbrev pub ReadStatement : State → ℕ → ℕ → List ℕ → List ℕ → Given Outcome (List ℕ) → Type 0
ReadStatement state slot terminal store out =
    Gives (read_outcome state store slot terminal (length out)) (read_output state store slot terminal out)

abbrev pub StreamsStatement : State → ℕ → ℕ → ℕ → List ℕ → List ℕ → Given Outcome (List ℕ) → Type 0
StreamsStatement state slot terminal r store out =
    Gives (streams_outcome state (length store) slot terminal r (length out)) (streams_output state store slot terminal r out)

abbrev pub CloseStatement : State → ℕ → ℕ → Given Outcome (Unit {0}) → Type 0
CloseStatement state slot terminal = Gives (close_outcome state slot terminal) tt

-- ---- a store with four places a byte: the same calls on the places that it keeps, and it keeps the places that they leave

abbrev pub OpenPackedStatement : State → ℕ → ℕ → ℕ → List ℕ → Given Outcome (List ℕ) → Type 0
OpenPackedStatement state slot terminal A store =
    Gives (open_outcome state (length (places_in true store)) slot terminal A) (in_form true (open_store state slot A (places_in true store)))

abbrev pub OpenDownPackedStatement : State → ℕ → ℕ → ℕ → ℕ → ℕ → ℕ → ℕ → ℕ → List ℕ → Given Outcome (List ℕ) → Type 0
OpenDownPackedStatement state slot terminal A release k_mimo processes Nsoft layers store =
    Gives (open_down_outcome state (length (places_in true store)) slot terminal A release k_mimo processes Nsoft layers)
    (in_form true (open_down_store state slot A release k_mimo processes Nsoft layers (places_in true store)))

abbrev pub ReceivePackedStatement : State → ℕ → ℕ → ℕ → ℕ → ℕ → List ℕ → List ℕ → Given Outcome (List ℕ) → Type 0
ReceivePackedStatement state slot terminal Q N v bits store =
    Gives (receive_outcome state slot terminal Q N v bits (places_in true store))
    (in_form true (receive_store state slot terminal Q N v bits (places_in true store)))

-- Read and Streams do not write the store
abbrev pub ReadPackedStatement : State → ℕ → ℕ → List ℕ → List ℕ → Given Outcome (List ℕ) → Type 0
ReadPackedStatement state slot terminal store out = ReadStatement state slot terminal (places_in true store) out

abbrev pub StreamsPackedStatement : State → ℕ → ℕ → ℕ → List ℕ → List ℕ → Given Outcome (List ℕ) → Type 0
StreamsPackedStatement state slot terminal r store out = StreamsStatement state slot terminal r (places_in true store) out
