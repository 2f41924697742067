-- Every statement of a public call admits a single outcome: one law for all of them (01, 'How firm the statements must be').
-- Assumes nothing.
use mathlib.Core.Path.{◌≡◌, sym, ◌∙◌, ap}
use mathlib.Core.List.{List, [], append-nil}
use Prim.Native.Nat.{ℕ}
use Rattle.codeword.specs.declared.Grant.{Grant}
use Rattle.slots.specs.declared.State.{State}
use Rattle.statements.specs.Outcome.{Gives, SingleOutcome}
use Rattle.statements.specs.Calls.{SizesStatement, BuildStatement, BuildTwoStatement, BuildDownStatement, SizesToCStatement, ReportBuildStatement, ReportPartStatement, DataPartStatement, ControlStatement, WhoseStatement, WhoseToCStatement, WorstStatement, PackStatement, UnpackStatement, NewStatement, OpenStatement, OpenDownStatement, ReceiveStatement, ReadStatement, StreamsStatement, CloseStatement, OpenPackedStatement, OpenDownPackedStatement, ReceivePackedStatement, ReadPackedStatement, StreamsPackedStatement}

-- the law: what an answer and the bytes afterwards are said to be, they are
pub single : {A B : Type 0} (answer : A) (after : B) → SingleOutcome (Gives answer after)
single answer after x y p q =
    λ i. record { answer = (p.answers ∙ sym q.answers) i; after = (p.leaves ∙ sym q.leaves) i }

pub sizes_single : (A : ℕ) → SingleOutcome (SizesStatement A)
sizes_single A = single _ _

pub build_single : (a : List ℕ) (g : Grant) (out : List ℕ) → SingleOutcome (BuildStatement a g out)
build_single a g out = single _ _

pub build_two_single : (header payload : List ℕ) (g : Grant) (out : List ℕ) → SingleOutcome (BuildTwoStatement header payload g out)
build_two_single header payload g out = single _ _

pub build_down_single : (a : List ℕ) (release k_mimo processes Nsoft layers : ℕ) (g : Grant) (out : List ℕ) → SingleOutcome (BuildDownStatement a release k_mimo processes Nsoft layers g out)
build_down_single a release k_mimo processes Nsoft layers g out = single _ _

-- with an empty second slice it is Build
pub empty_second : (a : List ℕ) (g : Grant) (out : List ℕ) → BuildTwoStatement a [] g out ≡ BuildStatement a g out
empty_second a g out = ap (λ (l : List ℕ). BuildStatement l g out) (append-nil a)

pub sizes_to_c_single : (A : ℕ) (out : List ℕ) → SingleOutcome (SizesToCStatement A out)
sizes_to_c_single A out = single _ _

pub report_build_single : (o : List ℕ) (control : ℕ) (a : List ℕ) (g : Grant) (out : List ℕ) → SingleOutcome (ReportBuildStatement o control a g out)
report_build_single o control a g out = single _ _

pub report_part_single : (A Q N O control : ℕ) (received out : List ℕ) → SingleOutcome (ReportPartStatement A Q N O control received out)
report_part_single A Q N O control received out = single _ _

pub data_part_single : (A Q N O control : ℕ) (received : List ℕ) → SingleOutcome (DataPartStatement A Q N O control received)
data_part_single A Q N O control received = single _ _

pub control_single : (a : List ℕ) (t E : ℕ) (out : List ℕ) → SingleOutcome (ControlStatement a t E out)
control_single a t E out = single _ _

pub whose_single : (run : List ℕ) → SingleOutcome (WhoseStatement run)
whose_single run = single _ _

pub whose_to_c_single : (run : List ℕ) (before : ℕ) → SingleOutcome (WhoseToCStatement run before)
whose_to_c_single run before = single _ _

pub worst_single : (A Q N : ℕ) → SingleOutcome (WorstStatement A Q N)
worst_single A Q N = single _ _

pub pack_single : (M : ℕ) (from to : List ℕ) → SingleOutcome (PackStatement M from to)
pack_single M from to = single _ _

pub unpack_single : (M : ℕ) (from to : List ℕ) → SingleOutcome (UnpackStatement M from to)
unpack_single M from to = single _ _

pub new_single : (S M : ℕ) → SingleOutcome (NewStatement S M)
new_single S M = single _ _

pub open_single : (state : State) (slot terminal A : ℕ) (store : List ℕ) → SingleOutcome (OpenStatement state slot terminal A store)
open_single state slot terminal A store = single _ _

pub open_down_single : (state : State) (slot terminal A release k_mimo processes Nsoft layers : ℕ) (store : List ℕ)
    → SingleOutcome (OpenDownStatement state slot terminal A release k_mimo processes Nsoft layers store)
open_down_single state slot terminal A release k_mimo processes Nsoft layers store = single _ _

pub receive_single : (state : State) (slot terminal Q N v : ℕ) (bits store : List ℕ) → SingleOutcome (ReceiveStatement state slot terminal Q N v bits store)
receive_single state slot terminal Q N v bits store = single _ _

pub read_single : (state : State) (slot terminal : ℕ) (store out : List ℕ) → SingleOutcome (ReadStatement state slot terminal store out)
read_single state slot terminal store out = single _ _

pub streams_single : (state : State) (slot terminal r : ℕ) (store out : List ℕ) → SingleOutcome (StreamsStatement state slot terminal r store out)
streams_single state slot terminal r store out = single _ _

pub close_single : (state : State) (slot terminal : ℕ) → SingleOutcome (CloseStatement state slot terminal)
close_single state slot terminal = single _ _

pub open_packed_single : (state : State) (slot terminal A : ℕ) (store : List ℕ) → SingleOutcome (OpenPackedStatement state slot terminal A store)
open_packed_single state slot terminal A store = single _ _

pub open_down_packed_single : (state : State) (slot terminal A release k_mimo processes Nsoft layers : ℕ) (store : List ℕ)
    → SingleOutcome (OpenDownPackedStatement state slot terminal A release k_mimo processes Nsoft layers store)
open_down_packed_single state slot terminal A release k_mimo processes Nsoft layers store = single _ _

pub receive_packed_single : (state : State) (slot terminal Q N v : ℕ) (bits store : List ℕ) → SingleOutcome (ReceivePackedStatement state slot terminal Q N v bits store)
receive_packed_single state slot terminal Q N v bits store = single _ _

pub read_packed_single : (state : State) (slot terminal : ℕ) (store out : List ℕ) → SingleOutcome (ReadPackedStatement state slot terminal store out)
read_packed_single state slot terminal store out = single _ _

pub streams_packed_single : (state : State) (slot terminal r : ℕ) (store out : List ℕ) → SingleOutcome (StreamsPackedStatement state slot terminal r store out)
streams_packed_single state slot terminal r store out = single _ _
