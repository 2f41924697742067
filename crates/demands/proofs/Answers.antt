-- Demand 1: every call answers on every input; a refused call returns the state as it came and writes no lent byte; and Build and Sizes are accepted in 01's ranges.
-- Which number is given when is page Numbers.
-- That every call answers is that its code is proved to return, with no duty on the caller: no public function has a premise.
-- Assumes nothing.
use mathlib.Core.Path.{◌≡◌, refl, sym, ap}
use mathlib.Core.List.{List, [], ◌∷◌, ◌++◌}
use Prim.Native.Nat.{ℕ, ◌+◌, ◌*◌, ◌≤◌}
use lib.ListN.{length, take, drop}
use borrow.Author.Tests.{ne_eqb}
use Rattle.laws.specs.Bits.{AreBits}
use Rattle.std.specs.Prelude.{Ok}
use Rattle.segmentation.specs.Segmentation.{blocks, longs, long, shorts, short, filler}
use Rattle.segmentation.specs.Sizes as sizes
use Rattle.segmentation.specs.Sizes.{sizes_of, sizes_answer}
use Rattle.codeword.specs.declared.Grant.{Grant}
use Rattle.rate_matching.specs.SoftBuffer.{soft_share}
use Rattle.codeword.specs.Codeword.{codeword, codeword_in}
use Rattle.codeword.specs.Build.{build_number, build_output}
use Rattle.codeword.specs.Downlink.{build_down_number, build_down_output}
use Rattle.build_calls.proofs.Numbers.{accepted_is}
use Rattle.report_code.specs.Code.{control_bits}
use Rattle.report_code.specs.Words.{message_bits}
use Rattle.report_code.specs.Nearest.{nearest_message}
use Rattle.reports.specs.Calls.{report_build_number, multiplexed, report_build_output, control_part, past_control, part_number, nearest_report, part_output, data_part}
use Rattle.std.specs.declared.result.Result.{Result}
use Rattle.std.specs.declared.result.Result.TheVariants.{Ok, Err}
use Rattle.refusals.specs.declared.Refusal.{Refusal}
use Rattle.refusals.specs.Refusals.{number_in}
use Rattle.control_messages.specs.Message.{message}
use Rattle.control_messages.specs.Calls as control
use Rattle.packing.specs.Change.{pack_number, pack_output, unpack_number, unpack_output}
use Rattle.slots.specs.declared.State.{State}
use Rattle.slots.specs.State.{new_state}
use Rattle.slots.specs.Answers.{number_of}
use Rattle.slots.specs.Calls.{new_outcome, open_outcome, open_store, open_down_outcome, open_down_store, receive_outcome, receive_store, read_outcome, read_output, streams_outcome, streams_output, close_outcome}
use Rattle.slots.proofs.Refused as refusing
use Rattle.demands.specs.Ranges.{Size, Allowed}
use Rattle.demands.proofs.Ranges.{size_test, allocation_test, bits_test_lem}

-- ---- Build and Sizes

-- A refused Build writes nothing.
pub build_refused : (a : List ℕ) (g : Grant) (out : List ℕ) → (build_number a g (length out) ≡ 0 → ⊥) → build_output a g out ≡ out
unfolding build_output
build_refused a g out h = rw (ne_eqb (build_number a g (length out)) 0 h)

pub build_down_refused : (a : List ℕ) (release k_mimo processes Nsoft layers : ℕ) (g : Grant) (out : List ℕ)
    → (build_down_number a release k_mimo processes Nsoft layers g (length out) ≡ 0 → ⊥)
    → build_down_output a release k_mimo processes Nsoft layers g out ≡ out
unfolding build_down_output
build_down_refused a release k_mimo processes Nsoft layers g out h = rw (ne_eqb (build_down_number a release k_mimo processes Nsoft layers g (length out)) 0 h)

-- An accepted one writes the codeword over the first G bytes of the output, and all others stay.
pub build_written : (a : List ℕ) (g : Grant) (out : List ℕ) → build_number a g (length out) ≡ 0 → build_output a g out ≡ codeword a g ++ drop g.bits out
unfolding build_output
build_written a g out e = rw e

pub build_down_written : (a : List ℕ) (release k_mimo processes Nsoft layers : ℕ) (g : Grant) (out : List ℕ)
    → build_down_number a release k_mimo processes Nsoft layers g (length out) ≡ 0
    → build_down_output a release k_mimo processes Nsoft layers g out
    ≡ codeword_in (soft_share (blocks (length a + 24)) release k_mimo processes Nsoft layers) a g ++ drop g.bits out
unfolding build_down_output
build_down_written a release k_mimo processes Nsoft layers g out e = rw e

-- A Build in range, of bits, into an output of at least G bytes, is accepted.
pub build_accepted : (a : List ℕ) (g : Grant) (lent : ℕ) → Size (length a) → Allowed (blocks (length a + 24)) g → AreBits a → g.bits ≤ lent → build_number a g lent ≡ 0
build_accepted a g lent size allowed bits fits = sym (accepted_is a g lent ((size_test (length a)).where_holds size)
    ((allocation_test (blocks (length a + 24)) g.modulation g.layers g.bits).where_holds (allowed.symbol, allowed.carried)) allowed.version fits ((bits_test_lem a).where_holds bits))

-- A Sizes in range is answered with the six numbers.
pub sizes_accepted : (A : ℕ) → Size A → sizes_answer A ≡ Ok (sizes_of A)
unfolding sizes_answer
sizes_accepted A size = rw ((size_test A).where_holds size)

-- They are C, the long blocks and their size, the short blocks and theirs, and the filler, of B = A + 24 bits.
pub sizes_values : (A : ℕ) → Size A
    → sizes.values_of (sizes_answer A) ≡ blocks (A + 24) ∷ longs (A + 24) ∷ long (A + 24) ∷ shorts (A + 24) ∷ short (A + 24) ∷ filler (A + 24) ∷ []
unfolding sizes.values_of sizes_of
sizes_values A size = ap sizes.values_of (sizes_accepted A size)

-- ---- the slots: where the number given back is not 0, 11, 16 and 12 among them, the state is the one given and no byte is written

-- New, refused, gives a state of S = 0 and M = 0 with all heads closed; it is lent nothing.
pub new_refused : (S M : ℕ) → (number_of (new_outcome S M).answer ≡ 0 → ⊥) → (new_outcome S M).state ≡ new_state 0 0
new_refused = refusing.new_refused

pub open_refused : (state : State) (slot terminal A : ℕ) (store : List ℕ) → (number_of (open_outcome state (length store) slot terminal A).answer ≡ 0 → ⊥)
    → ((open_outcome state (length store) slot terminal A).state ≡ state) × (open_store state slot A store ≡ store)
open_refused = refusing.open_refused

pub open_down_refused : (state : State) (slot terminal A release k_mimo processes Nsoft layers : ℕ) (store : List ℕ)
    → (number_of (open_down_outcome state (length store) slot terminal A release k_mimo processes Nsoft layers).answer ≡ 0 → ⊥)
    → ((open_down_outcome state (length store) slot terminal A release k_mimo processes Nsoft layers).state ≡ state)
    × (open_down_store state slot A release k_mimo processes Nsoft layers store ≡ store)
open_down_refused = refusing.open_down_refused

pub receive_refused : (state : State) (slot terminal Q N v : ℕ) (bits store : List ℕ) → (number_of (receive_outcome state slot terminal Q N v bits store).answer ≡ 0 → ⊥)
    → ((receive_outcome state slot terminal Q N v bits store).state ≡ state) × (receive_store state slot terminal Q N v bits store ≡ store)
receive_refused = refusing.receive_refused

-- Read and Streams do not write the store.
pub read_refused : (state : State) (slot terminal : ℕ) (store out : List ℕ) → (number_of (read_outcome state store slot terminal (length out)).answer ≡ 0 → ⊥)
    → ((read_outcome state store slot terminal (length out)).state ≡ state) × (read_output state store slot terminal out ≡ out)
read_refused = refusing.read_refused

pub streams_refused : (state : State) (slot terminal r : ℕ) (store out : List ℕ) → (number_of (streams_outcome state (length store) slot terminal r (length out)).answer ≡ 0 → ⊥)
    → ((streams_outcome state (length store) slot terminal r (length out)).state ≡ state) × (streams_output state store slot terminal r out ≡ out)
streams_refused = refusing.streams_refused

-- Close is lent nothing.
pub close_refused : (state : State) (slot terminal : ℕ) → (number_of (close_outcome state slot terminal).answer ≡ 0 → ⊥) → (close_outcome state slot terminal).state ≡ state
close_refused = refusing.close_refused

-- ---- the other requests

-- Build with a report (02, E3), and the way back, which parts nothing where it is refused, 19 among the refusals.
pub report_build_refused : (o : List ℕ) (control : ℕ) (a : List ℕ) (g : Grant) (out : List ℕ) → (report_build_number o control a g (length out) ≡ 0 → ⊥)
    → report_build_output o control a g out ≡ out
unfolding report_build_output
report_build_refused o control a g out h = rw (ne_eqb (report_build_number o control a g (length out)) 0 h)

pub report_build_written : (o : List ℕ) (control : ℕ) (a : List ℕ) (g : Grant) (out : List ℕ) → report_build_number o control a g (length out) ≡ 0
    → report_build_output o control a g out ≡ (control_bits o (g.layers * control) ++ codeword a g) ++ drop (g.layers * control + g.bits) out
unfolding report_build_output multiplexed
report_build_written o control a g out e = rw e

pub report_part_refused : (A Q N O control : ℕ) (received out : List ℕ) → (part_number A Q N O control received (length out) ≡ 0 → ⊥)
    → part_output A Q N O control received out ≡ out
unfolding part_output
report_part_refused A Q N O control received out h = rw (ne_eqb (part_number A Q N O control received (length out)) 0 h)

pub data_part_refused : (A Q N O control : ℕ) (received : List ℕ) → (part_number A Q N O control received O ≡ 0 → ⊥) → data_part A Q N O control received ≡ []
unfolding data_part
data_part_refused A Q N O control received h = rw (ne_eqb (part_number A Q N O control received O) 0 h)

-- Accepted, it gives the report that is nearest, and the data that follow the N·control control bits.
pub report_part_written : (A Q N O control : ℕ) (received out : List ℕ) → part_number A Q N O control received (length out) ≡ 0
    → part_output A Q N O control received out ≡ message_bits O (nearest_message O (take (N * control) received)).message ++ drop O out
unfolding part_output nearest_report control_part
report_part_written A Q N O control received out e = rw e

pub data_part_given : (A Q N O control : ℕ) (received : List ℕ) → part_number A Q N O control received O ≡ 0 → data_part A Q N O control received ≡ drop (N * control) received
unfolding data_part past_control
data_part_given A Q N O control received e = rw e

-- A downlink control message (02, E5), and whose one is: the terminal number that C lends stays.
pub control_refused : (a : List ℕ) (t E : ℕ) (out : List ℕ) → (control.control_number a E (length out) ≡ 0 → ⊥) → control.control_output a t E out ≡ out
unfolding control.control_output
control_refused a t E out h = rw (ne_eqb (control.control_number a E (length out)) 0 h)

pub control_written : (a : List ℕ) (t E : ℕ) (out : List ℕ) → control.control_number a E (length out) ≡ 0 → control.control_output a t E out ≡ message a t E ++ drop E out
unfolding control.control_output
control_written a t E out e = rw e

pub whose_refused : (run : List ℕ) (before : ℕ) → (number_in (control.whose_answer run) ≡ 0 → ⊥) → control.terminal_of (control.whose_answer run) before ≡ before
unfolding control.terminal_of
whose_refused run before h = go (control.whose_answer run) h
  where
    go : (w : Result ℕ Refusal) → (number_in w ≡ 0 → ⊥) → control.terminal_of w before ≡ before
    go (Ok t) h = absurd (h refl)
    go (Err refusal) h = refl

-- The change of form of a room (02, E7).
pub pack_refused : (M : ℕ) (from to : List ℕ) → (pack_number M (length from) (length to) ≡ 0 → ⊥) → pack_output M from to ≡ to
unfolding pack_output
pack_refused M from to h = rw (ne_eqb (pack_number M (length from) (length to)) 0 h)

pub unpack_refused : (M : ℕ) (from to : List ℕ) → (unpack_number M (length from) (length to) ≡ 0 → ⊥) → unpack_output M from to ≡ to
unfolding unpack_output
unpack_refused M from to h = rw (ne_eqb (unpack_number M (length from) (length to)) 0 h)
