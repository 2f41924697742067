-- The statements of the calls on slots as C has them: the number, and afterwards the state's bytes, the store, the output and *count, as far as the call is lent them.
-- A store has a place a byte, or four (`four`, the packed forms): a call on it is that on the places that it keeps.
-- Assumes nothing.
use Rattle.std.specs.Prelude.{Bool, List, ℕ, length}
use Rattle.slots.specs.Answers.{number_of}
use Rattle.slots.specs.Calls.{open_outcome, open_store, open_down_outcome, open_down_store, receive_outcome, receive_store, read_outcome, read_output, streams_outcome, streams_output, close_outcome}
use Rattle.packing.specs.Store.{places_in, in_form}
use Rattle.state_bytes.specs.StateBytes.{state_in, bytes_after, new_number, new_bytes, value_of}
use Rattle.statements.specs.Outcome.{Given, Gives}

abbrev pub NewToCStatement : ℕ → ℕ → List ℕ → Given ℕ (List ℕ) → Type 0
NewToCStatement S M bytes = Gives (new_number S M (length bytes)) (new_bytes S M bytes)

abbrev pub CloseToCStatement : List ℕ → ℕ → ℕ → Given ℕ (List ℕ) → Type 0
CloseToCStatement bytes slot terminal =
    Gives (number_of (close_outcome (state_in bytes) slot terminal).answer) (bytes_after (close_outcome (state_in bytes) slot terminal) slot bytes)

-- state and store afterwards
abbrev pub OpenToCStatement : Bool → List ℕ → ℕ → ℕ → ℕ → List ℕ → Given ℕ (List ℕ × List ℕ) → Type 0
OpenToCStatement four bytes slot terminal A store =
    let outcome = open_outcome (state_in bytes) (length (places_in four store)) slot terminal A in
    Gives (number_of outcome.answer) (bytes_after outcome slot bytes, in_form four (open_store (state_in bytes) slot A (places_in four store)))

abbrev pub OpenDownToCStatement : Bool → List ℕ → ℕ → ℕ → ℕ → ℕ → ℕ → ℕ → ℕ → ℕ → List ℕ → Given ℕ (List ℕ × List ℕ) → Type 0
OpenDownToCStatement four bytes slot terminal A release k_mimo processes Nsoft layers store =
    let outcome = open_down_outcome (state_in bytes) (length (places_in four store)) slot terminal A release k_mimo processes Nsoft layers in
    Gives (number_of outcome.answer)
    (bytes_after outcome slot bytes, in_form four (open_down_store (state_in bytes) slot A release k_mimo processes Nsoft layers (places_in four store)))

-- store and count afterwards
abbrev pub ReceiveToCStatement : Bool → List ℕ → ℕ → ℕ → ℕ → ℕ → ℕ → List ℕ → List ℕ → ℕ → Given ℕ (List ℕ × ℕ) → Type 0
ReceiveToCStatement four bytes slot terminal Q N v bits store count =
    let outcome = receive_outcome (state_in bytes) slot terminal Q N v bits (places_in four store) in
    Gives (number_of outcome.answer)
    (in_form four (receive_store (state_in bytes) slot terminal Q N v bits (places_in four store)), value_of outcome.answer count)

-- output and count afterwards
abbrev pub ReadToCStatement : Bool → List ℕ → ℕ → ℕ → List ℕ → List ℕ → ℕ → Given ℕ (List ℕ × ℕ) → Type 0
ReadToCStatement four bytes slot terminal store out count =
    let outcome = read_outcome (state_in bytes) (places_in four store) slot terminal (length out) in
    Gives (number_of outcome.answer) (read_output (state_in bytes) (places_in four store) slot terminal out, value_of outcome.answer count)

-- output afterwards
abbrev pub StreamsToCStatement : Bool → List ℕ → ℕ → ℕ → ℕ → List ℕ → List ℕ → Given ℕ (List ℕ) → Type 0
StreamsToCStatement four bytes slot terminal r store out =
    Gives (number_of (streams_outcome (state_in bytes) (length (places_in four store)) slot terminal r (length out)).answer)
    (streams_output (state_in bytes) (places_in four store) slot terminal r out)
