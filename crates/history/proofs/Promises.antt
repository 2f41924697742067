-- Demand 3 in one place, in its own order: each promise with all its premises, and as its proof the theorem that shows it.
-- S, M, store₀ and h are any numbers, any bytes and any history; what a history, a state after it and an accepted reception are, specs/ says. A slot's share of the
-- soft buffer is what its head holds (02, E6): 18,528 in an uplink, so that no circle is cut.
-- Assumes nothing.
use mathlib.Core.Path.{◌≡◌, refl}
use mathlib.Core.Bool.{true, false, cond}
use mathlib.Core.List.{List, [], ◌∷◌, ◌++◌}
use Prim.Native.Nat.{ℕ, ◌+◌, ◌*◌, ◌≤◌, ◌<◌}
use lib.Dec.{eqb}
use lib.ListN.{length, drop}
use Rattle.laws.specs.Bits.{AreBits}
use Rattle.segmentation.specs.Segmentation.{blocks, size_of}
use Rattle.segmentation.specs.Sizes.{bad_size}
use Rattle.rate_matching.specs.SoftBuffer.{whole_share}
use Rattle.codeword.specs.Build.{bad_modulation, bad_layers, bad_allocation}
use Rattle.slots.specs.Outcome.{Done, StillLacking}
use Rattle.slots.specs.declared.State.{State}
use Rattle.slots.specs.State.{head_at, bad_shape}
use Rattle.slots.specs.Answers.{number_of, values_of, Lacking, is_done}
use Rattle.slots.specs.Room.{room_at, circle_at}
use Rattle.slots.specs.Circle.{kept_on}
use Rattle.slots.specs.Reading.{checked_answer, heard_block}
use Rattle.slots.specs.Checks.{blocks_at, RightBlock, RightTransport}
use Rattle.slots.proofs.Checks as checking
use Rattle.slots.specs.Calls.{size_at_head, share_at_head, receive_number, receive_outcome, read_number, read_outcome, read_output, streams_output}
use Rattle.history.specs.Links.{Link, uplink, share_in}
use Rattle.history.specs.Calls.{Reception, Call, opening, receiving, Made, History}
use Rattle.history.specs.Run.{run}
use Rattle.history.specs.Answered.{answer_to, slot_of, SameRoom, SameSlot, own_calls}
use Rattle.history.specs.Agreed.{holding}
use Rattle.history.specs.Sent.{True, AllTrue, among, DataPlace, sent_data, arrivals_at, decided_data, unsent, undecided, AllSent, NoneSent, AllDecided, data_places}
use Rattle.history.specs.After.{made, state_after, rooms_after, store_after, rooms_long, accepted_after}
use Rattle.history.specs.Holds.{Holds}
use Rattle.history.specs.Later.{Undisturbed, accepted_in, Withheld}
use Rattle.history.specs.Repeats.{Some, WholeTurn, turn_bits, Enough}
use Rattle.history.proofs.State.{heads}
use Rattle.history.proofs.Holds as holding
use Rattle.history.proofs.Heads as heading
use Rattle.history.proofs.Others as others
use Rattle.history.proofs.Depends as depending
use Rattle.history.proofs.Own as owning
use Rattle.history.proofs.Release as releasing
use Rattle.history.proofs.DataPlaces as counting
use Rattle.history.proofs.June as incident
use Rattle.history.proofs.ReleaseTrue as truth
use Rattle.history.proofs.Disputes as disputing
use Rattle.history.proofs.Parity as parity
use Rattle.history.proofs.Opening as opens
use Rattle.history.proofs.Alone as alone
use Rattle.history.proofs.Repeats as repeating
use Rattle.history.proofs.RepeatsCounted as counted

-- ---- what a place holds

-- The room of an open slot has, for each circle place of each of its code blocks, what the bits accepted for it since that opening say
-- together (`holding` of `arrivals`); the rest of the room is unheard. `Holds` has these two equations.
pub place_holds : (S M : ℕ) (store₀ : List ℕ) (h : History) (slot : ℕ) → slot < S → (head_at (state_after S M store₀ h) slot).opened ≡ true
    → let state : State = state_after S M store₀ h in
    Holds (share_at_head state slot) M slot (size_at_head state slot) (accepted_after S M store₀ h slot) (rooms_after S M store₀ h)
unfolding size_at_head share_at_head
place_holds S M store₀ h slot below is_open =
    rw (heads S M store₀ h) (holding.holds S M store₀ slot below h (rw (heads S M store₀ h) at is_open))

-- `holding`, 02 E2: the bit on which all bits accepted for a place agree, disputed (3) if they differ, unheard (2) if none was accepted.
-- `among c bits` says that c is one of the bits.
pub place_agreed : (bits : List ℕ) (b : ℕ) → among b bits ≡ true → ((c : ℕ) → among c bits ≡ true → c ≡ b) → holding bits ≡ b
place_agreed = disputing.holds_agreed

pub place_disputed : (bits : List ℕ) (b c : ℕ) → among b bits ≡ true → among c bits ≡ true → (b ≡ c → ⊥) → holding bits ≡ 3
place_disputed = disputing.holds_disputed

pub place_unheard : holding [] ≡ 2
place_unheard = disputing.holds_none

-- ---- when a block is released

-- If all that was accepted since the opening are true transmissions of one block, a read that is not refused for its arguments gives that
-- block exactly when every data place was sent; else it answers how many were not, and the output stays.
pub block_released : (S M : ℕ) (store₀ : List ℕ) (h : History) (past : List ℕ) (slot terminal : ℕ) (a : List ℕ)
    → let state : State = state_after S M store₀ h in
    let store : List ℕ = store_after S M store₀ h past in
    let accepted : List Reception = accepted_after S M store₀ h slot in
    let soft : ℕ = share_at_head state slot in
    AreBits a
    → size_at_head state slot ≡ length a
    → AllTrue soft a accepted
    → (out : List ℕ)
    → read_number state (length store) slot terminal (length out) ≡ 0
    → (read_outcome state store slot terminal (length out)
    ≡ record { answer = cond (eqb (unsent soft (length a) accepted) 0) Done (Lacking (unsent soft (length a) accepted)); state = state })
    × (read_output state store slot terminal out ≡ cond (eqb (unsent soft (length a) accepted) 0) (a ++ drop (length a) out) out)
block_released = releasing.released_iff

-- Not sooner: while one data place was not sent, no read whatever answers Done or writes a byte.
-- The place is i of stream 0 of code block r, filler left out.
pub not_sooner : (S M : ℕ) (store₀ : List ℕ) (h : History) (past : List ℕ) (slot terminal : ℕ) (a : List ℕ)
    → let state : State = state_after S M store₀ h in
    let store : List ℕ = store_after S M store₀ h past in
    let accepted : List Reception = accepted_after S M store₀ h slot in
    let soft : ℕ = share_at_head state slot in
    AreBits a
    → size_at_head state slot ≡ length a
    → AllTrue soft a accepted
    → (out : List ℕ) (r i : ℕ)
    → DataPlace (length a) r i
    → sent_data soft (length a) accepted r i ≡ false
    → ((read_outcome state store slot terminal (length out)).answer ≡ Done → ⊥) × (read_output state store slot terminal out ≡ out)
not_sooner = incident.not_sooner

-- Nor later: once every data place was sent, the first read that is not refused for its arguments gives the block.
-- Its bits are the front of the output, and the rest of the output stays.
pub at_once : (S M : ℕ) (store₀ : List ℕ) (h : History) (past : List ℕ) (slot terminal : ℕ) (a : List ℕ)
    → let state : State = state_after S M store₀ h in
    let store : List ℕ = store_after S M store₀ h past in
    let accepted : List Reception = accepted_after S M store₀ h slot in
    let soft : ℕ = share_at_head state slot in
    AreBits a
    → size_at_head state slot ≡ length a
    → AllTrue soft a accepted
    → (out : List ℕ)
    → AllSent soft (length a) accepted
    → read_number state (length store) slot terminal (length out) ≡ 0
    → (read_outcome state store slot terminal (length out) ≡ record { answer = Done; state = state })
    × (read_output state store slot terminal out ≡ a ++ drop (length a) out)
at_once = incident.at_once

-- Whatever was received, 02 E1: where a read gives a block, the bits that it gives were heard with their transport check after them, and with more than
-- one code block each of them was heard with its CRC24B at its end, filler counted as 0. Any state and store, no history is asked for.
pub checks_right : (state : State) (store : List ℕ) (slot terminal : ℕ) (out : List ℕ)
    → number_of (read_outcome state store slot terminal (length out)).answer ≡ 0
    → (read_output state store slot terminal out
    ≡ heard_block (size_at_head state slot) (room_at state.blocks slot store) ++ drop (size_at_head state slot) out)
    × RightTransport state store slot
    × (1 < blocks_at state slot → (r : ℕ) → r < blocks_at state slot → RightBlock state store slot r)
checks_right state store slot terminal out e =
    let right = checking.released_right state store slot terminal (length out) e in
    (checking.released_given state store slot terminal (length out) out refl e, right.0, right.1)

-- Where it answers 16 with r there are several code blocks, all before r are right, and r is wrong.
-- The number and its value are those of 01's table.
pub wrong_block_named : (state : State) (store : List ℕ) (slot terminal size r : ℕ)
    → number_of (read_outcome state store slot terminal size).answer ≡ 16
    → values_of (read_outcome state store slot terminal size).answer ≡ r ∷ []
    → (1 < blocks_at state slot)
    × (r < blocks_at state slot)
    × ((q : ℕ) → q < r → RightBlock state store slot q)
    × (RightBlock state store slot r → ⊥)
wrong_block_named = checking.block_wrong

-- Where it comes to the room and answers 12, every one of several code blocks is right: 16 comes first.
-- What was heard after the block is not its transport check.
pub wrong_transport_last : (state : State) (store : List ℕ) (slot terminal size : ℕ)
    → read_number state (length store) slot terminal size ≡ 0
    → number_of (read_outcome state store slot terminal size).answer ≡ 12
    → (1 < blocks_at state slot → (r : ℕ) → r < blocks_at state slot → RightBlock state store slot r)
    × (RightTransport state store slot → ⊥)
wrong_transport_last = checking.transport_wrong

-- ---- two different bits for one place

-- Whatever was accepted, 02 E2: where a read gives a block, at every data place the room has a bit that was accepted since the opening, and no
-- accepted bit contradicts it.
pub released_uncontradicted : (S M : ℕ) (store₀ : List ℕ) (h : History) (past : List ℕ) (slot terminal : ℕ) (out : List ℕ)
    → let state : State = state_after S M store₀ h in
    let store : List ℕ = store_after S M store₀ h past in
    let A : ℕ = size_at_head state slot in
    let soft : ℕ = share_at_head state slot in
    (read_outcome state store slot terminal (length out)).answer ≡ Done
    → (r i : ℕ)
    → DataPlace A r i
    → let bits : List ℕ = arrivals_at soft A (accepted_after S M store₀ h slot) r i in
    let bit : ℕ = kept_on (circle_at r (room_at state.blocks slot store)) (size_of (A + 24) r + 4) 0 i in
    (among bit bits ≡ true) × ((c : ℕ) → among c bits ≡ true → c ≡ bit)
released_uncontradicted = disputing.given_agreed

-- Two different bits accepted for one data place withhold the block until the slot is closed: whatever calls come later, as long as none of them
-- closes the slot (an open one cannot be opened), no read answers Done or writes a byte.
pub contradiction_withholds : (S M : ℕ) (store₀ : List ℕ) (h : History) (slot r i b c : ℕ)
    → (let A : ℕ = size_at_head (state_after S M store₀ h) slot in
    let soft : ℕ = share_at_head (state_after S M store₀ h) slot in
    let bits : List ℕ = arrivals_at soft A (accepted_after S M store₀ h slot) r i in
    DataPlace A r i × (among b bits ≡ true) × (among c bits ≡ true) × (b ≡ c → ⊥))
    → (later : History)
    → Undisturbed S M (rooms_long S M store₀) slot later h
    → (past : List ℕ) (terminal : ℕ) (out : List ℕ)
    → let state : State = state_after S M store₀ (later ++ h) in
    let store : List ℕ = store_after S M store₀ (later ++ h) past in
    ((read_outcome state store slot terminal (length out)).answer ≡ Done → ⊥) × (read_output state store slot terminal out ≡ out)
contradiction_withholds = disputing.disputed_stays

-- And nothing else withholds it but a place unheard or a wrong check: once the bits accepted for each data place agree, a read that is not
-- refused for its arguments answers what the checks say (`checked_answer`: 16, then 12, then Done), and where they are right it gives the bits.
pub nothing_else_withholds : (S M : ℕ) (store₀ : List ℕ) (h : History) (past : List ℕ) (slot terminal : ℕ) (out : List ℕ)
    → let state : State = state_after S M store₀ h in
    let store : List ℕ = store_after S M store₀ h past in
    let room : List ℕ = room_at state.blocks slot store in
    let A : ℕ = size_at_head state slot in
    let soft : ℕ = share_at_head state slot in
    read_number state (length store) slot terminal (length out) ≡ 0
    → AllDecided soft A (accepted_after S M store₀ h slot)
    → (read_outcome state store slot terminal (length out) ≡ record { answer = checked_answer A room; state = state })
    × (read_output state store slot terminal out ≡ cond (is_done (checked_answer A room)) (heard_block A room ++ drop A out) out)
nothing_else_withholds = disputing.decided_checked

-- True transmissions of one block never contradict each other: a data place is decided exactly when it was sent.
-- So demand 3 for them reads as before.
pub true_agree : (soft : ℕ) (a : List ℕ) → length a ≤ 30576 → AreBits a → (xs : List Reception) → AllTrue soft a xs
    → (r i : ℕ) → r < blocks (length a + 24) → decided_data soft (length a) xs r i ≡ sent_data soft (length a) xs r i
true_agree soft a small bits xs true_all r i h = truth.true_decided soft a small bits xs true_all r _ h

-- ---- the count

-- Whatever was accepted, 02 E2: Receive answers for how many data places no bit was accepted or the accepted ones differ, this reception
-- among them.
pub reception_undecided : (S M : ℕ) (store₀ : List ℕ) (h : History) (past : List ℕ) (slot terminal : ℕ) (x : Reception)
    → let state : State = state_after S M store₀ h in
    let store : List ℕ = store_after S M store₀ h past in
    receive_number state (length store) slot terminal x.Q x.N x.version x.bits ≡ 0
    → receive_outcome state slot terminal x.Q x.N x.version x.bits store
    ≡ record { answer = StillLacking (undecided (share_at_head state slot) (size_at_head state slot) (x ∷ accepted_after S M store₀ h slot)); state = state }
reception_undecided = disputing.reception_any

-- Read, not refused for its arguments, answers 11 with that number where there is such a place, and writes nothing.
-- The count is over the calls, never over a room.
pub reading_undecided : (S M : ℕ) (store₀ : List ℕ) (h : History) (past : List ℕ) (slot terminal : ℕ) (out : List ℕ)
    → let state : State = state_after S M store₀ h in
    let store : List ℕ = store_after S M store₀ h past in
    let n : ℕ = undecided (share_at_head state slot) (size_at_head state slot) (accepted_after S M store₀ h slot) in
    read_number state (length store) slot terminal (length out) ≡ 0
    → (n ≡ 0 → ⊥)
    → Withheld state store slot terminal out n
reading_undecided = disputing.undecided_withheld

-- If all are true transmissions of one block, that is how many data places the history has not sent.
-- The count is over the calls, never over a room.
pub reception_counted : (S M : ℕ) (store₀ : List ℕ) (h : History) (past : List ℕ) (slot terminal : ℕ) (a : List ℕ)
    → let state : State = state_after S M store₀ h in
    let store : List ℕ = store_after S M store₀ h past in
    let accepted : List Reception = accepted_after S M store₀ h slot in
    let soft : ℕ = share_at_head state slot in
    AreBits a
    → size_at_head state slot ≡ length a
    → AllTrue soft a accepted
    → (x : Reception)
    → True soft a x
    → receive_number state (length store) slot terminal x.Q x.N x.version x.bits ≡ 0
    → receive_outcome state slot terminal x.Q x.N x.version x.bits store
    ≡ record { answer = StillLacking (unsent soft (length a) (x ∷ accepted)); state = state }
reception_counted = releasing.received_count

-- How many data places there are: the block and its check, A + 24, and with more than one code block 24 for each of them.
-- None sent gives this count, all sent gives 0.
pub places_single : (A : ℕ) → A ≤ 30576 → blocks (A + 24) ≡ 1 → data_places A ≡ A + 24
places_single = counting.data_places_single

pub places_several : (A : ℕ) → A ≤ 30576 → 1 < blocks (A + 24) → data_places A ≡ A + 24 + 24 * blocks (A + 24)
places_several = counting.data_places_several

pub none_sent : (soft A : ℕ) (xs : List Reception) → NoneSent soft A xs → unsent soft A xs ≡ data_places A
none_sent = counting.unsent_all

pub all_sent : (soft A : ℕ) (xs : List Reception) → AllSent soft A xs → unsent soft A xs ≡ 0
all_sent = counting.unsent_none

-- ---- number 13

-- In a history that starts from an accepted New no call is answered with 13.
-- S from 1 to 8 and M from 1 to 5 are all that is asked.
pub never_13 : (S M : ℕ) (store₀ : List ℕ) (h : History) → bad_shape S M ≡ false → (past : List ℕ) (call : Call)
    → number_of (answer_to (state_after S M store₀ h) (store_after S M store₀ h past) call) ≡ 13 → ⊥
never_13 = heading.never_13

-- ---- calls on other slots

-- A call that names another slot changes neither this slot's head nor a byte of its room.
-- It may be any call with any arguments, accepted or not.
pub others_change_nothing : (S M : ℕ) (store₀ : List ℕ) (h : History) (m : Made) (slot : ℕ) → (slot ≡ slot_of m.call → ⊥)
    → (head_at (state_after S M store₀ (m ∷ h)) slot ≡ head_at (state_after S M store₀ h) slot)
    × SameRoom (state_after S M store₀ h).blocks slot (rooms_after S M store₀ (m ∷ h)) (rooms_after S M store₀ h)
unfolding run
others_change_nothing S M store₀ h m slot other =
    (others.others_head (run S M store₀ h) m slot other, others.others_room (run S M store₀ h) m slot other)

-- So a call on a slot is answered, and Read and Streams write, as if the calls on other slots had never been made.
-- `own_calls slot h` are the calls of h that name the slot.
pub others_answer_nothing : (S M : ℕ) (store₀ : List ℕ) (slot : ℕ) (h : History) (past : List ℕ) (call : Call) → slot_of call ≡ slot
    → answer_to (state_after S M store₀ h) (store_after S M store₀ h past) call
    ≡ answer_to (state_after S M store₀ (own_calls slot h)) (store_after S M store₀ (own_calls slot h) past) call
others_answer_nothing = owning.own_answer

pub others_read_nothing : (S M : ℕ) (store₀ : List ℕ) (slot : ℕ) (h : History) (past : List ℕ) (terminal : ℕ) (out : List ℕ)
    → read_output (state_after S M store₀ h) (store_after S M store₀ h past) slot terminal out
    ≡ read_output (state_after S M store₀ (own_calls slot h)) (store_after S M store₀ (own_calls slot h) past) slot terminal out
others_read_nothing = owning.own_read

pub others_stream_nothing : (S M : ℕ) (store₀ : List ℕ) (slot : ℕ) (h : History) (past : List ℕ) (terminal r : ℕ) (out : List ℕ)
    → streams_output (state_after S M store₀ h) (store_after S M store₀ h past) slot terminal r out
    ≡ streams_output (state_after S M store₀ (own_calls slot h)) (store_after S M store₀ (own_calls slot h) past) slot terminal r out
others_stream_nothing = owning.own_streams

-- ---- what an answer depends on

-- Any two states and stores that agree on S, M, the lent length, this head, this room, and on whether some head is broken give the same
-- answer, and Read and Streams the same output. `SameSlot` lists that agreement; no history is asked for.
pub answer_depends : (slot : ℕ) (state other : State) (store other_store : List ℕ) → SameSlot slot state other store other_store
    → (call : Call) → slot_of call ≡ slot → answer_to state store call ≡ answer_to other other_store call
answer_depends = depending.answer_depends

pub read_depends : (slot : ℕ) (state other : State) (store other_store : List ℕ) → SameSlot slot state other store other_store
    → (terminal : ℕ) (out : List ℕ) → read_output state store slot terminal out ≡ read_output other other_store slot terminal out
read_depends = depending.read_depends

pub streams_depends : (slot : ℕ) (state other : State) (store other_store : List ℕ) → SameSlot slot state other store other_store
    → (terminal r : ℕ) (out : List ℕ) → streams_output state store slot terminal r out ≡ streams_output other other_store slot terminal r out
streams_depends = depending.streams_depends

-- ---- June

-- An accepted opening starts the slot's receptions anew: none that came before it counts.
-- After it only those count that the later calls had accepted.
pub opening_anew : (S M : ℕ) (store₀ : List ℕ) (earlier : History) (past₀ : List ℕ) (link : Link) (slot terminal A : ℕ)
    → answer_to (state_after S M store₀ earlier) (store_after S M store₀ earlier past₀) (opening link slot terminal A) ≡ Done
    → (later : History)
    → let opened : History = made (opening link slot terminal A) past₀ earlier in
    accepted_after S M store₀ (later ++ opened) slot ≡ accepted_in S M (rooms_long S M store₀) slot later opened
opening_anew = incident.only_later

-- Whatever the store held and whoever had used the slot before: after an accepted opening and any calls that leave the slot open, a read by
-- its terminal gives the block exactly when the receptions accepted since then sent every data place.
pub released_since_opening : (S M : ℕ) (store₀ : List ℕ) (earlier : History) (past₀ : List ℕ) (link : Link) (slot terminal A : ℕ)
    → answer_to (state_after S M store₀ earlier) (store_after S M store₀ earlier past₀) (opening link slot terminal A) ≡ Done
    → (later : History)
    → let opened : History = made (opening link slot terminal A) past₀ earlier in
    let heard : List Reception = accepted_in S M (rooms_long S M store₀) slot later opened in
    let state : State = state_after S M store₀ (later ++ opened) in
    Undisturbed S M (rooms_long S M store₀) slot later opened
    → (past : List ℕ) (a : List ℕ)
    → AreBits a
    → length a ≡ A
    → AllTrue (share_in link A) a heard
    → (out : List ℕ)
    → A ≤ length out
    → (read_outcome state (store_after S M store₀ (later ++ opened) past) slot terminal (length out)
    ≡ record { answer = cond (eqb (unsent (share_in link A) A heard) 0) Done (Lacking (unsent (share_in link A) A heard)); state = state })
    × (read_output state (store_after S M store₀ (later ++ opened) past) slot terminal out ≡ cond (eqb (unsent (share_in link A) A heard) 0) (a ++ drop A out) out)
released_since_opening = incident.after_opening

-- Directly after the opening a read by its terminal answers 11 with the count of all data places, and writes nothing.
-- The bytes of the store and the earlier history are any.
pub june_opened : (S M : ℕ) (store₀ : List ℕ) (earlier : History) (past₀ : List ℕ) (link : Link) (slot terminal A : ℕ)
    → answer_to (state_after S M store₀ earlier) (store_after S M store₀ earlier past₀) (opening link slot terminal A) ≡ Done
    → (past : List ℕ) (out : List ℕ)
    → A ≤ length out
    → let opened : History = made (opening link slot terminal A) past₀ earlier in
    Withheld (state_after S M store₀ opened) (store_after S M store₀ opened past) slot terminal out (data_places A)
june_opened = incident.june_opened

-- And so it does after one reception of a true transmission that sends parity alone: what another car's block left behind, were it whole,
-- is never given out.
pub june_parity : (S M : ℕ) (store₀ : List ℕ) (earlier : History) (past₀ : List ℕ) (link : Link) (slot terminal A : ℕ)
    → answer_to (state_after S M store₀ earlier) (store_after S M store₀ earlier past₀) (opening link slot terminal A) ≡ Done
    → (past : List ℕ) (out : List ℕ)
    → A ≤ length out
    → (sender : ℕ) (x : Reception) (past₁ : List ℕ) (a : List ℕ)
    → AreBits a
    → length a ≡ A
    → True (share_in link A) a x
    → NoneSent (share_in link A) A (x ∷ [])
    → let heard : History = made (receiving slot sender x) past₁ (made (opening link slot terminal A) past₀ earlier) in
    Withheld (state_after S M store₀ heard) (store_after S M store₀ heard past) slot terminal out (data_places A)
june_parity = incident.june_parity

-- There are such transmissions in an uplink: with A = 16, Q = 2, N = 1 and version 2 the first 64 bits send no data place.
-- So a read after them answers 11 with 40, as 01 says.
pub parity_alone : (bits : List ℕ) → length bits ≡ 64 → NoneSent whole_share 16 (record { Q = 2; N = 1; version = 2; bits = bits } ∷ [])
parity_alone = parity.parity_alone

-- ---- both links in one store

-- Slots of an uplink and of a downlink stand side by side: every promise above goes by the share at the slot's own head. After an accepted opening and any calls that
-- leave the slot open that is the link's, 02 E6: 18,528 for an uplink, ⌊N_IR / C⌋ for a downlink (`share_in`).
pub share_since_opening : (S M : ℕ) (store₀ : List ℕ) (earlier : History) (past₀ : List ℕ) (link : Link) (slot terminal A : ℕ)
    → answer_to (state_after S M store₀ earlier) (store_after S M store₀ earlier past₀) (opening link slot terminal A) ≡ Done
    → (later : History)
    → let opened : History = made (opening link slot terminal A) past₀ earlier in
    Undisturbed S M (rooms_long S M store₀) slot later opened
    → share_at_head (state_after S M store₀ (later ++ opened)) slot ≡ share_in link A
share_since_opening = opens.still_share

-- What N_cb ≥ 32·R buys: whichever the link, the share and the version, one true transmission with as many bits for every code block as its circle, cut, has places
-- (`WholeTurn`) gives the block alone.
pub alone_since_opening : (S M : ℕ) (store₀ : List ℕ) (earlier : History) (past₀ : List ℕ) (link : Link) (slot terminal A : ℕ)
    → answer_to (state_after S M store₀ earlier) (store_after S M store₀ earlier past₀) (opening link slot terminal A) ≡ Done
    → (later : History)
    → let opened : History = made (opening link slot terminal A) past₀ earlier in
    let heard : List Reception = accepted_in S M (rooms_long S M store₀) slot later opened in
    let state : State = state_after S M store₀ (later ++ opened) in
    Undisturbed S M (rooms_long S M store₀) slot later opened
    → (past : List ℕ) (a : List ℕ)
    → AreBits a
    → length a ≡ A
    → AllTrue (share_in link A) a heard
    → (out : List ℕ)
    → A ≤ length out
    → Some (WholeTurn (share_in link A) A) heard
    → (read_outcome state (store_after S M store₀ (later ++ opened) past) slot terminal (length out) ≡ record { answer = Done; state = state })
    × (read_output state (store_after S M store₀ (later ++ opened) past) slot terminal out ≡ a ++ drop A out)
alone_since_opening = alone.gives_alone_since

-- The same of any history, opened as it may be, for a read that is not refused for its arguments.
-- The premises are those of demand 3's release.
pub alone_at_once : (S M : ℕ) (store₀ : List ℕ) (h : History) (past : List ℕ) (slot terminal : ℕ) (a : List ℕ)
    → let state : State = state_after S M store₀ h in
    let store : List ℕ = store_after S M store₀ h past in
    let accepted : List Reception = accepted_after S M store₀ h slot in
    let soft : ℕ = share_at_head state slot in
    AreBits a
    → size_at_head state slot ≡ length a
    → AllTrue soft a accepted
    → (out : List ℕ)
    → read_number state (length store) slot terminal (length out) ≡ 0
    → Some (WholeTurn soft (length a)) accepted
    → (read_outcome state store slot terminal (length out) ≡ record { answer = Done; state = state })
    × (read_output state store slot terminal out ≡ a ++ drop (length a) out)
alone_at_once = alone.gives_alone

-- There is such a G for every block, share, Q and N, and it is accepted: 18,576·C (`turn_bits`).
-- A, Q and N are such as 01 accepts, the share and the version any.
pub alone_exists : (soft A Q N : ℕ) → bad_size A ≡ false → bad_modulation Q ≡ false → bad_layers N ≡ false
    → (bad_allocation (blocks (A + 24)) Q N (turn_bits A) ≡ false)
    × ((version : ℕ) (bits : List ℕ) → length bits ≡ turn_bits A → WholeTurn soft A (record { Q = Q; N = N; version = version; bits = bits }))
alone_exists soft A Q N admitted modulation layers = (
  alone.turn_allocated A Q N admitted modulation layers,
  λ version bits long r below. rw long (alone.turn_gives A Q N admitted modulation layers soft r below),
)

-- ---- how many repeats at worst

-- Whatever the store held, whoever had used the slot before, and whatever other calls stand between: after an accepted opening for an uplink, a read by its terminal gives the block
-- once enough true transmissions of it were accepted, in any order. `Enough` has the ways: one each of versions 0, 1 and 3 with at least 24·R bits for every code
-- block of its own R, or one alone, of any version, with at least 3·D − 2·F bits for code block 0 and 3·D for each other; and both in a planner's terms, by the
-- least G that `worst A Q N` tells. Other true transmissions, of version 2 or any, change nothing.
pub enough_repeats : (S M : ℕ) (store₀ : List ℕ) (earlier : History) (past₀ : List ℕ) (slot terminal A : ℕ)
    → answer_to (state_after S M store₀ earlier) (store_after S M store₀ earlier past₀) (opening uplink slot terminal A) ≡ Done
    → (later : History)
    → let opened : History = made (opening uplink slot terminal A) past₀ earlier in
    let heard : List Reception = accepted_in S M (rooms_long S M store₀) slot later opened in
    let state : State = state_after S M store₀ (later ++ opened) in
    Undisturbed S M (rooms_long S M store₀) slot later opened
    → (past : List ℕ) (a : List ℕ)
    → AreBits a
    → length a ≡ A
    → AllTrue whole_share a heard
    → (out : List ℕ)
    → A ≤ length out
    → Enough A heard
    → (read_outcome state (store_after S M store₀ (later ++ opened) past) slot terminal (length out) ≡ record { answer = Done; state = state })
    × (read_output state (store_after S M store₀ (later ++ opened) past) slot terminal out ≡ a ++ drop A out)
enough_repeats = repeating.gives_since

-- The same of any history after which the head holds an uplink's share, for a read that is not refused for its arguments.
-- The other premises are those of demand 3's release.
pub enough_at_once : (S M : ℕ) (store₀ : List ℕ) (h : History) (past : List ℕ) (slot terminal : ℕ) (a : List ℕ)
    → let state : State = state_after S M store₀ h in
    let store : List ℕ = store_after S M store₀ h past in
    let accepted : List Reception = accepted_after S M store₀ h slot in
    AreBits a
    → size_at_head state slot ≡ length a
    → share_at_head state slot ≡ whole_share
    → AllTrue whole_share a accepted
    → (out : List ℕ)
    → read_number state (length store) slot terminal (length out) ≡ 0
    → Enough (length a) accepted
    → (read_outcome state store slot terminal (length out) ≡ record { answer = Done; state = state })
    × (read_output state store slot terminal out ≡ a ++ drop (length a) out)
enough_at_once = repeating.gives

-- A reception counts for these from the moment it was answered with a count of places, wherever it stands among the calls after the opening.
-- `after` and `before` are the calls later and earlier than it.
pub reception_counts : (such : Reception → Type 0) (S M : ℕ) (store₀ : List ℕ) (opened before : History) (past : List ℕ) (slot terminal : ℕ) (x : Reception) (n : ℕ)
    → answer_to (state_after S M store₀ (before ++ opened)) (store_after S M store₀ (before ++ opened) past) (receiving slot terminal x) ≡ StillLacking n
    → such x
    → (after : History)
    → Undisturbed S M (rooms_long S M store₀) slot (after ++ made (receiving slot terminal x) past before) opened
    → Some such (accepted_in S M (rooms_long S M store₀) slot (after ++ made (receiving slot terminal x) past before) opened)
reception_counts = counted.counts
