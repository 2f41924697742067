-- Demand 3 for a C caller: what he keeps stands for the state and the rooms of the same history, so that every promise over histories is one of his (`history_in_c`).
-- Assumes nothing.
use mathlib.Core.Path.{◌≡◌, refl, sym, ◌∙◌, ap}
use mathlib.Core.Bool.{Bool, true, false, cond}
use mathlib.Core.List.{List, [], ◌∷◌}
use Prim.Native.Nat.{ℕ, ◌≤◌}
use lib.Dec.{eqb}
use lib.ListN.{length, take}
use Rattle.slots.specs.declared.State.{State}
use Rattle.slots.specs.Outcome.{Answer}
use Rattle.slots.specs.Outcome.{Refused}
use Rattle.slots.specs.Outcome.{Outcome}
use Rattle.slots.specs.Answers.{unless_refused}
use Rattle.slots.specs.Calls.{receive_outcome, read_outcome, streams_outcome}
use Rattle.history.specs.Links.{uplink, downlink, opening_outcome}
use Rattle.history.specs.Calls.{Call, opening, receiving, reading, streaming, closing, Made, History}
use Rattle.history.specs.Run.{World, lent, outcome_of, store_after_call, step, begin, run}
use Rattle.state_bytes.specs.StateBytes.{state_length, state_in}
use Rattle.state_bytes.proofs.Handed.{new_handed, open_handed, down_handed, close_handed}
use Rattle.statements.specs.HistoryInC.{Kept, world_of, bytes_after_call, step_in_c, run_in_c, TypedLink, Typed, AllTyped}

-- a call that returns the state as it came
state_kept : (n : ℕ) (state : State) (answer : Answer) → (unless_refused n state (record { answer = answer; state = state })).state ≡ state
unfolding unless_refused
state_kept n state answer = go (eqb n 0)
  where
    go : (b : Bool) → (cond {A = Outcome} b (record { answer = answer; state = state }) (record { answer = Refused n; state = state })).state ≡ state
    go true = refl
    go false = refl

-- after each call the bytes stand for the state that it returns
pub call_handed : (bytes store : List ℕ) (call : Call) → Typed call → state_in (bytes_after_call bytes store call) ≡ (outcome_of (state_in bytes) store call).state
unfolding bytes_after_call outcome_of opening_outcome receive_outcome read_outcome streams_outcome Typed TypedLink
call_handed bytes store (opening uplink slot terminal A) t = open_handed bytes (length store) slot terminal A t.0
call_handed bytes store (opening (downlink release k_mimo processes Nsoft layers) slot terminal A) t =
    down_handed bytes (length store) slot terminal A release k_mimo processes Nsoft layers t.0 t.1
call_handed bytes store (receiving slot terminal r) t = sym (state_kept _ (state_in bytes) _)
call_handed bytes store (reading slot terminal size) t = sym (state_kept _ (state_in bytes) _)
call_handed bytes store (streaming slot terminal block size) t = sym (state_kept _ (state_in bytes) _)
call_handed bytes store (closing slot terminal) t = close_handed bytes slot terminal

step_handed : (k : Kept) (m : Made) → Typed m.call → world_of (step_in_c k m) ≡ step (world_of k) m
unfolding step_in_c step
step_handed k m t =
    ap (λ (s : State). record { state = s; rooms = take (length k.rooms) (store_after_call (state_in k.bytes) (lent (world_of k) m.past) m.call) })
    (call_handed k.bytes (lent (world_of k) m.past) m.call t)

pub history_in_c : (S M : ℕ) (bytes store : List ℕ) (h : History) → state_length ≤ length bytes → AllTyped h → world_of (run_in_c S M bytes store h) ≡ run S M store h
unfolding run_in_c run begin AllTyped
history_in_c S M bytes store [] long t = rw (new_handed bytes S M long)
history_in_c S M bytes store (m ∷ h) long t =
    step_handed (run_in_c S M bytes store h) m t.0 ∙ ap (λ (w : World). step w m) (history_in_c S M bytes store h long t.1)
