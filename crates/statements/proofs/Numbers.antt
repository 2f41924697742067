-- 01's numbers of the answers: for each call on a slot the number given back is that of the first refusal that applies, in 01's order, and 0 where none does.
-- Assumes nothing.
use mathlib.Core.Path.{◌≡◌, refl, sym, ◌∙◌, ap}
use mathlib.Core.Bool.{Bool, true, false, cond, not}
use mathlib.Core.List.{List, [], ◌∷◌, ◌++◌}
use Prim.Native.Nat.{ℕ}
use lib.Dec.{eqb, ltb}
use lib.ListN.{length}
use borrow.Author.Tests.{eqb-true}
use Rattle.refusals.specs.Refusals.{Rule, rule, first_of}
use Rattle.refusals.proofs.Refusals.{first_of_append}
use Rattle.slots.specs.declared.State.{State}
use Rattle.slots.specs.Outcome.{Outcome}
use Rattle.slots.specs.Outcome.{Done, Refused}
use Rattle.slots.specs.State.{bad_shape}
use Rattle.slots.specs.Answers.{number_of, Lacking, WrongBlock, unless_refused}
use Rattle.slots.specs.Room.{room_at}
use Rattle.slots.specs.Reading.{lacking, first_wrong, some_wrong, wrong_check, heard_answer}
use Rattle.slots.specs.Calls.{store_rules, owner_rules, size_at_head, new_outcome, open_number, open_outcome, open_down_number, open_down_outcome, receive_number, receive_outcome, read_number, read_outcome, streams_number, streams_outcome, close_number, close_outcome}

-- an accepted outcome has number 0, a refused one its number
given : (n : ℕ) (state : State) (accepted : Outcome) → number_of accepted.answer ≡ 0 → number_of (unless_refused n state accepted).answer ≡ n
unfolding unless_refused number_of
given n state accepted e = go (eqb n 0) refl
  where
    go : (t : Bool) → eqb n 0 ≡ t → number_of (cond t accepted (record { answer = Refused n; state = state })).answer ≡ n
    go true h = e ∙ sym (eqb-true n 0 h)
    go false h = refl

pub new_number_lem : (S M : ℕ) → number_of (new_outcome S M).answer ≡ first_of (rule (bad_shape S M) 13 ∷ [])
unfolding new_outcome number_of
new_number_lem S M = given _ _ _ refl

pub open_number_lem : (state : State) (room slot terminal A : ℕ) → number_of (open_outcome state room slot terminal A).answer ≡ open_number state room slot A
unfolding open_outcome number_of
open_number_lem state room slot terminal A = given _ _ _ refl

pub open_down_number_lem : (state : State) (room slot terminal A release k_mimo processes Nsoft layers : ℕ)
    → number_of (open_down_outcome state room slot terminal A release k_mimo processes Nsoft layers).answer ≡ open_down_number state room slot A release k_mimo processes Nsoft layers
unfolding open_down_outcome number_of
open_down_number_lem state room slot terminal A release k_mimo processes Nsoft layers = given _ _ _ refl

pub receive_number_lem : (state : State) (slot terminal Q N v : ℕ) (bits store : List ℕ)
    → number_of (receive_outcome state slot terminal Q N v bits store).answer ≡ receive_number state (length store) slot terminal Q N v bits
unfolding receive_outcome number_of
receive_number_lem state slot terminal Q N v bits store = given _ _ _ refl

pub streams_number_lem : (state : State) (room slot terminal r size : ℕ)
    → number_of (streams_outcome state room slot terminal r size).answer ≡ streams_number state room slot terminal r size
unfolding streams_outcome number_of
streams_number_lem state room slot terminal r size = given _ _ _ refl

pub close_number_lem : (state : State) (slot terminal : ℕ) → number_of (close_outcome state slot terminal).answer ≡ close_number state slot terminal
unfolding close_outcome number_of
close_number_lem state slot terminal = given _ _ _ refl

-- Read's refusals from the room: 11, 16, 12
abbrev pub room_rules : ℕ → List ℕ → List Rule
room_rules A room =
    rule (not (eqb (lacking A room) 0)) 11 ∷ rule (some_wrong A room) 16 ∷ rule (wrong_check A room) 12 ∷ []

-- and all of them: 13, 5 (store), 6, 8, 9, 5 (output), 11, 16, 12
abbrev pub read_rules : State → List ℕ → ℕ → ℕ → ℕ → List Rule
read_rules state store slot terminal size =
    (store_rules state (length store) slot ++ (owner_rules state slot terminal ++ (rule (ltb size (size_at_head state slot)) 5 ∷ [])))
    ++ room_rules (size_at_head state slot) (room_at state.blocks slot store)

-- the room is looked at only where the rules before it do not apply
room_number : (A : ℕ) (room : List ℕ) → number_of (heard_answer A room) ≡ first_of (room_rules A room)
unfolding heard_answer number_of first_of
room_number A room = go (eqb (lacking A room) 0) (some_wrong A room) (wrong_check A room)
  where
    go : (u s w : Bool)
        → number_of (cond u (cond s (WrongBlock (first_wrong A room)) (cond w (Refused 12) Done)) (Lacking (lacking A room)))
        ≡ first_of (rule (not u) 11 ∷ rule s 16 ∷ rule w 12 ∷ [])
    go true true w = refl
    go true false true = refl
    go true false false = refl
    go false s w = refl

after : (n : ℕ) (state : State) (accepted : Outcome) → number_of (unless_refused n state accepted).answer ≡ cond (eqb n 0) (number_of accepted.answer) n
unfolding unless_refused number_of
after n state accepted = go (eqb n 0)
  where
    go : (t : Bool) → number_of (cond {A = Outcome} t accepted (record { answer = Refused n; state = state })).answer ≡ cond t (number_of accepted.answer) n
    go true = refl
    go false = refl

pub read_number_lem : (state : State) (store : List ℕ) (slot terminal size : ℕ)
    → number_of (read_outcome state store slot terminal size).answer ≡ first_of (read_rules state store slot terminal size)
unfolding read_outcome read_number store_rules owner_rules
read_number_lem state store slot terminal size =
    after (read_number state (length store) slot terminal size) state _
    ∙ ap (λ (k : ℕ). cond (eqb (read_number state (length store) slot terminal size) 0) k (read_number state (length store) slot terminal size))
    (room_number (size_at_head state slot) (room_at state.blocks slot store))
    ∙ sym
    (first_of_append
    (store_rules state (length store) slot ++ (owner_rules state slot terminal ++ (rule (ltb size (size_at_head state slot)) 5 ∷ [])))
    (room_rules (size_at_head state slot) (room_at state.blocks slot store))
    tt)
