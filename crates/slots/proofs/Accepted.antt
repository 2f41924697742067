-- What is known of the state, the store and the slot's head where a call's first refusals do not apply (number 0).
-- In an answer, behind `if number != 0 { return .. }`: `openable`, `closing`, `served`, or `stored` and `owned`, from what the
-- number's function ensures.
-- Assumes nothing.
use mathlib.Core.Path.{◌≡◌, refl, sym, ◌∙◌, ap}
use mathlib.Core.Bool.{Bool, true, false, cond, not, ◌||◌}
use mathlib.Core.List.{List, [], ◌∷◌, ◌++◌}
use Prim.Native.Nat.{ℕ, ◌+◌, ◌≤◌, ◌<◌}
use native.Mathlib.Nat.{mul-le-mul_right}
use native.Mathlib.Omega.{arith}
use borrow.Author.Tests.{ltb-true, ltb-false, eqb-true, not-false}
use lib.Dec.{T, eqb, ltb}
use Rattle.refusals.specs.Refusals.{Rule, rule, first_of}
use Rattle.refusals.proofs.Refusals.{numbered, first_of_append, passed, listed}
use Rattle.slots.specs.declared.Head.{Head}
use Rattle.slots.specs.declared.State.{State}
use Rattle.segmentation.specs.Segmentation.{blocks}
use Rattle.segmentation.specs.Sizes.{bad_size}
use Rattle.codeword.specs.Build.{size_rule}
use Rattle.codeword.specs.Downlink.{too_short, bad_buffer, share_for, buffer_rule}
use Rattle.slots.specs.State.{room_length, room_start, store_length, head_at, too_many, broken, bad_shape, bad_state}
use Rattle.slots.specs.Calls.{state_rule, store_rule, slot_rule, taken_rule, blocks_rule, closed_rule, terminal_rule, store_rules, owner_rules, open_rules, open_number, open_down_number, close_number, size_at_head, share_at_head}
use Rattle.slots.proofs.Tests.{or_left, or_right, inside}
use Rattle.slots.proofs.Buffers.{Wide, short_wide, buffer_found}
use Rattle.slots.proofs.Heads.{unbroken}

-- ---- the state's shape

-- S and M in range
pub record Shape (S M : ℕ) : Type 0 where
  pub slots_some : 0 < S
  pub slots_most : S ≤ 8
  pub blocks_some : 0 < M
  pub blocks_most : M ≤ 5

pub good_shape : {S M : ℕ} → bad_shape S M ≡ false → Shape S M
unfolding bad_shape
good_shape {S} {M} e =
    let s = inside S 8 (or_left (eqb S 0 || ltb 8 S) (eqb M 0 || ltb 5 M) e) in
    let m = inside M 5 (or_right (eqb S 0 || ltb 8 S) (eqb M 0 || ltb 5 M) e) in
    record { slots_some = s.0; slots_most = s.1; blocks_some = m.0; blocks_most = m.1 }

-- ---- 13

-- A in range, and at most M code blocks
pub record Fitting (M A : ℕ) : Type 0 where
  pub size_some : 0 < A
  pub size_most : A ≤ 30576
  pub few : blocks (A + 24) ≤ M

pub fitting : {M A : ℕ} → bad_size A ≡ false → too_many M A ≡ false → Fitting M A
unfolding bad_size too_many
fitting {M} {A} e f =
    let a = inside A 30576 e in
    record { size_some = a.0; size_most = a.1; few = ltb-false M (blocks (A + 24)) f }

-- what an open head that is not broken keeps to
record Told (M : ℕ) (h : Head) : Type 0 where
  pub size : bad_size h.size ≡ false
  pub few : too_many M h.size ≡ false
  pub enough : too_short h.share (h.size + 24) (blocks (h.size + 24)) ≡ false

open_told : (M : ℕ) (h : Head) → h.opened ≡ true → broken M h ≡ false → Told M h
unfolding broken
open_told M h o b =
    let short : Bool = too_short h.share (h.size + 24) (blocks (h.size + 24)) in
    let all = rw o at b in
    let rest = or_right (bad_size h.size) (too_many M h.size || short) all in
    record {
      size = or_left (bad_size h.size) (too_many M h.size || short) all;
      few = or_left (too_many M h.size) short rest;
      enough = or_right (too_many M h.size) short rest;
    }

-- an open head below S has an A that fits, and a share that is long enough
pub record Good (state : State) : Type 0 where
  pub shape : Shape state.slots state.blocks
  pub fits : (slot : ℕ) → slot < state.slots → (head_at state slot).opened ≡ true → Fitting state.blocks (size_at_head state slot)
  pub wide : (slot : ℕ) → slot < state.slots → (head_at state slot).opened ≡ true → Wide (share_at_head state slot) (size_at_head state slot + 24)

pub good : (state : State) → bad_state state ≡ false → Good state
unfolding bad_state head_at size_at_head share_at_head
good state e = record {
  shape = good_shape (or_left (bad_shape state.slots state.blocks) _ e);
  fits = λ slot l o. let told = open_told state.blocks (head_at state slot) o (whole slot l) in fitting told.size told.few;
  wide = λ slot l o. let told = open_told state.blocks (head_at state slot) o (whole slot l) in short_wide (head_at state slot).size told.size (head_at state slot).share told.enough;
}
  where
    whole : (slot : ℕ) → slot < state.slots → broken state.blocks (head_at state slot) ≡ false
    whole slot l = unbroken state.blocks state.slots slot state.heads (or_right (bad_shape state.slots state.blocks) _ e) l

-- ---- 13, 5, 6

-- the room of a slot below S ends within the rooms
pub room_within : (state : State) {slot : ℕ} → slot < state.slots → room_start state.blocks slot + room_length state.blocks ≤ store_length state
unfolding room_start store_length
room_within state h = omega (arith, mul-le-mul_right (room_length state.blocks) h)

pub record Stored (state : State) (room slot : ℕ) : Type 0 where
  pub state_good : Good state
  pub present : slot < state.slots
  pub enough : store_length state ≤ room
  pub within : room_start state.blocks slot + room_length state.blocks ≤ room

pub present_slot : (S slot : ℕ) → not (ltb slot S) ≡ false → slot < S
present_slot S slot e = ltb-true slot S (not-false (ltb slot S) e)

-- number 0 of a call that asks for the store first
pub stored : (state : State) (room slot : ℕ) (rest : List Rule) {n : ℕ} → n ≡ first_of (store_rules state room slot ++ rest) → n ≡ 0 → T (numbered rest) → Stored state room slot
unfolding store_rules
stored state room slot rest e z t =
    let clear = passed (store_rules state room slot ++ rest) e z t in
    let below = present_slot state.slots slot (clear (slot_rule state slot) (search listed)) in
    let long = ltb-false room (store_length state) (clear (store_rule state room) (search listed)) in
    record { state_good = good state (clear (state_rule state) (search listed)); present = below; enough = long; within = omega (arith, room_within state below) }

-- ---- 13, 5, 6, 7, 1, 10

-- the slot is closed, and a block of A bits fits its room
pub record Openable (state : State) (room slot A : ℕ) : Type 0 where
  pub slot_stored : Stored state room slot
  pub closed : (head_at state slot).opened ≡ false
  pub size_fits : Fitting state.blocks A

-- number 0 of Open
pub openable : (state : State) (room slot A : ℕ) {n : ℕ} → n ≡ open_number state room slot A → n ≡ 0 → Openable state room slot A
unfolding open_number open_rules store_rules
openable state room slot A e z =
    let rest = taken_rule state slot ∷ size_rule A ∷ blocks_rule state A ∷ [] in
    let clear = passed (store_rules state room slot ++ rest) e z tt in
    record {
      slot_stored = stored state room slot rest e z tt;
      closed = clear (taken_rule state slot) (search listed);
      size_fits = fitting (clear (size_rule A) (search listed)) (clear (blocks_rule state A) (search listed));
    }

-- A is in range
pub open_admitted : (state : State) (room slot A : ℕ) {n : ℕ} → n ≡ open_number state room slot A → n ≡ 0 → bad_size A ≡ false
unfolding open_number open_rules store_rules
open_admitted state room slot A e z = passed (open_rules state room slot A) e z tt (size_rule A) (search listed)

-- ---- 21 after these

module _ (state : State) (room slot A release k_mimo processes Nsoft layers : ℕ) where
  -- the number by the share as it is found
  pub down_found : first_of (open_rules state room slot A ++ (rule (too_short (share_for (blocks (A + 24)) release k_mimo processes Nsoft layers) (A + 24) (blocks (A + 24))) 21 ∷ []))
      ≡ open_down_number state room slot A release k_mimo processes Nsoft layers
  unfolding open_down_number open_number open_rules store_rules
  down_found =
      first_of_append (open_rules state room slot A) _ tt
      ∙ go (eqb (first_of (open_rules state room slot A)) 0) refl
      ∙ sym (first_of_append (open_rules state room slot A) _ tt)
    where
      short : ℕ → Bool
      short soft = too_short soft (A + 24) (blocks (A + 24))

      go : (b : Bool) → eqb (first_of (open_rules state room slot A)) 0 ≡ b
          → cond b (first_of (rule (short (share_for (blocks (A + 24)) release k_mimo processes Nsoft layers)) 21 ∷ [])) (first_of (open_rules state room slot A))
          ≡ cond b (first_of (rule (bad_buffer (A + 24) release k_mimo processes Nsoft layers) 21 ∷ [])) (first_of (open_rules state room slot A))
      go true z = ap (λ (t : Bool). first_of (rule t 21 ∷ [])) (buffer_found A (open_admitted state room slot A refl (eqb-true _ 0 z)) release k_mimo processes Nsoft layers)
      go false z = refl

  -- number 0 of Open for a downlink: none of Open's applies
  pub down_open : open_down_number state room slot A release k_mimo processes Nsoft layers ≡ 0 → open_number state room slot A ≡ 0
  unfolding open_down_number open_number open_rules store_rules
  down_open e = go (eqb (first_of (open_rules state room slot A)) 0) refl (sym (first_of_append (open_rules state room slot A) _ tt) ∙ e)
    where
      go : (b : Bool) → eqb (first_of (open_rules state room slot A)) 0 ≡ b
          → cond b (first_of (rule (bad_buffer (A + 24) release k_mimo processes Nsoft layers) 21 ∷ [])) (first_of (open_rules state room slot A)) ≡ 0
          → first_of (open_rules state room slot A) ≡ 0
      go true z h = eqb-true _ 0 z
      go false z h = h

  -- nor 21
  pub down_buffer : open_down_number state room slot A release k_mimo processes Nsoft layers ≡ 0 → bad_buffer (A + 24) release k_mimo processes Nsoft layers ≡ false
  unfolding open_down_number open_rules store_rules
  down_buffer e =
      let last = buffer_rule (A + 24) release k_mimo processes Nsoft layers in passed (open_rules state room slot A ++ (last ∷ [])) refl e tt last (search listed)

-- ---- 8, 9

-- the slot is open for the terminal
pub record Owned (state : State) (slot terminal : ℕ) : Type 0 where
  pub state_good : Good state
  pub present : slot < state.slots
  pub opened : (head_at state slot).opened ≡ true
  pub theirs : (head_at state slot).terminal ≡ terminal
  pub size_fits : Fitting state.blocks (size_at_head state slot)
  pub wide : Wide (share_at_head state slot) (size_at_head state slot + 24)

own : (state : State) (slot terminal : ℕ) → bad_state state ≡ false → not (ltb slot state.slots) ≡ false → not (head_at state slot).opened ≡ false
    → not (eqb (head_at state slot).terminal terminal) ≡ false → Owned state slot terminal
own state slot terminal bad absent closed other =
    let below = present_slot state.slots slot absent in
    let is_open = not-false (head_at state slot).opened closed in
    record {
      state_good = good state bad;
      present = below;
      opened = is_open;
      theirs = eqb-true (head_at state slot).terminal terminal (not-false (eqb (head_at state slot).terminal terminal) other);
      size_fits = (good state bad).fits slot below is_open;
      wide = (good state bad).wide slot below is_open;
    }

-- number 0 of a call that asks for the store and the owner first
pub owned : (state : State) (room slot terminal : ℕ) (rest : List Rule) {n : ℕ} → n ≡ first_of (store_rules state room slot ++ (owner_rules state slot terminal ++ rest)) → n ≡ 0
    → T (numbered rest) → Owned state slot terminal
unfolding store_rules owner_rules
owned state room slot terminal rest e z t =
    let clear = passed (store_rules state room slot ++ (owner_rules state slot terminal ++ rest)) e z t in
    own state slot terminal (clear (state_rule state) (search listed)) (clear (slot_rule state slot) (search listed))
    (clear (closed_rule state slot) (search listed)) (clear (terminal_rule state slot terminal) (search listed))

-- number 0 of `owner_number`
pub served : (state : State) (room slot terminal : ℕ) {n : ℕ} → n ≡ first_of (store_rules state room slot ++ owner_rules state slot terminal) → n ≡ 0
    → Stored state room slot × Owned state slot terminal
unfolding owner_rules
served state room slot terminal e z =
    (stored state room slot (owner_rules state slot terminal) e z tt, owned state room slot terminal [] e z tt)

-- number 0 of Close
pub closing : (state : State) (slot terminal : ℕ) {n : ℕ} → n ≡ close_number state slot terminal → n ≡ 0 → Owned state slot terminal
unfolding close_number owner_rules
closing state slot terminal e z =
    let clear = passed (state_rule state ∷ slot_rule state slot ∷ owner_rules state slot terminal) e z tt in
    own state slot terminal (clear (state_rule state) (search listed)) (clear (slot_rule state slot) (search listed))
    (clear (closed_rule state slot) (search listed)) (clear (terminal_rule state slot terminal) (search listed))
